use Rattle.known_accounts.proofs.Numbered.{room_for_one, stands_within}
use Rattle.table_tests.proofs.known_accounts_tests.account_rows.hear.Goals as goal

pub place-place-requires : goal.place-place-requires
place-place-requires c = room_for_one c.args.rows.now c.args.account.now c.requires

pub hear-requires : goal.hear-requires
hear-requires c = stands_within c.place-place.new.self.rows c.args.account.now c.place-place.result c.place-place.ensures.there
