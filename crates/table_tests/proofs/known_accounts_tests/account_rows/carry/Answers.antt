use Rattle.known_accounts.proofs.Numbered.{room_for_one}
use Rattle.table_tests.proofs.known_accounts_tests.account_rows.carry.Goals as goal

pub place-place-requires : goal.place-place-requires
place-place-requires c = room_for_one c.args.rows.now c.args.x.now.account c.requires
