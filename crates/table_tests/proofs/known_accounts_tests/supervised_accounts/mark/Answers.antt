use Rattle.known_accounts.proofs.Numbered.{room_for_one}
use Rattle.known_accounts.specs.Supervised.{IsPlaceOf}
use Rattle.table_tests.proofs.known_accounts_tests.supervised_accounts.mark.Goals as goal

pub place-place-requires : goal.place-place-requires
place-place-requires g c = room_for_one c.reserve.new.accounts.rows _ c.reserve.ensures
