use Rattle.centre_store.proofs.OpeningOnce.{one_opening}
use Rattle.centre_store.proofs.laws.law_one_opening.Goals as goal

pub returns : goal.returns
returns c = one_opening
