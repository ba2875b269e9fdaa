use Rattle.std.proofs.Common.{true, refl}
use Rattle.centre_laws.proofs.Once.{is_ideal}
use Rattle.centre_laws.proofs.Kept.{stands_once}
use Rattle.centre_laws.proofs.sendings.law_once.Goals as goal

pub returns : goal.returns
returns c x ok spaced no_crash = record {
  ideal = is_ideal c.law_repeats.ensures x ok spaced;
  once = λ later earlier n m via clock b is. stands_once true x x.steps later earlier n m via clock b refl is spaced no_crash;
}
