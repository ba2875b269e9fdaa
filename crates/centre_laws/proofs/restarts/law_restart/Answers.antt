use Rattle.std.proofs.Common.{true, false, refl}
use Rattle.centre_laws.proofs.Once.{is_ideal}
use Rattle.centre_laws.proofs.Kept.{stands_once, none_twice}
use Rattle.centre_laws.proofs.restarts.law_restart.Goals as goal

pub returns : goal.returns
returns c x ok spaced = record {
  ideal = is_ideal c.law_repeats.ensures x ok spaced;
  once = λ later earlier n m via clock is. stands_once false x x.steps later earlier n m via clock true refl is spaced ok.steps;
  twice = none_twice x x.steps;
}
