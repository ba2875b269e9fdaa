use Rattle.supervision.proofs.Cost.{twice_digits}
use Rattle.supervision.proofs.laws.law_steps_are_twice_digits.Goals as goal

pub returns : goal.returns
returns c = twice_digits c.law_steps_are_digits.ensures
