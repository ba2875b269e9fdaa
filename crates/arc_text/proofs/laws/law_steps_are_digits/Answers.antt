use Rattle.arc_text.proofs.Digits.{steps_are_digits}
use Rattle.arc_text.proofs.laws.law_steps_are_digits.Goals as goal

pub returns : goal.returns
returns c = steps_are_digits
