use Rattle.std.proofs.Common.{take}
use Rattle.summary_rules.specs.Conditions.{AreSteps}
use Rattle.centre_core.proofs.conditions.are_steps.Given as goal

abbrev pub invariant-loop-i : goal.invariant-loop-i
invariant-loop-i l = AreSteps (take l.i l.steps)
