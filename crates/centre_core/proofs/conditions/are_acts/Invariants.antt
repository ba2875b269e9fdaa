use Rattle.std.proofs.Common.{◌≤◌, take}
use Rattle.summary_rules.specs.Lists.{Every}
use Rattle.summary_rules.specs.Conditions.{AreActsOf}
use Rattle.centre_core.proofs.conditions.are_acts.Given as goal

abbrev pub invariant-loop-i : goal.invariant-loop-i
invariant-loop-i l = AreActsOf l.steps (take l.i l.acts) × Every (λ a. a.at ≤ l.last) (take l.i l.acts)
