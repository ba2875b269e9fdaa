use Rattle.std.proofs.Common.{◌≤◌, take}
use Rattle.std.specs.Prelude.{reverse}
use Rattle.summary_rules.specs.Lists.{Every}
use Rattle.summary_rules.specs.Conditions.{HasSignals}
use Rattle.centre_core.proofs.conditions.are_past.Given as goal

abbrev pub invariant-loop-i : goal.invariant-loop-i
invariant-loop-i l = Every (λ p. (p.at ≤ l.last) × HasSignals p) (take l.i (reverse l.window))
