use Rattle.std.proofs.Common.{take}
use Rattle.std.specs.Prelude.{reverse}
use Rattle.summary_rules.specs.Lists.{EveryTwo}
use Rattle.summary_rules.specs.Conditions.{IsNoOlder}
use Rattle.centre_core.proofs.conditions.do_not_fall.Given as goal

abbrev pub invariant-loop-i : goal.invariant-loop-i
invariant-loop-i l = EveryTwo (λ x y. IsNoOlder y x) (take l.i (reverse l.window))
