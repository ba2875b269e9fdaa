use Rattle.std.proofs.Common.{◌≡◌, ◌++◌}
use Rattle.alarm_rules.specs.Plans.{calls_of_holders}
use Rattle.action_plans.proofs.plan.add_calls.Given as goal

abbrev pub invariant-loop-number : goal.invariant-loop-number
invariant-loop-number l = l.steps ≡ l.initial.steps ++ calls_of_holders l.number
