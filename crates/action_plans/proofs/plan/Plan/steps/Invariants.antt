use Rattle.std.proofs.Common.{◌≡◌, take}
use Rattle.alarm_rules.specs.Plans.{steps_in}
use Rattle.action_plans.proofs.plan.Plan.steps.Given as goal

abbrev pub invariant-loop-planned : goal.invariant-loop-planned
invariant-loop-planned l = l.steps ≡ steps_in l.in_hours l.holders (take l.planned-index l.planned-items)
