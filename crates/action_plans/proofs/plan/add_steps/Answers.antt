-- There are as many calls as keyholders.
use Rattle.std.proofs.Common.{arith}
use Rattle.action_plans.proofs.Distinct.{length_calls}
use Rattle.action_plans.proofs.plan.add_steps.Goals as goal

pub add_calls-requires : goal.add_calls-requires
add_calls-requires c = omega (arith, rw c.in-Holders.is at c.requires, length_calls c.args.holders)
