-- The next call stands behind those before it.
use Rattle.std.proofs.Common.{arith}
use Rattle.action_plans.proofs.Distinct.{calls_next}
use Rattle.action_plans.proofs.plan.add_calls.Goals as goal

pub loop-number-preserved : goal.loop-number-preserved
loop-number-preserved c =
    calls_next c.args.steps.now c.loop-number.steps c.push.new.self c.loop-number.number c.push.result c.loop-number.invariant (omega (arith, c.requires, c.loop-number-test.true)) c.push.ensures.room c.push.ensures.pushed
