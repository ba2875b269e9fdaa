-- No word stands twice, so all steps have room.
use Rattle.std.proofs.Common.{take, arith, length-take, sym, ◌∙◌}
use Rattle.arc_data.specs.declared.plan.Planned.{Planned}
use Rattle.action_plans.proofs.Distinct.{room_for}
use Rattle.action_plans.proofs.plan.Plan.steps.Goals as goal

pub add_steps-requires : goal.add_steps-requires
add_steps-requires c =
    let words = take c.self.inside.len c.self.inside.words in
    room_for c.args.in_hours c.args.holders c.loop-planned.planned-index words _ c.loop-planned.steps c.requires c.self.invariant.once
    (omega (arith, length-take {A = Planned}, c.self.invariant.few)) c.loop-planned-test.true c.loop-planned.invariant (sym c.counts.ensures ∙ c.if-counts.true)
