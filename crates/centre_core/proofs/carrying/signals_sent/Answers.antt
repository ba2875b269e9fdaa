use Rattle.std.proofs.Common.{◌++◌, List, sym, ap, ◌∙◌, arith}
use Rattle.alarm_rules.specs.Setups.{meaning}
use Rattle.centre_rules.specs.Carrying.{carried_sent}
use Rattle.centre_rules.specs.Marks.{Carried}
use Rattle.centre_core.proofs.Carried.{flat_next}
use Rattle.centre_core.proofs.carrying.signals_sent.Goals as goal

pub loop-i-preserved : goal.loop-i-preserved
loop-i-preserved c =
    let f = carried_sent (meaning c.args.setup.now) c.args.account.now c.args.via.now c.args.at in
    let few = c.in_ok-push_sent.ensures.few in
    record {
      so_far = c.in_ok-push_sent.ensures.sent ∙ ap (λ (ys : List Carried). ys ++ f c.at.result) c.loop-i.invariant.so_far
          ∙ sym (flat_next f c.args.signals.now c.loop-i.i c.at.result c.at.ensures);
      few = omega (arith, few, c.loop-i.invariant.few);
    }
