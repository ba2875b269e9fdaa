-- One place after another.
use Rattle.std.proofs.Common.{◌≤◌, ◌++◌, List, length, ap, ◌∙◌, sym, subst, arith}
use Rattle.std.specs.Int.{w32, to_be_bytes}
use Rattle.std.specs.List.{flat_map}
use Rattle.arc_data.specs.declared.incident.Incident.{Incident}
use Rattle.summary_rules.specs.Spelling.{incident_text, many_texts}
use Rattle.summary_codec.specs.Writing.{AreGood, AreActsGood, HaveGoodSteps}
use Rattle.summary_codec.proofs.Flat.{counted}
use Rattle.centre_core.proofs.SlotTexts.{slots_more, slots_all, every_open}
use Rattle.centre_core.proofs.summing.put_incidents.Goals as goal

pub loop-slot-preserved : goal.loop-slot-preserved
loop-slot-preserved c good =
    let slots = c.slots-slots.result.now in
    let k = c.loop-slot.slot-index in
    let x = c.slot-item.result in
    let all = subst (λ (is : List Incident). HaveGoodSteps is) (sym c.slots-slots.ensures.value) good in
    slots_more (incident_text 2) slots k x _ _ _ c.loop-slot-test.true c.slot-item.is (c.loop-slot.invariant good)
    (c.in_ok-put_slot.ensures (every_open (λ (i : Incident). AreGood i.steps × AreActsGood i.acts) slots k x c.loop-slot-test.true c.slot-item.is all))

pub returns : goal.returns
unfolding many_texts
returns c good =
    let slots = c.slots-slots.result.now in
    let is = c.args.table.now.incidents in
    counted c.args.out.now.items (to_be_bytes w32 (length is)) (flat_map (incident_text 2) is) _
    (slots_all (incident_text 2) slots is c.loop-slot.slot-index _ _ c.loop-slot-test.false c.slots-slots.ensures.value (c.loop-slot.invariant good)
    ∙ ap (λ l. l ++ flat_map (incident_text 2) is) (c.in_ok-put_count.ensures ∙ ap (λ n. c.args.out.now.items ++ to_be_bytes w32 n) c.count.ensures))
