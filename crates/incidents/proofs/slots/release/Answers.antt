-- The incident of one more place is released.
use Rattle.std.proofs.Common.{set, sym, ap, ◌∙◌, rules}
use Rattle.std.proofs.lemmas.List.Edits.{map_over_more}
use Rattle.incidents.specs.declared.slots.Slot.{Slot}
use Rattle.incidents.specs.Slots.{released}
use Rattle.incidents.proofs.slots.release.Goals as goal

pub loop-slot-preserved : goal.loop-slot-preserved
loop-slot-preserved c =
    ap (λ (x : Slot). set c.loop-slot.slot-items c.loop-slot.slot-index (released x)) (sym c.slot-item.is)
    ∙ map_over_more released c.args.slots.now c.loop-slot.slot-items c.loop-slot.slot-index c.slot-item.result (search rules) c.loop-slot.invariant c.slot-item.is
