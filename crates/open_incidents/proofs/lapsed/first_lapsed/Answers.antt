-- The next of those that are claimed has lapsed, or is passed.
use Rattle.std.proofs.Common.{Option, ◌+◌, refl, sym, ap, ◌∙◌, subst}
use Rattle.std.specs.Option.{option_map}
use Rattle.arc_data.specs.declared.incident.Incident.{Incident}
use Rattle.open_incidents.proofs.FindHeld.{next, is_there}
use Rattle.open_incidents.proofs.LapsedHolds.{Seen, one_seen, one_passed}
use Rattle.open_incidents.proofs.lapsed.first_lapsed.Goals as goal
use Rattle.open_incidents.proofs.lapsed.first_lapsed.Goals.{in-Some+then-has_lapsed, in-Some+else-has_lapsed, in_default}

pub loop-number-preserved : goal.loop-number-preserved
loop-number-preserved c =
    let lapse = c.args.lapse in
    let at = c.args.at in
    let t = c.args.table.now in
    let k = c.loop-number.number-index in
    let first = option_map (λ i. i.now) c.loop-number.first in
    let one = next t.incidents t.opened k _ c.args.numbers.now c.slots-slots.ensures.ascends c.requires c.loop-number-test.true refl in
    elim c.match-get.branch [
      | in-Some+then-has_lapsed w ↦
          one_seen lapse at t.incidents k first _ w.in-Some.i.now one c.loop-number.invariant (sym c.get.ensures ∙ ap (option_map (λ i. i.now)) w.in-Some.is)
          (option_map (λ i. i.now) c.match-get.first) w.if-has_lapsed.ensures (ap (option_map (λ i. i.now)) w.first-is ∙ w.earlier-first.ensures)
      | in-Some+else-has_lapsed w ↦
          subst (λ (o : Option Incident). Seen lapse at t.incidents o (k + 1)) (sym (ap (option_map (λ i. i.now)) w.first-is))
          (one_passed lapse at t.incidents k first _ w.in-Some.i.now one c.loop-number.invariant (sym c.get.ensures ∙ ap (option_map (λ i. i.now)) w.in-Some.is) w.if-has_lapsed.ensures)
      | in_default w ↦ absurd (is_there t.incidents k _ one (sym c.get.ensures ∙ ap (option_map (λ i. i.now)) w.in_default.is))
    ]
