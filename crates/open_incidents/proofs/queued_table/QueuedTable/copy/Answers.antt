-- Each incident is put behind those before it, whose numbers are less, and none of which is of its account and class.
use Rattle.std.proofs.Common.{◌≡◌, ◌<◌, ◌+◌, ◌++◌, ◌∷◌, [], ℕ, List, None, Some, length, take, ap, ◌∙◌, sym, subst, arith}
use Rattle.std.specs.Prelude.{slice_get}
use Rattle.std.specs.List.{find}
use Rattle.std.specs.Option.{option_map}
use Rattle.std.proofs.lemmas.List.{length-take-le}
use Rattle.std.proofs.lemmas.Option.{slice_get_within}
use Rattle.arc_data.specs.Incidents.{is_of, Each}
use Rattle.arc_data.specs.declared.incident.Incident.{Incident}
use Rattle.incidents.specs.Slots.{standing}
use Rattle.incidents.specs.Tables.{TableValue}
use Rattle.incidents.proofs.Walk.{before, walk_open, walk_closed, walk_next}
use Rattle.open_incidents.proofs.Put.{next_of, number_within, all_below, none_of_it, kept_as}
use Rattle.open_incidents.proofs.queued_table.QueuedTable.copy.Goals as goal
use Rattle.open_incidents.proofs.queued_table.QueuedTable.copy.Goals.{in-Some, in_default}

pub put-requires-clause-room : goal.put-requires-clause-room
put-requires-clause-room c =
    let is = c.self.inside.table.incidents in
    let slots = c.slots-slots.result.now in
    let place = before c.loop-slot.slot-index slots in
    let x = c.copied.result in
    let here : standing c.slot-item.result ≡ Some c.in-Some.i.now = sym c.incident.ensures ∙ ap (option_map (λ i. i.now)) c.in-Some.is in
    let at : slice_get is place ≡ Some x = walk_next c.loop-slot.slot-index slots is c.slot-item.result c.in-Some.i.now x c.slots-slots.ensures.value c.loop-slot-test.true c.slot-item.is here c.copied.ensures in
    let within : place < length is = slice_get_within is place x at in
    omega (
      arith,
      within,
      length-take-le place is (omega (arith, within)),
      ap length c.loop-slot.invariant.incidents,
      c.loop-slot.invariant.room,
      ap (λ (y : TableValue). length y.incidents) c.self.view_is,
      ap (λ (y : TableValue). length (take place y.incidents)) c.self.view_is,
    )

pub put-requires-clause-positive : goal.put-requires-clause-positive
put-requires-clause-positive c =
    let is = c.self.inside.table.incidents in
    let slots = c.slots-slots.result.now in
    let place = before c.loop-slot.slot-index slots in
    let x = c.copied.result in
    let here : standing c.slot-item.result ≡ Some c.in-Some.i.now = sym c.incident.ensures ∙ ap (option_map (λ i. i.now)) c.in-Some.is in
    let at : slice_get is place ≡ Some x = walk_next c.loop-slot.slot-index slots is c.slot-item.result c.in-Some.i.now x c.slots-slots.ensures.value c.loop-slot-test.true c.slot-item.is here c.copied.ensures in
    (number_within 0 is c.self.inside.table.opened place x at c.slots-slots.ensures.ascends).0

pub put-requires-clause-above : goal.put-requires-clause-above
put-requires-clause-above c =
    let is = c.self.inside.table.incidents in
    let slots = c.slots-slots.result.now in
    let place = before c.loop-slot.slot-index slots in
    let x = c.copied.result in
    let here : standing c.slot-item.result ≡ Some c.in-Some.i.now = sym c.incident.ensures ∙ ap (option_map (λ i. i.now)) c.in-Some.is in
    let at : slice_get is place ≡ Some x = walk_next c.loop-slot.slot-index slots is c.slot-item.result c.in-Some.i.now x c.slots-slots.ensures.value c.loop-slot-test.true c.slot-item.is here c.copied.ensures in
    let before_it : c.loop-slot.copy.incidents ≡ take place is = c.loop-slot.invariant.incidents ∙ ap (λ (y : TableValue). take place y.incidents) (sym c.self.view_is) in
    subst (Each (λ i. i.number < x.number)) (sym before_it)
    (all_below 0 is c.self.inside.table.opened place x at c.slots-slots.ensures.ascends)

pub put-requires-clause-opened : goal.put-requires-clause-opened
put-requires-clause-opened c =
    let is = c.self.inside.table.incidents in
    let slots = c.slots-slots.result.now in
    let place = before c.loop-slot.slot-index slots in
    let x = c.copied.result in
    let here : standing c.slot-item.result ≡ Some c.in-Some.i.now = sym c.incident.ensures ∙ ap (option_map (λ i. i.now)) c.in-Some.is in
    let at : slice_get is place ≡ Some x = walk_next c.loop-slot.slot-index slots is c.slot-item.result c.in-Some.i.now x c.slots-slots.ensures.value c.loop-slot-test.true c.slot-item.is here c.copied.ensures in
    let within = (number_within 0 is c.self.inside.table.opened place x at c.slots-slots.ensures.ascends).1 in
    omega (arith, within, c.loop-slot.invariant.opened, ap (λ (y : TableValue). y.opened) c.self.view_is)

pub put-requires-clause-none : goal.put-requires-clause-none
put-requires-clause-none c =
    let is = c.self.inside.table.incidents in
    let slots = c.slots-slots.result.now in
    let place = before c.loop-slot.slot-index slots in
    let x = c.copied.result in
    let here : standing c.slot-item.result ≡ Some c.in-Some.i.now = sym c.incident.ensures ∙ ap (option_map (λ i. i.now)) c.in-Some.is in
    let at : slice_get is place ≡ Some x = walk_next c.loop-slot.slot-index slots is c.slot-item.result c.in-Some.i.now x c.slots-slots.ensures.value c.loop-slot-test.true c.slot-item.is here c.copied.ensures in
    let before_it : c.loop-slot.copy.incidents ≡ take place is = c.loop-slot.invariant.incidents ∙ ap (λ (y : TableValue). take place y.incidents) (sym c.self.view_is) in
    ap (find (is_of x.account x.class)) before_it ∙ none_of_it is place x at c.slots-slots.ensures.single

pub loop-slot-preserved : goal.loop-slot-preserved
loop-slot-preserved c =
    let is = c.self.inside.table.incidents in
    let slots = c.slots-slots.result.now in
    let k = c.loop-slot.slot-index in
    let place = before k slots in
    let kept : c.args.self.now.incidents ≡ is = ap (λ (y : TableValue). y.incidents) (sym c.self.view_is) in
    elim c.match-incident.branch [
      | in-Some w ↦
          let x = w.copied.result in
          let here : standing c.slot-item.result ≡ Some w.in-Some.i.now = sym c.incident.ensures ∙ ap (option_map (λ i. i.now)) w.in-Some.is in
          let at : slice_get is place ≡ Some x = walk_next k slots is c.slot-item.result w.in-Some.i.now x c.slots-slots.ensures.value c.loop-slot-test.true c.slot-item.is here w.copied.ensures in
          let next : before (k + 1) slots ≡ place + 1 = walk_open k slots c.slot-item.result w.in-Some.i.now c.loop-slot-test.true c.slot-item.is here in
          kept_as c.args.self.now.opened c.args.self.now.incidents (before (k + 1) slots) c.match-incident.copy w.put.new.self w.copy-is (record {
            opened = ap (λ (y : TableValue). y.opened) w.put.ensures ∙ c.loop-slot.invariant.opened;
            incidents = ap (λ (y : TableValue). y.incidents) w.put.ensures ∙ ap (λ (l : List Incident). l ++ x ∷ []) (c.loop-slot.invariant.incidents ∙ ap (take place) kept)
                ∙ sym (next_of is place x at) ∙ ap (take (place + 1)) (sym kept) ∙ ap (λ (n : ℕ). take n c.args.self.now.incidents) (sym next);
            room = omega (arith, c.loop-slot.invariant.room, ap (λ (y : TableValue). y.room) w.put.ensures);
          })
      | in_default w ↦
          let none : standing c.slot-item.result ≡ None = sym c.incident.ensures ∙ ap (option_map (λ i. i.now)) w.in_default.is in
          let same : before (k + 1) slots ≡ place = walk_closed k slots c.slot-item.result c.loop-slot-test.true c.slot-item.is none in
          kept_as c.args.self.now.opened c.args.self.now.incidents (before (k + 1) slots) c.match-incident.copy c.loop-slot.copy w.copy-is (record {
            opened = c.loop-slot.invariant.opened;
            incidents = c.loop-slot.invariant.incidents ∙ ap (λ (n : ℕ). take n c.args.self.now.incidents) (sym same);
            room = c.loop-slot.invariant.room;
          })
    ]
