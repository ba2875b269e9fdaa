-- The next incident is held, and put in; or it waits already; or none is open here.
use Rattle.std.proofs.Common.{◌≡◌, ◌+◌, ◌<◌, ◌∷◌, ℕ, length, false, Some, None, sym, ap, ◌∙◌, subst, arith}
use Rattle.std.specs.List.Sorted.{IsPermutation}
use Rattle.std.specs.Option.{option_map}
use Rattle.centre_rules.specs.Desks.{is_free}
use Rattle.incidents.specs.Slots.{standing, open_of}
use Rattle.incidents.proofs.Walk.{before, walk_open, walk_closed, walk_within, walk_item}
use Rattle.operator_queue.specs.Pairs.{PairsValue}
use Rattle.open_incidents.proofs.Parts.{free_by, held_by}
use Rattle.open_incidents.proofs.QueueEdits.{PutSome, room_next, put_free, put_held}
use Rattle.open_incidents.proofs.waiting.put_held.Goals as goal
use Rattle.open_incidents.proofs.waiting.put_held.Goals.{in-Some+then-is_some, in-Some+else-is_some, in_default}

pub insert-requires : goal.insert-requires
insert-requires c =
    let l = c.loop-slot in
    let slots = c.args.slots.now in
    let k = l.slot-index in
    let x = c.slot-item.result in
    let i = c.in-Some.i.now in
    let here : standing x ≡ Some i = sym c.incident.ensures ∙ ap (option_map (λ i. i.now)) c.in-Some.is in
    let held : is_free i ≡ false = held_by i.holder c.if-is_some.ensures in
    let few : length l.queue.pairs < length (open_of slots) =
    room_next (before k slots) (open_of slots) c.args.queue.now.room i l.queue l.invariant (walk_within k slots x i c.loop-slot-test.true c.slot-item.is here) (walk_item k slots x i c.loop-slot-test.true c.slot-item.is here) held in
    omega (arith, few, c.requires.memory, l.invariant.room)

pub loop-slot-preserved : goal.loop-slot-preserved
loop-slot-preserved c =
    let l = c.loop-slot in
    let slots = c.args.slots.now in
    let is = open_of slots in
    let k = l.slot-index in
    let x = c.slot-item.result in
    let room = c.args.queue.now.room in
    elim c.match-incident.branch [
      | in-Some+then-is_some w ↦
          let i = w.in-Some.i.now in
          let here : standing x ≡ Some i = sym c.incident.ensures ∙ ap (option_map (λ i. i.now)) w.in-Some.is in
          subst (λ (q : PairsValue). PutSome (before (k + 1) slots) is room q) (sym w.queue-is)
          (subst (λ (n : ℕ). PutSome n is room w.insert.new.queue) (sym (walk_open k slots x i c.loop-slot-test.true c.slot-item.is here))
          (put_held (before k slots) is room i l.queue l.invariant (walk_within k slots x i c.loop-slot-test.true c.slot-item.is here) (walk_item k slots x i c.loop-slot-test.true c.slot-item.is here) w.insert.new.queue
          (held_by i.holder w.if-is_some.ensures)
          (subst (λ p. IsPermutation ((p, i.number) ∷ l.queue.pairs) w.insert.new.queue.pairs) w.priority.ensures
          w.insert.ensures.pairs)
          w.insert.ensures.room))
      | in-Some+else-is_some w ↦
          let i = w.in-Some.i.now in
          let here : standing x ≡ Some i = sym c.incident.ensures ∙ ap (option_map (λ i. i.now)) w.in-Some.is in
          subst (λ (q : PairsValue). PutSome (before (k + 1) slots) is room q) (sym w.queue-is)
          (subst (λ (n : ℕ). PutSome n is room l.queue) (sym (walk_open k slots x i c.loop-slot-test.true c.slot-item.is here))
          (put_free (before k slots) is room i l.queue l.invariant (walk_within k slots x i c.loop-slot-test.true c.slot-item.is here) (walk_item k slots x i c.loop-slot-test.true c.slot-item.is here)
          (free_by i.holder w.if-is_some.ensures)))
      | in_default w ↦
          let none : standing x ≡ None = sym c.incident.ensures ∙ ap (option_map (λ i. i.now)) w.in_default.is in
          subst (λ (q : PairsValue). PutSome (before (k + 1) slots) is room q) (sym w.queue-is)
          (subst (λ (n : ℕ). PutSome n is room l.queue) (sym (walk_closed k slots x c.loop-slot-test.true c.slot-item.is none)) l.invariant)
    ]
