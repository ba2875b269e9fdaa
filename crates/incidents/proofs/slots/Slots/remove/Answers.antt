-- The incident of the number is open no more, and its place is kept, or all closed ones are dropped.
use Rattle.std.proofs.Common.{sym, ◌∙◌, arith}
use Rattle.incidents.proofs.Opened.{there, open_few, fewer_there, free_now, removed_are, removed_incidents, removed_room}
use Rattle.incidents.proofs.Places.{without_free}
use Rattle.incidents.proofs.slots.Slots.remove.Goals as goal

pub overflow_sub-self : goal.overflow_sub-self
overflow_sub-self c =
    let slots = c.self.inside.slots.items in
    let x = c.index_mut.result.now in
    let w = there c.args.number slots c.deref.result.now c.in-Some.place x c.place_of.result c.deref.ensures.value c.place_of.ensures c.in-Some.is c.index_mut.ensures.value in
    omega (arith, c.self.invariant.counted, fewer_there c.args.number slots c.in-Some.place x w)

pub overflow_sub-closed : goal.overflow_sub-closed
overflow_sub-closed c =
    let slots = c.self.inside.slots in
    omega (arith, c.self.invariant.counted, open_few slots.items, slots.ok.0, c.len.ensures)

pub invariant_of-self : goal.invariant_of-self
invariant_of-self c =
    let slots = c.self.inside.slots.items in
    let x = c.index_mut.result.now in
    let w = there c.args.number slots c.deref.result.now c.in-Some.place x c.place_of.result c.deref.ensures.value c.place_of.ensures c.in-Some.is c.index_mut.ensures.value in
    rw c.drop_closed.ensures.slots (removed_are _ c.args.number c.self.inside.count c.self.inside.highest slots c.in-Some.place x c.self.invariant w)

pub returns-in-Some-clause-incidents : goal.returns-in-Some-clause-incidents
returns-in-Some-clause-incidents c =
    let slots = c.self.inside.slots.items in
    let x = c.index_mut.result.now in
    let w = there c.args.number slots c.deref.result.now c.in-Some.place x c.place_of.result c.deref.ensures.value c.place_of.ensures c.in-Some.is c.index_mut.ensures.value in
    rw c.drop_closed.ensures.slots (removed_incidents _ c.args.number c.self.inside.highest _ slots c.in-Some.place x c.args.self.now c.self.view_is c.self.invariant.rise w)

pub returns-in-Some-clause-room : goal.returns-in-Some-clause-room
returns-in-Some-clause-room c =
    let slots = c.self.inside.slots.items in
    let x = c.index_mut.result.now in
    let w = there c.args.number slots c.deref.result.now c.in-Some.place x c.place_of.result c.deref.ensures.value c.place_of.ensures c.in-Some.is c.index_mut.ensures.value in
    rw (c.drop_closed.ensures.slots, c.drop_closed.ensures.memory) (removed_room _ c.args.number _ slots c.in-Some.place x c.args.self.now c.self.view_is w)

pub returns-in_default-clause-incidents : goal.returns-in_default-clause-incidents
returns-in_default-clause-incidents c =
    sym (without_free c.args.number c.args.self.now.incidents (free_now c.args.number c.self.inside.slots.items c.deref.result.now _ c.args.self.now c.self.view_is c.deref.ensures.value (sym c.place_of.ensures ∙ c.in_default.is)))
