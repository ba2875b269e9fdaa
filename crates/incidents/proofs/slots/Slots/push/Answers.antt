-- The number is above those of all places, once the closed ones are dropped or anyway, and there is a place behind them.
use Rattle.std.proofs.Common.{arith}
use Rattle.std.proofs.lemmas.Bool.Decides.{nat_tests}
use Rattle.incidents.proofs.Opened.{open_few, thinned_to, room_left, pushed_are, pushed_incidents, pushed_room}
use Rattle.incidents.proofs.slots.Slots.push.Goals as goal

pub overflow_add-self : goal.overflow_add-self
overflow_add-self c =
    let slots = c.self.inside.slots in
    omega (arith, c.self.invariant.counted, open_few slots.items, slots.ok.0, slots.ok.1, slots.small)

pub push_reserved-requires : goal.push_reserved-requires
push_reserved-requires c =
    let slots = c.self.inside.slots.items in
    omega (
      arith,
      room_left slots _ c.args.self.now c.self.view_is c.requires.room,
      thinned_to _ slots c.drop_closed.new.slots.items c.drop_closed.ensures.slots,
      c.drop_closed.ensures.memory,
      c.drop_closed.new.slots.ok.0,
    )

pub invariant_of-self : goal.invariant_of-self
invariant_of-self c =
    let slots = c.self.inside.slots.items in
    rw (c.push_reserved.ensures.items, c.drop_closed.ensures.slots)
    (pushed_are _ c.self.inside.count c.self.inside.highest _ slots c.args.incident c.args.self.now c.self.view_is c.self.invariant (λ e. grind (arith, nat_tests)) c.requires.positive c.requires.above)

pub returns-clause-incidents : goal.returns-clause-incidents
returns-clause-incidents c =
    rw (c.push_reserved.ensures.items, c.drop_closed.ensures.slots) (pushed_incidents _ c.self.inside.slots.items _ c.args.incident c.args.self.now c.self.view_is)

pub returns-clause-room : goal.returns-clause-room
returns-clause-room c =
    let slots = c.self.inside.slots.items in
    rw (c.push_reserved.ensures.items, c.push_reserved.ensures.capacity, c.drop_closed.ensures.slots, c.drop_closed.ensures.memory)
    (pushed_room _ slots _ c.args.incident c.args.self.now c.self.view_is (room_left slots _ c.args.self.now c.self.view_is c.requires.room))
