-- No more are open than there are places.
use Rattle.std.proofs.Common.{arith}
use Rattle.incidents.proofs.Opened.{open_few}
use Rattle.incidents.proofs.slots.Slots.room.Goals as goal

pub overflow_add-result : goal.overflow_add-result
overflow_add-result c =
    let slots = c.self.inside.slots in
    omega (arith, c.self.invariant.counted, open_few slots.items, slots.ok.0, slots.ok.1, slots.small, c.capacity.ensures, c.len.ensures)
