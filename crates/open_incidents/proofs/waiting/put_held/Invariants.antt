-- So many of the open incidents were looked at.
use Rattle.incidents.specs.Slots.{open_of}
use Rattle.incidents.proofs.Walk.{before}
use Rattle.open_incidents.proofs.QueueEdits.{PutSome}
use Rattle.open_incidents.proofs.waiting.put_held.Given as goal

abbrev pub invariant-loop-slot : goal.invariant-loop-slot
invariant-loop-slot l = PutSome (before l.slot-index l.slots) (open_of l.slots) l.fn.queue.room l.queue
