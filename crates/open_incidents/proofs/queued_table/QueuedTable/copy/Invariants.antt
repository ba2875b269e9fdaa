use Rattle.incidents.proofs.Walk.{before}
use Rattle.open_incidents.proofs.Put.{IsCopied}
use Rattle.open_incidents.proofs.queued_table.QueuedTable.copy.Given as goal

abbrev pub invariant-loop-slot : goal.invariant-loop-slot
invariant-loop-slot l = IsCopied l.self.opened l.self.incidents (before l.slot-index l.slots) l.copy
