use Rattle.std.proofs.Common.{◌≡◌, ◌++◌, map, take, drop}
use Rattle.incidents.specs.Slots.{released}
use Rattle.incidents.proofs.slots.release.Given as goal

abbrev pub invariant-loop-slot : goal.invariant-loop-slot
invariant-loop-slot l = l.slot-items ≡ map released (take l.slot-index l.initial.slot-items) ++ drop l.slot-index l.initial.slot-items
