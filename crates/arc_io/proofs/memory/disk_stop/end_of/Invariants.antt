use Rattle.std.proofs.Common.{◌≡◌, ◌+◌, drop}
use Rattle.arc_io.specs.KeptCalls.{stop_at}
use Rattle.arc_io.proofs.memory.disk_stop.end_of.Given as goal

abbrev pub invariant-loop-i : goal.invariant-loop-i
invariant-loop-i l = stop_at l.call l.past ≡ l.i + stop_at l.call (drop l.i l.past)
