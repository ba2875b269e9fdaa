use Rattle.std.proofs.Common.{◌≡◌, ◌-◌, ◌≤◌, length, take}
use Rattle.std.specs.Io.KnownBytes.{append_known}
use Rattle.arc_io.specs.Told.{OnlyWrites}
use Rattle.arc_io.proofs.whole.put.Given as goal

abbrev pub invariant-loop-done : goal.invariant-loop-done
invariant-loop-done g l = record {
  within : l.done ≤ length l.bytes;
  written : (g.K.Ends.seen l.sink).written ≡ append_known (g.K.Ends.seen l.initial.sink).written (take l.done l.bytes);
  faults : (g.K.Ends.seen l.initial.sink).write_faults ≤ (g.K.Ends.seen l.sink).write_faults;
  others : OnlyWrites (g.K.Ends.seen l.initial.sink) (g.K.Ends.seen l.sink);
}

abbrev pub decreases-loop-done : goal.decreases-loop-done
decreases-loop-done g l = length l.bytes - l.done
