use Rattle.std.proofs.Common.{◌<◌, ◌≤◌, ◌-◌}
use Rattle.arc_doors.proofs.adapters.tcp_door.take_link.Given as goal

abbrev pub invariant-loop-link : goal.invariant-loop-link
invariant-loop-link g l = record {
  later : l.initial.faults ≤ l.faults;
  few : l.tries < 600;
}

abbrev pub decreases-loop-link : goal.decreases-loop-link
decreases-loop-link g l = 600 - l.tries
