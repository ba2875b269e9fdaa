use Rattle.std.proofs.Common.{◌<◌, ◌≤◌, ◌-◌}
use Rattle.arc_doors.proofs.adapters.udp_mail.take_datagram.Given as goal

abbrev pub invariant-loop-count : goal.invariant-loop-count
invariant-loop-count g l = record {
  later : l.initial.faults ≤ l.faults;
  few : l.tries < 600;
}

abbrev pub decreases-loop-count : goal.decreases-loop-count
decreases-loop-count g l = 600 - l.tries
