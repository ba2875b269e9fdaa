use Rattle.std.proofs.Common.{◌≡◌, ◌≤◌, length, All}
use Rattle.arc_doors.proofs.adapters.tcp_door.TcpDoor.shared.Given as goal

abbrev pub invariant-loop : goal.invariant-loop
invariant-loop g l = record {
  made : length l.doors.items ≡ l.counter;
  room : l.n ≤ l.doors.cap;
  none_failed : All (λ door. door.faults ≡ 0) l.doors.items;
}
