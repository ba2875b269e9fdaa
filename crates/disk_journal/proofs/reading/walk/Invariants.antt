use Rattle.std.proofs.Common.{◌≡◌, ◌≤◌}
use Rattle.arc_io.specs.Crashes.{IsQuiet}
use Rattle.disk_journal.proofs.Again.{HasWalked}
use Rattle.disk_journal.proofs.reading.walk.Given as goal

abbrev pub invariant-loop : goal.invariant-loop
invariant-loop g l = record {
  up_to : l.counter ≤ l.i;
  before : l.before ≤ (g.D.Disk.seen l.disk).faults;
  met_none : (g.D.Disk.seen l.disk).faults ≡ (g.D.Disk.seen l.initial.disk).faults;
  walked : HasWalked (g.D.Disk.seen l.initial.disk).told l.area l.next l.place l.i l.counter l.at;
  quiet : IsQuiet (g.D.Disk.seen l.initial.disk) (g.D.Disk.seen l.disk);
}
