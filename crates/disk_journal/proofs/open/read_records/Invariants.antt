use Rattle.std.proofs.Common.{◌≡◌, ◌≤◌, ◌<◌, ◌+◌, ◌-◌}
use Rattle.arc_io.specs.Crashes.{IsQuiet}
use Rattle.disk_journal.specs.Records.{size}
use Rattle.disk_journal.specs.Reading.{Shows}
use Rattle.disk_journal.proofs.Pieces.{ReadTo}
use Rattle.disk_journal.proofs.open.read_records.Given as goal

abbrev pub invariant-loop-bodies : goal.invariant-loop-bodies
invariant-loop-bodies g l = record {
  before : l.before ≤ (g.D.Disk.seen l.disk).faults;
  met_none : (g.D.Disk.seen l.disk).faults ≡ (g.D.Disk.seen l.initial.disk).faults;
  within : l.at < l.len;
  used : l.at + 1 ≡ size l.bodies;
  read : ReadTo l.version l.area (g.D.Disk.seen l.initial.disk).told l.at l.bodies;
  piece : Shows l.area (g.D.Disk.seen l.disk).told l.window;
  quiet : IsQuiet (g.D.Disk.seen l.initial.disk) (g.D.Disk.seen l.disk);
}

abbrev pub decreases-loop-bodies : goal.decreases-loop-bodies
decreases-loop-bodies g l = l.len - l.at
