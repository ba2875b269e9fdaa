use Rattle.std.proofs.Common.{◌≡◌, ◌≤◌, length}
use Rattle.centre_core.specs.Decoding.{AreAllApart}
use Rattle.centre_core.proofs.decoding.table_of.Given as goal

abbrev pub invariant-loop-incident : goal.invariant-loop-incident
invariant-loop-incident l = record {
  opened : l.queued.opened ≡ l.opened;
  incidents : l.queued.incidents ≡ l.yielded;
  room : length l.fn.incidents.items ≤ l.queued.room;
  apart : AreAllApart l.lapse l.at l.yielded;
}
