use Rattle.std.proofs.Common.{◌≤◌}
use Rattle.summary_codec.specs.Reading.{incident_at}
use Rattle.summary_codec.proofs.Times.{GoesOn}
use Rattle.summary_codec.proofs.reading.incidents_at.Given as goal

abbrev pub invariant-loop : goal.invariant-loop
invariant-loop l = record {
  count : l.counter ≤ l.count;
  read : GoesOn (incident_at l.fn.version) l.count l.counter l.initial.rest l.incidents.items l.rest;
}
