use Rattle.std.proofs.Common.{◌≡◌, ◌≤◌, length}
use Rattle.event_codec.specs.Reading.{coded_at, step_of}
use Rattle.summary_codec.proofs.Times.{GoesOn}
use Rattle.summary_codec.proofs.reading.steps_at.Given as goal

abbrev pub invariant-loop : goal.invariant-loop
invariant-loop l = record {
  count : l.counter ≤ l.count;
  long : length l.steps ≡ l.counter;
  read : GoesOn (coded_at step_of) l.count l.counter l.initial.rest l.steps l.rest;
}
