use Rattle.std.proofs.Common.{◌≡◌, ◌≤◌, length}
use Rattle.summary_codec.specs.Reading.{acted_at}
use Rattle.summary_codec.proofs.Times.{GoesOn}
use Rattle.summary_codec.proofs.reading.acts_at.Given as goal

abbrev pub invariant-loop : goal.invariant-loop
invariant-loop l = record {
  count : l.counter ≤ l.count;
  long : length l.acts ≡ l.counter;
  read : GoesOn acted_at l.count l.counter l.initial.rest l.acts l.rest;
}
