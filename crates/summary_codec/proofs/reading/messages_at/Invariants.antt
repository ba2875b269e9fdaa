use Rattle.std.proofs.Common.{◌≡◌, ◌≤◌, length}
use Rattle.std.specs.Prelude.{reverse}
use Rattle.summary_codec.specs.Reading.{past_at}
use Rattle.summary_codec.proofs.Times.{GoesOn}
use Rattle.summary_codec.proofs.reading.messages_at.Given as goal

abbrev pub invariant-loop : goal.invariant-loop
invariant-loop l = record {
  count : l.counter ≤ l.fn.count;
  long : length l.window ≡ l.counter;
  read : GoesOn (past_at l.account) l.fn.count l.counter l.fn.bytes (reverse l.window) l.rest;
}
