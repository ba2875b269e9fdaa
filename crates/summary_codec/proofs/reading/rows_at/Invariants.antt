use Rattle.std.proofs.Common.{◌≤◌, map}
use Rattle.summary_codec.specs.Parts.{row_of_read}
use Rattle.summary_codec.specs.Reading.{row_at}
use Rattle.summary_codec.proofs.Times.{GoesOn}
use Rattle.summary_codec.proofs.reading.rows_at.Given as goal

abbrev pub invariant-loop : goal.invariant-loop
invariant-loop l = record {
  count : l.counter ≤ l.count;
  read : GoesOn row_at l.count l.counter l.initial.rest (map row_of_read l.rows.items) l.rest;
}
