use Rattle.std.proofs.Common.{◌≡◌, map}
use Rattle.summary_codec.specs.Parts.{row_of_read}
use Rattle.centre_core.proofs.decoding.rows_of.Given as goal

abbrev pub invariant-loop-row : goal.invariant-loop-row
invariant-loop-row l = record {
  start : l.kept.start ≡ l.fn.start;
  rows : l.kept.rows ≡ map row_of_read l.yielded;
}
