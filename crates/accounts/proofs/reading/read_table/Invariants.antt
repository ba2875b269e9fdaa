use Rattle.std.proofs.Common.{◌+◌, ◌≤◌, length}
use Rattle.accounts.proofs.ReadingLemmas.{HasRead}
use Rattle.accounts.proofs.reading.read_table.Given as goal

abbrev pub invariant-loop-line : goal.invariant-loop-line
invariant-loop-line l = record {
  read : HasRead l.text l.rest l.number l.table;
  bound : l.number + length l.rest ≤ length l.text;
}

abbrev pub decreases-loop-line : goal.decreases-loop-line
decreases-loop-line l = length l.rest
