use Rattle.std.proofs.Common.{◌≡◌, ◌≤◌, ◌+◌, ◌++◌, length}
use Rattle.std.specs.Option.{option_map}
use Rattle.desk_said.specs.Lines.{each_row}
use Rattle.desk_said.proofs.listing.rows.Given as goal

-- the rows so far, and those that the words left spell, are those of all words
abbrev pub invariant-loop-word : goal.invariant-loop-word
invariant-loop-word l = record {
  all : option_map (λ more. l.rows ++ more) (each_row l.words) ≡ each_row l.fn.words;
  count : length l.rows + length l.words ≡ length l.fn.words;
  few : length l.rows ≤ 16;
}

abbrev pub decreases-loop-word : goal.decreases-loop-word
decreases-loop-word l = length l.words
