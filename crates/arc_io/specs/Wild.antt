-- A disk in memory whose reads and lengths are lists.
use Rattle.std.specs.Prelude.{◌≡◌, ℕ, min, List, [], length, take, drop, slice_index_or, Result, MatchResult}
use Rattle.arc_io.specs.Causes.{next_count}
use Rattle.arc_io.specs.declared.traits.Failed.{Failed}
use Rattle.arc_io.specs.declared.memory.wild.WildDisk.{WildDisk}

-- the byte strings that it was made with
abbrev pub wild_reads : WildDisk → List (List ℕ)
wild_reads d = d.reads.items

-- the lengths that it was made with
abbrev pub wild_lengths : WildDisk → List ℕ
wild_lengths d = d.lengths.items

-- how many reads it gave; the number stays at the last value of u64
abbrev pub reads_given : WildDisk → ℕ
reads_given d = d.read

-- how many lengths it gave
abbrev pub lengths_given : WildDisk → ℕ
lengths_given d = d.measured

-- what the next read has: the list's next byte string, and nothing behind its end
abbrev pub next_read : WildDisk → List ℕ
next_read d = slice_index_or (wild_reads d) (reads_given d) []

-- the next length, and 0 behind the end of the list
abbrev pub next_length : WildDisk → ℕ
next_length d = slice_index_or (wild_lengths d) (lengths_given d) 0

-- A call of `read_at`: as much of the next byte string as there is room for, and never a failure. The rest of the buffer is as it was.
pub record GivesRead (before : WildDisk) (n : ℕ) (was buf : List ℕ) : Type 0 where
  pub count : n ≡ min (length (next_read before)) (length buf)
  pub given : take n buf ≡ take n (next_read before)
  pub untouched : drop n buf ≡ drop n was

abbrev pub WildRead : WildDisk → WildDisk → Result ℕ Failed → List ℕ → List ℕ → Type 0
WildRead before after result was buf =
    MatchResult result (λ n. GivesRead before n was buf) (λ _. ⊥) × (after ≡ record before { read = next_count (reads_given before) })

-- a call of `length`: the next length, and never a failure
abbrev pub WildLength : WildDisk → WildDisk → Result ℕ Failed → Type 0
WildLength before after result =
    MatchResult result (λ n. n ≡ next_length before) (λ _. ⊥) × (after ≡ record before { measured = next_count (lengths_given before) })
