-- Deadlines by place, which of them are passed, and how many comparisons it takes to keep them sorted.
use Rattle.std.specs.Prelude.{ℕ, ◌-◌, ◌+◌, ◌*◌, ◌^◌, ◌<◌, ◌≤◌, ◌++◌, List, Bool, false, Option, None, Some, length, nat_lt, replicate}
use Rattle.std.specs.Prelude.{slice_index_or}
use Rattle.std.specs.List.{cons_option, filter, filter_map, range_with_len}
use Rattle.std.specs.List.Sorted.{IsPermutation}
use Rattle.std.specs.Option.{option_map}
use Rattle.operator_queue.specs.Pairs.{PairsValue}

-- a deadline is passed at a moment that comes after it; one that is just reached isn't
abbrev pub is_past : ℕ → Option ℕ → Bool
is_past at None = false
is_past at (Some deadline) = nat_lt deadline at

-- the places, in order
abbrev pub places : List (Option ℕ) → List ℕ
places deadlines = range_with_len 0 (length deadlines)

-- the places whose deadline is passed
abbrev pub due_at : ℕ → List (Option ℕ) → List ℕ
due_at at deadlines = filter (λ place. is_past at (slice_index_or deadlines place None)) (places deadlines)

-- room for the places below a number: those that had none have no deadline
abbrev pub with_room : ℕ → List (Option ℕ) → List (Option ℕ)
with_room room deadlines = deadlines ++ replicate (room - length deadlines) None

-- a deadline with its place, or none
abbrev pub pair_of : ℕ → Option ℕ → Option (ℕ × ℕ)
pair_of place deadline = option_map (λ moment. (moment, place)) deadline

-- the deadlines that there are, each with its place
abbrev pub pairs_of : List (Option ℕ) → List (ℕ × ℕ)
pairs_of deadlines = filter_map (λ place. pair_of place (slice_index_or deadlines place None)) (places deadlines)

-- where a pair and other pairs, or none and others, stand in a list in some order, these others are what is left
abbrev pub IsWithout : Option (ℕ × ℕ) → List (ℕ × ℕ) → List (ℕ × ℕ) → Type 0
IsWithout pair pairs left = (others : List (ℕ × ℕ)) → IsPermutation (cons_option pair others) pairs → IsPermutation others left

-- these are the deadlines with their places, in another order, and there is memory for one of each place
pub record IsSortedFrom (deadlines : List (Option ℕ)) (sorted : PairsValue) : Type 0 where
  pub same : IsPermutation (pairs_of deadlines) sorted.pairs
  pub room : length deadlines ≤ sorted.room

-- the count of steps rises by at most twice as much as a number has binary digits
pub record TakesTwice (count before now : ℕ) : Type 0 where
  pub digits : ℕ
  pub fit : 2 ^ digits ≤ 2 * count + 1
  pub kept : before ≤ now
  pub few : now ≤ before + 2 * digits

-- the count of steps rises by at most one more than a number
pub record TakesOneMore (count before now : ℕ) : Type 0 where
  pub kept : before ≤ now
  pub few : now ≤ before + count + 1

-- among fewer deadlines than there are numbers of so many binary digits, at most twice so many comparisons
abbrev pub StepsAreTwiceDigits : Type 0
StepsAreTwiceDigits = (digits count before now : ℕ) → count < 2 ^ digits → TakesTwice count before now → now ≤ before + 2 * digits
