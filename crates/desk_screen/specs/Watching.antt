-- The incidents of the last list, how long each was seen, and how long the desk has said nothing.
use Rattle.std.specs.Prelude.{ℕ, ◌+◌, ◌==◌, List, [], ◌∷◌, min, map, if◌then◌else◌}
use Rattle.std.specs.List.{find}
use Rattle.std.specs.Option.{option_map, unwrap_or}
use Rattle.arc_data.specs.declared.listing.Row.{Row}
use Rattle.desk_said.specs.declared.said.Said.{Said}
use Rattle.desk_said.specs.declared.said.Said.TheVariants.{Listed}
use Rattle.desk_screen.specs.Inputs.{Input, Key, Answer, Second, Made, Lost, Sitting, is_second, news}
use Rattle.desk_screen.specs.Orders.{way}
use Rattle.desk_screen.specs.declared.queue.Waiting.{Waiting}

-- one second later, in 8 bytes
abbrev pub later : ℕ → ℕ
later seconds = min (seconds + 1) 18_446_744_073_709_551_615

abbrev pub clock_after : Input → ℕ → ℕ
clock_after input before = if is_second input then later before else before

-- How many seconds of the sitting have passed.
unfoldable pub clock : Sitting → ℕ
clock [] = 0
clock (t ∷ s) = clock_after t.input (clock s)

-- since which second an incident stands in each list
abbrev pub since_of : List Waiting → ℕ → ℕ → ℕ
since_of before clock number = unwrap_or (option_map (λ w. w.since) (find (λ w. w.row.number == number) before)) clock

abbrev pub waiting_of : List Waiting → ℕ → Row → Waiting
waiting_of before clock row = record { row = row; since = since_of before clock row.number }

abbrev pub queue_told : Said → ℕ → List Waiting → List Waiting
queue_told (Listed total rows) clock before = map (waiting_of before clock) rows
queue_told other clock before = before

-- The incidents of the last list, each with the second since which it stands in each list.
unfoldable pub queue : Sitting → List Waiting
queue [] = []
queue (t ∷ s) = queue_told (news t.input (way s)) (clock s) (queue s)

abbrev pub total_told : Said → ℕ → ℕ
total_told (Listed total rows) before = total
total_told other before = before

-- How many incidents are open, as the last list said.
unfoldable pub total : Sitting → ℕ
total [] = 0
total (t ∷ s) = total_told (news t.input (way s)) (total s)

abbrev pub silence_after : Input → ℕ → ℕ
silence_after (Key key) before = before
silence_after (Answer line) before = 0
silence_after Second before = later before
silence_after Made before = 0
silence_after Lost before = before

-- For how many seconds the desk has said nothing, since the connection was made at most.
unfoldable pub silence : Sitting → ℕ
silence [] = 0
silence (t ∷ s) = silence_after t.input (silence s)
