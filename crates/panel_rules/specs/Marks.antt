-- What a panel has done, as a list of marks, the newest first: the events that it took, its steps with the copies that it sent, and what
-- was acknowledged. Events are numbered from 1, in the order in which they were taken. Moments are seconds since 1970.
use Rattle.std.specs.Prelude.{ℕ, ◌+◌, ◌-◌, ◌==◌, ◌&&◌, Bool, true, false, if◌then◌else◌, List, [], ◌∷◌, Option, Some, None}
use Rattle.std.specs.Prelude.{nat_lt, nat_le, length, filter, slice_get}
use Rattle.std.specs.List.{list_any, find, last_or, range_with_len}
use Rattle.std.specs.Option.{option_and_then, option_map_or}
use Rattle.panel_rules.specs.declared.Fate.{Fate}
use Rattle.panel_rules.specs.declared.Fate.TheVariants.{Waiting, InFlight, Acked, GivenUp}
pub use Rattle.panel_rules.specs.declared.Report.{Report}

-- An event was taken. A step was done at a moment, and a copy of the message of an event was sent, or none. The message of an event
-- was acknowledged while it was in flight.
pub data Mark : Type 0 where
  Takes : (report : Report) → Mark
  Steps : (now : ℕ) (sent : Option ℕ) → Mark
  Acks : (event : ℕ) → Mark

-- what the events taken report, the newest first
abbrev pub taken : List Mark → List Report
taken [] = []
taken (Takes report ∷ ms) = report ∷ taken ms
taken (m ∷ ms) = taken ms

-- how many events were taken
abbrev pub count : List Mark → ℕ
count ms = length (taken ms)

-- the numbers of the events taken, from 1 on
abbrev pub numbers : List Mark → List ℕ
numbers ms = range_with_len 1 (count ms)

-- what event n reports, by the list of all, which stands the newest first
abbrev pub numbered : ℕ → List Report → Option Report
numbered n [] = None
numbered n (report ∷ reports) = if n == length reports + 1 then Some report else numbered n reports

-- the moments of the steps, the newest first
abbrev pub steps : List Mark → List ℕ
steps [] = []
steps (Steps now sent ∷ ms) = now ∷ steps ms
steps (m ∷ ms) = steps ms

-- there is a number, and it is this one
abbrev pub is_event : ℕ → Option ℕ → Bool
is_event n sent = option_map_or (λ k. k == n) sent false

-- the moments at which a copy of the message of event n was sent, the newest first
abbrev pub copies : ℕ → List Mark → List ℕ
copies n [] = []
copies n (Steps now sent ∷ ms) = if is_event n sent then now ∷ copies n ms else copies n ms
copies n (m ∷ ms) = copies n ms

-- when the first copy of the message of event n was sent, which stands last among the copies, and when the last one, which stands first

abbrev pub first_copy : ℕ → List Mark → Option ℕ
first_copy n ms = last_or None (copies n ms)

abbrev pub last_copy : ℕ → List Mark → Option ℕ
last_copy n ms = slice_get (copies n ms) 0

-- its message was acknowledged while it was in flight

abbrev pub acks_event : ℕ → Mark → Bool
acks_event n (Acks k) = k == n
acks_event n m = false

abbrev pub is_acked : ℕ → List Mark → Bool
is_acked n ms = list_any (acks_event n) ms

-- a step was done more than 240 seconds after this moment
abbrev pub is_late : List Mark → ℕ → Bool
is_late ms first = list_any (λ now. nat_lt (first + 240) now) (steps ms)

-- What came of event n: it waits where no copy of its message was sent, and is otherwise acknowledged, or given up by a step more than
-- 240 seconds after the first copy, or in flight.
abbrev pub fate : List Mark → ℕ → Fate
fate ms n =
    option_map_or (λ first. if is_acked n ms then Acked else if is_late ms first then GivenUp else InFlight) (first_copy n ms) Waiting

abbrev pub is_waiting : Fate → Bool
is_waiting f = elim f [ Waiting ↦ true | InFlight ↦ false | Acked ↦ false | GivenUp ↦ false ]

abbrev pub is_in_flight : Fate → Bool
is_in_flight f = elim f [ Waiting ↦ false | InFlight ↦ true | Acked ↦ false | GivenUp ↦ false ]

-- the numbers of the events that wait, the oldest first
abbrev pub waiting : List Mark → List ℕ
waiting ms = filter (λ n. is_waiting (fate ms n)) (numbers ms)

-- the oldest event that waits
abbrev pub oldest_waiting : List Mark → Option ℕ
oldest_waiting ms = find (λ n. is_waiting (fate ms n)) (numbers ms)

-- the event whose message is in flight
abbrev pub in_flight : List Mark → Option ℕ
in_flight ms = find (λ n. is_in_flight (fate ms n)) (numbers ms)

-- What a step sends.

-- the moment is at least so many seconds after another; where there is no other, no such demand is made
abbrev pub is_after : ℕ → ℕ → Option ℕ → Bool
is_after seconds now before = option_map_or (λ t. nat_le (t + seconds) now) before true

-- the moment is at most so many seconds after another, where there is one
abbrev pub is_within : ℕ → ℕ → Option ℕ → Bool
is_within seconds now before = option_map_or (λ t. nat_le now (t + seconds)) before true

-- The first copy of event n may be sent: the moment is at least 10 seconds after the first copy of the event before, where there is one.
abbrev pub may_begin : List Mark → ℕ → ℕ → Bool
may_begin ms now n = is_after 10 now (first_copy (n - 1) ms)

-- A further copy of event n may be sent: the moment is at least 20 seconds after the last copy, and at most 180 after the first.
abbrev pub may_repeat : List Mark → ℕ → ℕ → Bool
may_repeat ms now n = is_after 20 now (last_copy n ms) && is_within 180 now (first_copy n ms)

-- by the event that is in flight once the step has given up what is too old
abbrev pub sends_by : List Mark → ℕ → Option ℕ → Option ℕ
sends_by ms now (Some n) = if may_repeat ms now n then Some n else None
sends_by ms now None = option_and_then (λ n. if may_begin ms now n then Some n else None) (oldest_waiting ms)

-- The event of whose message a step at a moment sends a copy. The step first gives up a message whose first copy is more than 240 seconds
-- old. Where one is in flight then, a further copy of it is sent if it may be, and otherwise nothing. Where none is, the oldest event that
-- waits is sent for the first time if it may be.
abbrev pub sends : List Mark → ℕ → Option ℕ
sends ms now = let after = Steps now None ∷ ms in sends_by after now (in_flight after)
