-- Schedules: what panels, network and power do to a centre. The ideal list of a schedule has each sending once; its history is
-- what a centre makes of it. Steps stand the newest first, as entries do. Each entry is of the caller 0.
use Rattle.std.specs.Prelude.{◌≡◌, ◌≤◌, ◌==◌, ◌-◌, ◌||◌, ℕ, List, [], ◌∷◌, Bool, true, false, if◌then◌else◌}
use Rattle.std.specs.Prelude.{Option, Some, None, is_ok, length, map, take, drop}
use Rattle.std.specs.List.{list_any, AllByRecursion}
use Rattle.arc_data.specs.declared.event.Event.{Event}
use Rattle.arc_data.specs.declared.event.Event.TheVariants.{Adopt, Start, Message as Sent}
use Rattle.arc_data.specs.declared.event.Message.{Message}
use Rattle.arc_data.specs.declared.reply.Reply.TheVariants.{Adopted, Started, Taken}
use Rattle.alarm_rules.specs.Setups.{setup_of, meaning, has_account}
use Rattle.centre_rules.specs.Summary.{nothing}
use Rattle.centre_rules.specs.History.{Entry, is_recorded, recorded, moment_after}
use Rattle.alarm_rules.specs.Signals.{has_signals}
use Rattle.centre_rules.specs.Answers.{answer}

-- A sending is delivered: its number, its message, the line by which it comes this time, the reading of the clock, and whether it is
-- acknowledged. Another event comes, likewise. A reply is lost. A crash keeps so many entries, and a Start follows at this reading.
pub data Step : Type 0 where
  Deliver : (number : ℕ) (message : Message) (via : List ℕ) (clock : ℕ) (acknowledged : Bool) → Step
  Other : (event : Event) (clock : ℕ) (acknowledged : Bool) → Step
  Lose : Step
  Crash : (kept : ℕ) (clock : ℕ) → Step

-- a setup text, a first reading of the clock, and the steps
pub record Schedule : Type 0 where
  pub text : List ℕ
  pub first : ℕ
  pub steps : List Step

-- the entry of an event that is submitted after these entries at this reading of the clock
abbrev pub next : List Entry → Event → ℕ → Entry
next h e clock = let at = moment_after nothing h clock in record { caller = 0; event = e; at = at; reply = answer nothing h e at }

-- the oldest n, of a list that stands the newest first
abbrev pub oldest : {A : Type 0} → ℕ → List A → List A
oldest n xs = drop (length xs - n) xs

-- The ideal list.

-- an entry, the number of its sending, where it is of one, and whether it is acknowledged
pub record Item : Type 0 where
  pub number : Option ℕ
  pub acknowledged : Bool
  pub entry : Entry

-- the entries alone
abbrev pub entries : List Item → List Entry
entries w = map (λ i. i.entry) w

-- the number is this one
abbrev pub is_same : ℕ → Option ℕ → Bool
is_same n None = false
is_same n (Some k) = n == k

-- the item is of the sending with this number
abbrev pub is_of_sending : ℕ → Item → Bool
is_of_sending n i = is_same n i.number

-- the number stands in the list
abbrev pub stands : ℕ → List Item → Bool
stands n w = list_any (is_of_sending n) w

-- the item is acknowledged from now on, if it is of the sending
abbrev pub acknowledge_item : ℕ → Item → Item
acknowledge_item n i = record i { acknowledged = i.acknowledged || is_of_sending n i }

-- the item of the sending is acknowledged from now on
abbrev pub acknowledge : ℕ → List Item → List Item
acknowledge n w = map (acknowledge_item n) w

-- the entry of a message that is taken, by a line
abbrev pub message_entry : List Item → Message → List ℕ → ℕ → Entry
message_entry w m via clock = record { caller = 0; event = Sent m via; at = moment_after nothing (entries w) clock; reply = Taken }

-- the entry of a Start
abbrev pub start_entry : List Item → ℕ → Entry
start_entry w clock = record { caller = 0; event = Start; at = moment_after nothing (entries w) clock; reply = Started }

-- an item of a sending
abbrev pub sent_item : ℕ → Bool → Entry → Item
sent_item n acknowledged e = record { number = Some n; acknowledged = acknowledged; entry = e }

-- an item of none
abbrev pub item_of : Bool → Entry → Item
item_of acknowledged e = record { number = None; acknowledged = acknowledged; entry = e }

-- a delivery adds its message where its number does not stand yet, by whichever line that came
abbrev pub delivered : ℕ → Message → List ℕ → ℕ → Bool → List Item → List Item
delivered n m via clock acknowledged w =
    if stands n w
    then (if acknowledged then acknowledge n w else w)
    else sent_item n acknowledged (message_entry w m via clock) ∷ w

-- an entry is added where its reply is not quiet
abbrev pub added : Entry → Bool → List Item → List Item
added e acknowledged w = if is_recorded e.reply then item_of acknowledged e ∷ w else w

-- the list after a step
abbrev pub after_step : Step → List Item → List Item
after_step (Deliver n m via clock acknowledged) w = delivered n m via clock acknowledged w
after_step (Other e clock acknowledged) w = added (next (entries w) e clock) acknowledged w
after_step Lose w = w
after_step (Crash kept clock) w = let left = oldest kept w in item_of false (start_entry left clock) ∷ left

-- the Adopt of the text, at the first reading
abbrev pub first_adopt : List ℕ → ℕ → Entry
first_adopt text first = record { caller = 0; event = Adopt text; at = first; reply = Adopted }

-- the Start at the first reading
abbrev pub first_start : ℕ → Entry
first_start first = record { caller = 0; event = Start; at = first; reply = Started }

-- the first two items, the newer one first
abbrev pub beginning : Schedule → List Item
beginning x = item_of false (first_start x.first) ∷ item_of false (first_adopt x.text x.first) ∷ []

-- the ideal list after some of the steps of a schedule
abbrev pub ideal_after : Schedule → List Step → List Item
ideal_after x [] = beginning x
ideal_after x (s ∷ earlier) = after_step s (ideal_after x earlier)

-- the ideal list of the schedule
abbrev pub ideal_list : Schedule → List Item
ideal_list x = ideal_after x x.steps

-- The history. Each delivery and each other event is submitted, and its answer is its reply. A crash keeps the oldest of the
-- recorded entries.

-- the history with the entry of an event
abbrev pub submitted : Event → ℕ → List Entry → List Entry
submitted e clock h = next h e clock ∷ h

-- the history after a step
abbrev pub history_step : Step → List Entry → List Entry
history_step (Deliver n m via clock acknowledged) h = submitted (Sent m via) clock h
history_step (Other e clock acknowledged) h = submitted e clock h
history_step Lose h = h
history_step (Crash kept clock) h = submitted Start clock (oldest kept (recorded h))

-- the history after some of the steps of a schedule
abbrev pub history_after : Schedule → List Step → List Entry
history_after x [] = submitted Start x.first (submitted (Adopt x.text) x.first [])
history_after x (s ∷ earlier) = history_step s (history_after x earlier)

-- the history of the schedule
abbrev pub history : Schedule → List Entry
history x = history_after x x.steps

-- What a schedule is.

-- P holds of each step, with the steps before it
abbrev pub Each : (Step → List Step → Type 0) → List Step → Type 0
Each P [] = Unit {0}
Each P (s ∷ earlier) = P s earlier × Each P earlier

-- the message is of an account of the setup and has signals
pub record IsPanels (text : List ℕ) (m : Message) : Type 0 where
  pub account : has_account (meaning text) m.account ≡ true
  pub signals : has_signals m.token m.content ≡ true

-- no message, no Adopt and no Start
abbrev pub is_other : Event → Bool
is_other (Sent m via) = false
is_other (Adopt text) = false
is_other Start = false
is_other other = true

-- a crash keeps the first two entries and each that is acknowledged
pub record IsKept (kept : ℕ) (w : List Item) : Type 0 where
  pub beginning : 2 ≤ kept
  pub acknowledged : AllByRecursion (λ i. i.acknowledged ≡ false) (take (length w - kept) w)

-- what a step of a schedule is, after the steps before it
abbrev pub IsStep : Schedule → Step → List Step → Type 0
IsStep x (Deliver n m via clock acknowledged) earlier = IsPanels x.text m
IsStep x (Other e clock acknowledged) earlier = is_other e ≡ true
IsStep x Lose earlier = Unit {0}
IsStep x (Crash kept clock) earlier = IsKept kept (ideal_after x earlier)

-- the text is a setup, and each step is one
pub record IsSchedule (x : Schedule) : Type 0 where
  pub setup : is_ok (setup_of x.text) ≡ true
  pub steps : Each (IsStep x) x.steps

-- the step is no crash
abbrev pub IsNoCrash : Step → List Step → Type 0
IsNoCrash (Crash kept clock) earlier = ⊥
IsNoCrash other earlier = Unit {0}
