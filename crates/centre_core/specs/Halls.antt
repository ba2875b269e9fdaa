-- What a hall tells, and what a call of it leaves. A hall stands for histories over a beginning, and of each a part is its
-- caller's own.
use Rattle.std.specs.Prelude.{◌≡◌, ◌≤◌, ℕ, List, ◌∷◌, Bool, false}
use Rattle.arc_data.specs.declared.event.Event.{Event}
use Rattle.centre_rules.specs.Summary.{Summary}
use Rattle.centre_rules.specs.History.{Entry, Extends, moment_after}
use Rattle.centre_rules.specs.Answers.{IsLegal}
use Rattle.centre_core.specs.declared.hall.Stop.{Stop}

-- What no call of a hall over a disk changes: the count of the disk's faults when the store was opened; how many bytes and how many
-- records the journal takes at most; and whether the disk tells what it holds.
pub record Fixed : Type 0 where
  pub at_open : ℕ
  pub bytes : ℕ
  pub records : ℕ
  pub tells : Bool

-- of a hall without a disk
abbrev pub no_disk : Fixed
no_disk = record { at_open = 0; bytes = 0; records = 0; tells = false }

-- What it tells at one moment.
pub record HallSeen : Type 1 where
  -- calls may be made
  pub ready : Type 0
  -- the text of the setup in force
  pub text : List ℕ
  -- the number under which its caller's entries stand
  pub caller : ℕ
  -- what no call changes
  pub fixed : Fixed
  -- a number above that of each caller that it knows
  pub count : ℕ
  -- the greatest count of disk faults that its caller was told
  pub told : ℕ
  -- the histories, over a beginning, for which it stands
  pub stands : Summary → List Entry → Type 0
  -- what was recorded of such a history can be read again
  pub readable : Summary → List Entry → Type 0
  -- a crash at any moment from one of its disk's clock on leaves all that it had recorded by then, and nothing past such a history
  pub leaves : ℕ → List Entry → Summary → List Entry → Type 0
  -- the part of such a history that its caller made
  pub own : List Entry → List Entry
  -- what it shows after a stop of an event at a reading of the clock: that the stop had its cause
  pub shows : Stop → Event → ℕ → Type 0
  -- its disk has not failed, as far as it tells
  pub up : Type 0
  -- what its disk may have of an event that was stopped at a reading behind a history
  pub torn : Summary → List Entry → Event → ℕ → Type 0

-- What each call leaves: calls may be made, under the same setup, for the same caller, and neither of the two counts fell.
pub record IsKept (hall hall' : HallSeen) : Type 0 where
  pub ready : hall'.ready
  pub text : hall'.text ≡ hall.text
  pub caller : hall'.caller ≡ hall.caller
  pub fixed : hall'.fixed ≡ hall.fixed
  pub count : hall.count ≤ hall'.count
  pub told : hall.told ≤ hall'.told

-- What is so of the hall's disk and a history is so of it and a later one, behind the hall's calls: what was recorded can be read
-- again; and then, since whatever moment, a crash leaves all that had been recorded by that, and nothing past the history.
pub record DiskGoesOn (b : Summary) (hall hall' : HallSeen) (h x : List Entry) : Type 0 where
  pub reads : hall.readable b h → hall'.readable b x
  pub leaves : hall.readable b h → (t : ℕ) (k : List Entry) → hall.leaves t k b h → hall'.leaves t k b x

-- From h on, the hall stands for a history that ends with this entry. before is that history without the entry.
pub record GoesOn (b : Summary) (hall hall' : HallSeen) (h : List Entry) (clock : ℕ) (e : Entry) : Type 0 where
  pub before : List Entry
  pub extends : Extends h before
  pub holds : hall'.stands b (e ∷ before)
  pub legal : IsLegal b (e ∷ before)
  pub at : e.at ≡ moment_after b before clock
  pub own : hall'.own (e ∷ before) ≡ e ∷ hall.own h
  pub disk : DiskGoesOn b hall hall' h (e ∷ before)
  pub up : hall'.up

-- From h on, the hall stands for a legal history to which this call added nothing.
pub record Waits (b : Summary) (hall hall' : HallSeen) (h : List Entry) : Type 0 where
  pub now : List Entry
  pub extends : Extends h now
  pub holds : hall'.stands b now
  pub legal : IsLegal b now
  pub own : hall'.own now ≡ hall.own h
  pub disk : DiskGoesOn b hall hall' h now

-- The hall took the event at a reading, as the caller's next entry behind others.
pub record TookEvent (b : Summary) (hall hall' : HallSeen) (h : List Entry) (event : Event) (reading : ℕ) : Type 0 where
  pub entry : Entry
  pub goes : GoesOn b hall hall' h reading entry
  pub by : entry.caller ≡ hall.caller
  pub of : entry.event ≡ event

-- The hall stopped an event at a reading behind a history: it shows the cause, and where its disk had not failed before, that has no more
-- than this event.
pub record IsStopOf (b : Summary) (hall hall' : HallSeen) (now : List Entry) (stop : Stop) (event : Event) (reading : ℕ) : Type 0 where
  pub shown : hall'.shows stop event reading
  pub torn : hall.up → hall'.torn b now event reading

-- The hall stopped: nothing of the caller's was added, and the stop had its cause.
pub record LeftEvent (stop : Stop) (b : Summary) (hall hall' : HallSeen) (h : List Entry) (event : Event) (reading : ℕ) : Type 0 where
  pub waits : Waits b hall hall' h
  pub cause : IsStopOf b hall hall' waits.now stop event reading
