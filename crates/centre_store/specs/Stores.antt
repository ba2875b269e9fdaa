-- What a store stands for, what a call of it does, and what it shows after a stop.
use Rattle.std.specs.Prelude.{◌≡◌, ◌≤◌, ◌⊎◌, ◌^◌, ℕ, List, ◌∷◌, true, Result, Ok, Err, OnErr, IfErr}
use Rattle.arc_data.specs.declared.event.Event.{Event}
use Rattle.arc_io.specs.Disks.{DiskSeen}
use Rattle.arc_io.specs.Causes.{Rose}
use Rattle.centre_rules.specs.Summary.{Summary}
use Rattle.centre_rules.specs.History.{Entry, moment_after, is_recorded}
use Rattle.centre_rules.specs.Answers.{IsNext, answer}
use Rattle.centre_rules.specs.State.{State, StandsFor}
pub use Rattle.centre_core.specs.Batches.{IsDown}
use Rattle.centre_core.specs.declared.hall.Stop.{Stop}
use Rattle.centre_core.specs.declared.hall.Stop.TheVariants.{Memory, Down, Full, Worn}
use Rattle.disk_journal.specs.Faults.{IsOver}
use Rattle.disk_journal.specs.declared.journal.Journal.{Journal}
use Rattle.event_codec.specs.Spelling.{HasSpelling, spelling}
use Rattle.centre_store.specs.Bodies.{need_of}
use Rattle.centre_store.specs.Given.{IsGiven, HasRecorded, HasEither, HoldsRecorded, summed_size}

-- the centre's state, the journal over its disk, and the count of the disk's faults when the store was opened
pub record Stored (D : Type 0) : Type 0 where
  pub state : State
  pub journal : Journal D
  pub at_open : ℕ

-- the disk has failed since the store was opened
abbrev pub HasFailed : {D : Type 0} → (D → DiskSeen) → Stored D → Type 0
HasFailed seen s = Rose s.at_open (seen s.journal.disk).faults

-- the entry goes on from the history, is recorded, and has a spelling
pub record IsNextKept (b : Summary) (h : List Entry) (e : Entry) : Type 0 where
  pub next : IsNext b h e
  pub recorded : is_recorded e.reply ≡ true
  pub spelled : HasSpelling e.event e.at

-- The disk failed when the record of such an entry was written: the areas have it or not. So they can be opened again, and have a past in
-- either case.
pub record IsTorn (disk : DiskSeen) (b : Summary) (h : List Entry) : Type 0 where
  pub entry : Entry
  pub goes_on : IsNextKept b h entry
  pub leaves : HasEither disk b h (spelling entry.event entry.at)

-- The store stands for the history over a summary that areas give: its centre does, and its journal has the recorded entries. After a
-- fault of the disk the areas stand for them, and after one that met an event, for them or for them with the record of that one more.
pub record StoreStands {D : Type 0} (seen : D → DiskSeen) (b : Summary) (s : Stored D) (h : List Entry) : Type 0 where
  pub given : IsGiven b
  pub centre : StandsFor b s.state h
  pub journal : HoldsRecorded seen s.journal b h
      ⊎ (HasFailed seen s × (HasRecorded (seen s.journal.disk) b h ⊎ IsTorn (seen s.journal.disk) b h))

-- whatever the store stood for, it stands for
abbrev pub StandsOn : {D : Type 0} → (D → DiskSeen) → Stored D → Stored D → Type 0
StandsOn seen old new = (b : Summary) (h : List Entry) → StoreStands seen b old h → StoreStands seen b new h

-- it stands for some history over some beginning
pub record StandsForSome {D : Type 0} (seen : D → DiskSeen) (s : Stored D) : Type 0 where
  pub base : Summary
  pub history : List Entry
  pub stands : StoreStands seen base s history

-- Every store stands for some history over some beginning, unless the disk has failed since the opening: its centre may then have entries
-- whose records, written together, the disk has or not. It has at most 2^48 entries, and the count of the disk's faults is at least that at
-- opening.
pub record IsStored {D : Type 0} (seen : D → DiskSeen) (s : Stored D) : Type 0 where
  pub some : (HasFailed seen s → ⊥) → StandsForSome seen s
  pub few : s.state.entries ≤ 2 ^ 48
  pub later : s.at_open ≤ (seen s.journal.disk).faults

-- from h on, the store stands for the history with this entry, whose moment and reply are those of one thread
pub record Takes {D : Type 0} (seen : D → DiskSeen) (b : Summary) (s : Stored D) (h : List Entry) (clock : ℕ) (e : Entry) : Type 0 where
  pub stands : StoreStands seen b s (e ∷ h)
  pub at : e.at ≡ moment_after b h clock
  pub reply : e.reply ≡ answer b h e.event e.at

-- the event would be recorded
abbrev pub IsToRecord : Summary → List Entry → Event → ℕ → Type 0
IsToRecord b h event clock = is_recorded (answer b h event (moment_after b h clock)) ≡ true

-- A record of so many bytes would pass a limit of the journal, and so it would behind a checkpoint, where so many bytes are used and there
-- is no record.
pub record IsOverWith {D : Type 0} (s : Stored D) (used need : ℕ) : Type 0 where
  pub now : IsOver s.journal.used need s.journal.records s.journal.limits.bytes s.journal.limits.records
  pub then : IsOver used need 0 s.journal.limits.bytes s.journal.limits.records

-- The journal has no room for a record of `wanted` bytes, which is due after each history, not even behind a checkpoint, for which these
-- are the numbers; the disk has not failed.
pub record IsShownFull {D : Type 0} (seen : D → DiskSeen)
    (s : Stored D) (wanted : ℕ) (IsDue : Summary → List Entry → Type 0) (used need records : ℕ) : Type 0 where
  pub used_is : (b : Summary) (h : List Entry) → StoreStands seen b s h → used ≡ summed_size b h
  pub need_is : need ≡ wanted
  pub records_is : records ≡ 0
  pub over : IsOverWith s used wanted
  pub up : HasFailed seen s → ⊥
  pub to_record : (b : Summary) (h : List Entry) → StoreStands seen b s h → IsDue b h

-- what a store shows after it stopped at a record of `wanted` bytes
abbrev pub ShowsAt : {D : Type 0} → (D → DiskSeen) → Stored D → ℕ → (Summary → List Entry → Type 0) → Stop → Type 0
ShowsAt seen s wanted IsDue Memory = Unit {0}
ShowsAt seen s wanted IsDue (Down at_open now) = (at_open ≡ s.at_open) × (now ≡ (seen s.journal.disk).faults) × Rose at_open now
ShowsAt seen s wanted IsDue (Full used need records) = IsShownFull seen s wanted IsDue used need records
ShowsAt seen s wanted IsDue (Worn count) = (count ≡ s.state.entries) × (2 ^ 48 ≤ count)

-- at an event, whose record is due where it would be recorded
abbrev pub Shows : {D : Type 0} → (D → DiskSeen) → Stored D → Stop → Event → ℕ → Type 0
Shows seen s stop event clock = ShowsAt seen s (need_of event) (λ b h. IsToRecord b h event clock) stop

-- what is answered, where a stop comes with something that is given back
abbrev pub stop_of : {A B : Type 0} → Result A (Stop × B) → Result A Stop
stop_of (Ok x) = Ok x
stop_of (Err e) = Err e.0

-- the same but for the journal's room
abbrev pub IsSameJournal : {D : Type 0} → Journal D → Journal D → Type 0
IsSameJournal old new = new ≡ record old { room = new.room }

-- After a stop that is no fault of the disk the journal and its disk are as they were.
abbrev pub LeavesJournal : {A D : Type 0} → Journal D → Journal D → Result A Stop → Type 0
LeavesJournal old new r = IfErr r (λ s. (IsDown s → ⊥) → IsSameJournal old new)

-- After a stop the centre is as it was, and where it is no fault of the disk, the journal and its disk are, too.
pub record IsAsBefore {A D : Type 0} (old new : Stored D) (r : Result A Stop) : Type 0 where
  pub entries : OnErr r (new.state.entries ≡ old.state.entries)
  pub sum : OnErr r (new.state.sum ≡ old.state.sum)
  pub unwritten : LeavesJournal old.journal new.journal r
