-- Events that are submitted together: their entries, what is answered of them, and what the areas have of them.
use Rattle.std.specs.Prelude.{◌≡◌, ◌≤◌, ◌<◌, ◌+◌, ◌⊎◌, ◌^◌, ℕ, List, [], ◌∷◌, if◌then◌else◌, Option, Some, length, take, drop, IfSome, true}
use Rattle.arc_data.specs.declared.event.Event.{Event}
use Rattle.arc_io.specs.Areas.{Areas}
use Rattle.arc_io.specs.Disks.{DiskSeen}
use Rattle.arc_io.specs.Crashes.{LeavesOnly}
use Rattle.centre_rules.specs.Summary.{Summary}
use Rattle.centre_rules.specs.History.{Entry, moment_after, is_recorded}
pub use Rattle.centre_core.specs.Batches.{MayBeSubmitted, IsBatch, entry_by, with_all, done_of, dones_of, IsDownThen}
use Rattle.centre_core.specs.declared.hall.Stop.{Stop}
use Rattle.centre_core.specs.declared.hall.Stop.TheVariants.{Memory, Down, Full, Worn}
use Rattle.disk_journal.specs.Faults.{IsOverWithAll}
use Rattle.disk_journal.specs.Records.{need_of_all}
use Rattle.disk_journal.specs.declared.journal.Journal.{Journal}
use Rattle.event_codec.specs.Spelling.{HasSpelling}
use Rattle.centre_store.specs.Bodies.{need_of, body_in}
use Rattle.centre_store.specs.Calls.{Submission}
use Rattle.centre_store.specs.Given.{StandForIn, summed_size}
use Rattle.centre_store.specs.Stores.{Stored, HasFailed, StoreStands, IsToRecord, IsOverWith, IsSameJournal, Shows}
use Rattle.centre_store.specs.Writes.{IsOverAt, IsOverThen, IsWrittenOn}

-- the bodies of the recorded ones of their entries, as they are written, the oldest first
abbrev pub bodies_by : ℕ → Summary → List Entry → List Submission → List (List ℕ)
bodies_by caller b h [] = []
bodies_by caller b h (call ∷ later) =
    let e = entry_by caller b h call in
    let further = bodies_by caller b (e ∷ h) later in if is_recorded e.reply then body_in 2 e ∷ further else further

-- the areas stand for the recorded entries of a history, or for them with those of these submissions, all of them
abbrev pub StandForGroup : ℕ → Summary → List Entry → List Submission → Areas → Type 0
StandForGroup caller b h calls areas = StandForIn 2 b h areas ⊎ StandForIn 2 b (with_all caller b h calls) areas

-- what a read gives of the areas, and all that a crash may leave of them now
pub record HasGroup (disk : DiskSeen) (caller : ℕ) (b : Summary) (h : List Entry) (calls : List Submission) : Type 0 where
  pub area : IfSome disk.told (StandForGroup caller b h calls)
  pub images : (c : Areas) → disk.may_leave c → StandForGroup caller b h calls c

-- each of their entries that is recorded has a spelling, so that what a disk has of them can be opened
abbrev pub AreSpelledBy : ℕ → Summary → List Entry → List Submission → Type 0
AreSpelledBy caller b h [] = Unit {0}
AreSpelledBy caller b h (call ∷ later) =
    let e = entry_by caller b h call in
    (is_recorded e.reply ≡ true → HasSpelling e.event e.at) × AreSpelledBy caller b (e ∷ h) later

-- what stopped a batch, shown by the store behind it and what is then left of the batch: Full by the event that is then first
abbrev pub ShowsOfGroup : {D : Type 0} → (D → DiskSeen) → Stored D → Stop → List Submission → Type 0
ShowsOfGroup seen s Memory left = Unit {0}
ShowsOfGroup seen s (Down at_open now) left = (at_open ≡ s.at_open) × (now ≡ (seen s.journal.disk).faults) × HasFailed seen s
ShowsOfGroup seen s (Full used need records) left =
    (call : Submission) × (later : List Submission) × (left ≡ call ∷ later)
    × Shows seen s (Full used need records) call.event call.clock
ShowsOfGroup seen s (Worn count) left = (count ≡ s.state.entries) × (2 ^ 48 ≤ count)

-- The record of the next one, which would be recorded, has no room behind those that the journal has. It might have an entry.
pub record HasNoRoom {D : Type 0} (seen : D → DiskSeen) (s : Stored D) (call : Submission) : Type 0 where
  pub over : IsOverAt s.journal (need_of call.event)
  pub few : s.state.entries < 2 ^ 48
  pub to_record : (b : Summary) (h : List Entry) → StoreStands seen b s h → IsToRecord b h call.event call.clock

-- the first of these has none
abbrev pub FirstHasNoRoom : {D : Type 0} → (D → DiskSeen) → Stored D → List Submission → Type 0
FirstHasNoRoom seen s [] = ⊥
FirstHasNoRoom seen s (call ∷ later) = HasNoRoom seen s call

-- Why no further one was taken where nothing stopped the batch: none is left; or some are answered, and the next one has no room behind
-- those that were written; or the first one had none, and was submitted alone.
abbrev pub IsTakenUp : {D : Type 0} → (D → DiskSeen) → Stored D → Stored D → List Submission → List Submission → ℕ → Type 0
IsTakenUp seen old new calls left count =
    (left ≡ []) ⊎ ((1 ≤ count) × FirstHasNoRoom seen new left) ⊎ (FirstHasNoRoom seen old calls × (count ≡ 1))

-- The records of these bodies are behind those that the journal had, in the same area, and pass no limit with them; without any it is as it
-- was.
pub record AreWrittenOn {D : Type 0} (old new : Journal D) (bodies : List (List ℕ)) : Type 0 where
  pub generation : new.generation ≡ old.generation
  pub used_is : new.used ≡ old.used + need_of_all bodies
  pub records_is : new.records ≡ old.records + length bodies
  pub fit : 1 ≤ length bodies
      → IsOverWithAll old.used (need_of_all bodies) old.records (length bodies) old.limits.bytes old.limits.records → ⊥
  pub none : bodies ≡ [] → IsSameJournal old new

-- The first one had no room and was answered alone: its record is alone behind a new summary, where it has room.
pub record IsAloneOn {D : Type 0} (seen : D → DiskSeen) (old new : Stored D) (b : Summary) (h : List Entry)
    (calls : List Submission) (count : ℕ) : Type 0 where
  pub first : Submission
  pub later : List Submission
  pub split : calls ≡ first ∷ later
  pub one : count ≡ 1
  pub had_none : HasNoRoom seen old first
  pub written : IsWrittenOn old.journal new.journal (summed_size b h) (need_of first.event)
  pub fits : IsOverThen old.journal (summed_size b h) (need_of first.event) → ⊥

-- What the journal has of those that are answered: their records together, or that of the first one alone.
abbrev pub AreWritten : {D : Type 0} → (D → DiskSeen) → Stored D → Stored D → ℕ → Summary → List Entry → List Submission → ℕ → Type 0
AreWritten seen old new caller b h calls count =
    AreWrittenOn old.journal new.journal (bodies_by caller b h (take count calls)) ⊎ IsAloneOn seen old new b h calls count

-- Full comes, want of memory aside, where the first of these is to be recorded and its record would pass a limit, behind a checkpoint too.
abbrev pub IsFullFirst : {D : Type 0} → (D → DiskSeen) → Stored D → List Submission → Option Stop → Type 0
IsFullFirst seen s [] stop = Unit {0}
IsFullFirst seen s (call ∷ later) stop =
    (HasFailed seen s → ⊥) → s.state.entries < 2 ^ 48 → (b : Summary) (h : List Entry)
    → StoreStands seen b s h → IsToRecord b h call.event call.clock → IsOverWith s (summed_size b h) (need_of call.event)
    → (stop ≡ Some Memory) ⊎ (stop ≡ Some (Full (summed_size b h) (need_of call.event) 0))

-- the stop is Full
abbrev pub IsFullStop : Stop → Type 0
IsFullStop (Full used need records) = Unit {0}
IsFullStop stop = ⊥

-- What a crash may leave at any moment of a call, and what the disk has behind it: the recorded entries from before it, or them with those
-- of some first ones of the batch, all of them, which are those that are off it; where the call did not end by Down, they are those that it
-- answered.
pub record GoesTogether {D : Type 0} (seen : D → DiskSeen) (old new : Stored D) (caller : ℕ) (b : Summary) (h : List Entry)
    (calls left : List Submission) (count : ℕ) (stop : Option Stop) : Type 0 where
  pub some : ℕ
  pub within : some ≤ length calls
  pub off : left ≡ drop some calls
  pub answered : (IsDownThen stop → ⊥) → some ≡ count
  pub spelled : AreSpelledBy caller b h (take some calls)
  pub any_moment : LeavesOnly (seen old.journal.disk) (seen new.journal.disk) (StandForGroup caller b h (take some calls))
  pub met : HasGroup (seen new.journal.disk) caller b h (take some calls)

-- the entry of an event has a spelling, whatever the store stands for
abbrev pub IsSpelledThen : {D : Type 0} → (D → DiskSeen) → Stored D → Event → ℕ → Type 0
IsSpelledThen seen s event clock =
    (b : Summary) (h : List Entry) → StoreStands seen b s h → HasSpelling event (moment_after b h clock)
