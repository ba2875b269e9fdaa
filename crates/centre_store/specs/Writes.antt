-- What writing the record of an event to a journal answers, and a checkpoint before it.
use Rattle.std.specs.Prelude.{◌≡◌, ◌<◌, ◌+◌, ℕ, List}
use Rattle.arc_io.specs.Causes.{Rose}
use Rattle.arc_io.specs.Disks.{DiskSeen}
use Rattle.centre_core.specs.declared.hall.Stop.{Stop}
use Rattle.centre_core.specs.declared.hall.Stop.TheVariants.{Memory, Down, Full, Worn}
use Rattle.centre_rules.specs.History.{Entry}
use Rattle.centre_rules.specs.State.{State, StandsFor}
use Rattle.centre_rules.specs.Summary.{Summary}
use Rattle.disk_journal.specs.Faults.{IsOver}
use Rattle.disk_journal.specs.declared.journal.Journal.{Journal}
use Rattle.centre_store.specs.Given.{IsGiven, HoldsRecordedIn, summed_size}
use Rattle.centre_store.specs.Stores.{IsSameJournal}

-- the centre stands for the history over a summary that areas give, and the journal has in a version what was recorded
pub record HaveAllIn {D : Type 0} (seen : D → DiskSeen) (v : ℕ) (j : Journal D) (s : State) (b : Summary) (h : List Entry) : Type 0 where
  pub given : IsGiven b
  pub stands : StandsFor b s h
  pub holds : HoldsRecordedIn seen v j b h

-- as it is written
abbrev pub HaveAll : {D : Type 0} → (D → DiskSeen) → Journal D → State → Summary → List Entry → Type 0
HaveAll seen j s b h = HaveAllIn seen 2 j s b h

-- there are such a summary and history
pub record HaveSomeIn {D : Type 0} (seen : D → DiskSeen) (version : ℕ) (j : Journal D) (s : State) : Type 0 where
  pub base : Summary
  pub history : List Entry
  pub all : HaveAllIn seen version j s base history

abbrev pub HaveSome : {D : Type 0} → (D → DiskSeen) → Journal D → State → Type 0
HaveSome seen j s = HaveSomeIn seen 2 j s

-- a record of so many bytes would pass a limit of the journal
abbrev pub IsOverAt : {D : Type 0} → Journal D → ℕ → Type 0
IsOverAt j need = IsOver j.used need j.records j.limits.bytes j.limits.records

-- and behind a checkpoint, after which so many bytes are used
abbrev pub IsOverThen : {D : Type 0} → Journal D → ℕ → ℕ → Type 0
IsOverThen j used need = IsOver used need 0 j.limits.bytes j.limits.records

-- so many bytes are used after a checkpoint of all that the journal has and the centre stands for
abbrev pub IsSummedSize : {D : Type 0} → (D → DiskSeen) → Journal D → State → ℕ → Type 0
IsSummedSize seen j s used = (b : Summary) (h : List Entry) → HaveAll seen j s b h → used ≡ summed_size b h

-- the journal is as it was, and a record of so many bytes would pass a limit, behind a checkpoint too
pub record IsFullAt {D : Type 0} (seen : D → DiskSeen) (old : Journal D) (s : State) (wanted used need records : ℕ) : Type 0 where
  pub used_is : IsSummedSize seen old s used
  pub need_is : need ≡ wanted
  pub records_is : records ≡ 0
  pub now : IsOverAt old wanted
  pub then : IsOverThen old used wanted

-- What the journal has after a record of so many bytes was written: the record is behind the others where there was room for it; else it is
-- alone behind a new summary, of all that was recorded, with which so many bytes are used.
pub record IsWrittenOn {D : Type 0} (old new : Journal D) (summed need : ℕ) : Type 0 where
  pub behind : (IsOverAt old need → ⊥)
      → (new.generation ≡ old.generation) × (new.used ≡ old.used + need) × (new.records ≡ old.records + 1)
  pub turned : IsOverAt old need → (new.generation ≡ old.generation + 1) × (new.used ≡ summed + need) × (new.records ≡ 1)

-- why a record of so many bytes was not written: want of memory; that the disk has failed since this count; a limit
abbrev pub IsUnwritten : {D : Type 0} → (D → DiskSeen) → ℕ → Journal D → Journal D → State → ℕ → Stop → Type 0
IsUnwritten seen at_open old new s wanted Memory = IsSameJournal old new
IsUnwritten seen at_open old new s wanted (Down was now) = (was ≡ at_open) × (now ≡ (seen new.disk).faults) × Rose at_open now
IsUnwritten seen at_open old new s wanted (Full used need records) = IsSameJournal old new × IsFullAt seen old s wanted used need records
IsUnwritten seen at_open old new s wanted (Worn count) = ⊥

-- Checkpoints.

-- the summary of the journal is that of all that was recorded: there is no record behind it
pub record IsSummedUp {D : Type 0} (j : Journal D) : Type 0 where
  pub summary : j.generation ≡ 0 → ⊥
  pub none_behind : j.records ≡ 0

-- what the journal has after a checkpoint, with which so many bytes are used
pub record IsTurned {D : Type 0} (old new : Journal D) (used : ℕ) : Type 0 where
  pub generation : new.generation ≡ old.generation + 1
  pub used_is : new.used ≡ used
  pub records : new.records ≡ 0

-- a summary of all that was recorded, with which so many bytes would be used, would pass the limit of the journal
pub record IsTooLong {D : Type 0} (seen : D → DiskSeen) (j : Journal D) (s : State) (used need records : ℕ) : Type 0 where
  pub used_is : IsSummedSize seen j s used
  pub need_is : need ≡ 0
  pub records_is : records ≡ 0
  pub over : j.limits.bytes < used
  pub behind : IsSummedUp j → ⊥

-- why a checkpoint was not made
abbrev pub IsUnmade : {D : Type 0} → (D → DiskSeen) → ℕ → Journal D → Journal D → State → Stop → Type 0
IsUnmade seen at_open old new s Memory = IsSameJournal old new
IsUnmade seen at_open old new s (Down was now) = (was ≡ at_open) × (now ≡ (seen new.disk).faults) × Rose at_open now
IsUnmade seen at_open old new s (Full used need records) = IsSameJournal old new × IsTooLong seen old s used need records
IsUnmade seen at_open old new s (Worn count) = ⊥
