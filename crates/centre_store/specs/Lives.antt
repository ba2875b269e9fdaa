-- What a store lives through: the steps of a schedule are done to it by its calls, and a crash comes at any moment of one, or behind it. Of
-- each call all that is known is what its clauses say. Which entries a crash keeps the disk decides.
use Rattle.std.specs.Prelude.{◌≡◌, ◌<◌, ◌⊎◌, ◌^◌, ℕ, List, [], ◌∷◌, Bool, true, false, Some, None}
use Rattle.arc_data.specs.declared.event.Event.{Event}
use Rattle.arc_data.specs.declared.event.Event.TheVariants.{Message as Sent}
use Rattle.arc_io.specs.Areas.{Areas}
use Rattle.arc_io.specs.Disks.{DiskSeen}
use Rattle.arc_io.specs.Crashes.{LeavesOnly}
use Rattle.centre_rules.specs.Summary.{Summary, nothing}
use Rattle.centre_rules.specs.History.{Entry, IsMoment}
use Rattle.centre_laws.specs.Repeats.{TellsTheSame}
use Rattle.centre_laws.specs.Schedules.{Step, Deliver, Other, Lose, Crash, Schedule, IsSchedule, IsStep, IsKept}
use Rattle.centre_laws.specs.Schedules.{entries, ideal_list, history, oldest}
use Rattle.centre_laws.specs.Sendings.{LosesNothing}
use Rattle.disk_journal.specs.Standing.{AreasStand}
use Rattle.centre_store.specs.Begins.{begun_after, LeavesWithin, TellsWithin}
use Rattle.centre_store.specs.Calls.{Submits, Enters}
use Rattle.centre_store.specs.Given.{StandForIn, HasRecorded, GoesOn}
use Rattle.centre_store.specs.Openings.{IsOpened, CanOpen}
use Rattle.centre_store.specs.Stores.{Stored, HasFailed, StoreStands, StandsOn}

-- Between two calls there is an open store, whose disk has not failed. Behind a crash, or where the store was closed, there are the areas.
pub data World (D : Type 0) : Type 0 where
  Open : (s : Stored D) → World D
  Left : (areas : Areas) → World D

-- a crash at some moment from the one store to the other may leave these areas, or reads give them of the other's disk
abbrev pub IsLeft : {D : Type 0} → (D → DiskSeen) → Stored D → Stored D → Areas → Type 0
IsLeft seen old new c = (seen new.journal.disk).left_since (seen old.journal.disk).moment c ⊎ ((seen new.journal.disk).told ≡ Some c)

-- what there is behind a call with an event; where it is acknowledged, the call has answered Ok before the crash
abbrev pub IsBehind : {D : Type 0} → (D → DiskSeen) → Stored D → Event → ℕ → Bool → World D → Type 0
IsBehind {D} seen old event clock acknowledged (Open s) = Enters seen old s event clock
IsBehind {D} seen old event clock true (Left c) = (s : Stored D) × Enters seen old s event clock × IsLeft seen s s c
IsBehind {D} seen old event clock false (Left c) = (s : Stored D) × Submits seen old s event clock × IsLeft seen old s c

-- What is so of a call that enters nothing: a checkpoint, or an event that is stopped while the disk has not failed.
pub record KeepsAll {D : Type 0} (seen : D → DiskSeen) (old new : Stored D) : Type 0 where
  pub stands : StandsOn seen old new
  pub any_moment : (b : Summary) (h : List Entry) → StoreStands seen b old h
      → LeavesOnly (seen old.journal.disk) (seen new.journal.disk) (StandForIn 2 b h)
  pub met : (b : Summary) (h : List Entry) → StoreStands seen b old h → HasRecorded (seen new.journal.disk) b h

abbrev pub IsBehindNone : {D : Type 0} → (D → DiskSeen) → Stored D → World D → Type 0
IsBehindNone {D} seen old (Open s) = KeepsAll seen old s × (HasFailed seen s → ⊥)
IsBehindNone {D} seen old (Left c) = (s : Stored D) × KeepsAll seen old s × IsLeft seen old s c

-- The areas are opened with Ok. Openings before it were refused or broken off by crashes: what these left stands for all for which the
-- areas stood before.
pub record Reopens {D : Type 0} (seen : D → DiskSeen) (areas : Areas) (s : Stored D) : Type 0 where
  pub again : Areas
  pub goes_on : GoesOn areas again
  pub disk : D
  pub tells : (seen disk).told ≡ Some again
  pub opened : IsOpened seen disk s
  pub up : HasFailed seen s → ⊥

-- What is so of a call of `begin` with a setup of this text, whatever it answers.
pub record Begins {D : Type 0} (seen : D → DiskSeen) (old new : Stored D) (text : List ℕ) (clock : ℕ) : Type 0 where
  pub moment : IsMoment clock
  pub few : old.state.entries < 2 ^ 48
  pub any_moment : LeavesWithin seen old new text clock
  pub met : TellsWithin seen old new text clock

-- it answers Ok
pub record HasBegun {D : Type 0} (seen : D → DiskSeen) (old new : Stored D) (text : List ℕ) (clock : ℕ) : Type 0 where
  pub begins : Begins seen old new text clock
  pub begun : (b : Summary) (h : List Entry) → StoreStands seen b old h → StoreStands seen b new (begun_after b h text clock)
  pub up : HasFailed seen new → ⊥

abbrev pub IsBehindBegin : {D : Type 0} → (D → DiskSeen) → Stored D → List ℕ → ℕ → World D → Type 0
IsBehindBegin {D} seen old text clock (Open s) = HasBegun seen old s text clock
IsBehindBegin {D} seen old text clock (Left c) = (s : Stored D) × Begins seen old s text clock × IsLeft seen old s c

-- The first run has begun over areas that stand for nothing, in either version.
abbrev pub IsFirstRun : {D : Type 0} → (D → DiskSeen) → Schedule → Stored D → Type 0
IsFirstRun {D} seen x s =
    (version : ℕ) × (areas : Areas) × (opened : Stored D) × AreasStand areas version None [] × Reopens seen areas opened
    × HasBegun seen opened s x.text x.first

abbrev pub IsBehindFirst : {D : Type 0} → (D → DiskSeen) → Schedule → World D → Type 0
IsBehindFirst {D} seen x (Open s) = IsFirstRun seen x s
IsBehindFirst {D} seen x (Left c) = (s : Stored D) × IsFirstRun seen x s × IsLeft seen s s c

-- What there is behind these steps, the newest of which stands first. A crash keeps as many entries as the opening behind it finds, and
-- then a run begins. Where a crash comes before the call of a step is done, what it left is the world behind that step.
abbrev pub Lives : {D : Type 0} → (D → DiskSeen) → Schedule → List Step → World D → Type 0
Lives {D} seen x [] w = IsBehindFirst seen x w
Lives {D} seen x (Deliver n m via clock acknowledged ∷ earlier) w =
    (old : Stored D) × Lives seen x earlier (Open old) × IsBehind seen old (Sent m via) clock acknowledged w
Lives {D} seen x (Other event clock acknowledged ∷ earlier) w =
    (old : Stored D) × Lives seen x earlier (Open old) × IsBehind seen old event clock acknowledged w
Lives {D} seen x (Lose ∷ earlier) w = (old : Stored D) × Lives seen x earlier (Open old) × IsBehindNone seen old w
Lives {D} seen x (Crash kept clock ∷ earlier) w =
    (areas : Areas) × (opened : Stored D) × Lives seen x earlier (Left areas) × Reopens seen areas opened
    × (kept ≡ opened.state.sum.recorded) × IsBehindBegin seen opened x.text clock w

-- what a step of a schedule is, but for what a crash keeps
abbrev pub IsStepButKept : Schedule → Step → List Step → Type 0
IsStepButKept x (Crash kept clock) earlier = Unit {0}
IsStepButKept x other earlier = IsStep x other earlier

-- The store stands for the schedule's history, centre and journal. Areas can be opened, and each opening with Ok gives a store that stands
-- for the oldest of the ideal list, so many: the first two entries and each that is acknowledged are among them.
pub record AreIdeal {D : Type 0} (seen : D → DiskSeen) (x : Schedule) (areas : Areas) : Type 0 where
  pub kept : ℕ
  pub keeps : IsKept kept (ideal_list x)
  pub can_open : CanOpen areas
  pub opens : (s : Stored D) → Reopens seen areas s → StoreStands seen nothing s (oldest kept (entries (ideal_list x)))

abbrev pub IsIdealWorld : {D : Type 0} → (D → DiskSeen) → Schedule → World D → Type 0
IsIdealWorld seen x (Open s) = StoreStands seen nothing s (history x)
IsIdealWorld seen x (Left areas) = AreIdeal seen x areas

-- Each crash has kept what was acknowledged, so it is a schedule: its recorded entries are the ideal list, in which each sending that was
-- acknowledged stands once and none twice. All that is asked of its history is told as by that list, each further answer too. And for
-- that history the store stands.
pub record LivesIdeally {D : Type 0} (seen : D → DiskSeen) (x : Schedule) (w : World D) : Type 0 where
  pub schedule : IsSchedule x
  pub once : LosesNothing x
  pub tells : TellsTheSame nothing (history x) (entries (ideal_list x))
  pub world : IsIdealWorld seen x w
