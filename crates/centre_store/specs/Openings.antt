-- What an opening shows.
use Rattle.std.specs.Prelude.{◌≡◌, ◌⊎◌, ◌<◌, ◌+◌, ℕ, List, [], Option, Some, None, IfSome, Result, Ok, Err}
use Rattle.arc_io.specs.Areas.{Areas}
use Rattle.arc_io.specs.Disks.{DiskSeen}
use Rattle.centre_core.specs.Decoding.{IsNoSpelling}
use Rattle.centre_rules.specs.Summary.{Summary}
use Rattle.centre_rules.specs.Sums.{summary_of}
use Rattle.centre_rules.specs.Answers.{IsLegal}
use Rattle.centre_rules.specs.History.{Entry, IsMoment, last, recorded}
use Rattle.centre_rules.specs.State.{State}
use Rattle.disk_journal.specs.Faults.{IsShown, IsOfContent, Counts}
use Rattle.disk_journal.specs.OtherArea.{IsSameIn}
use Rattle.disk_journal.specs.Standing.{chosen, chosen_part, generation_now, version_now, AreasStand}
use Rattle.disk_journal.specs.declared.fault.OpenFault.{OpenFault}
use Rattle.disk_journal.specs.declared.fault.OpenFault.TheVariants.{DiskFault, Damaged, TooWide, Memory}
use Rattle.disk_journal.specs.declared.journal.Journal.{Journal}
use Rattle.disk_journal.specs.declared.journal.OpenRefused.{OpenRefused}
use Rattle.centre_store.specs.Given.{IsGiven, IsFirst, AreasGive, StandFor, HoldsRecorded, CanBeWritten, written_length}
use Rattle.centre_store.specs.Pasts.{IsPast, IsBadAt, IsReplayed}
use Rattle.centre_store.specs.Stores.{Stored, StoreStands}
use Rattle.centre_store.specs.Writes.{HaveAllIn, IsSummedUp}

-- what stands first begins as the body of a summary, and spells none in the version; its gate stands at this place
abbrev pub IsBadFirst : ℕ → Option (List ℕ) → ℕ → Type 0
IsBadFirst version None place = ⊥
IsBadFirst version (Some body) place = IsNoSpelling version body × (place ≡ 16)

-- What was recorded in the first version can't be written in the second: its summary would have so many bytes, more than a body may have.
pub record IsTooWide (version : ℕ) (first : Option (List ℕ)) (bodies : List (List ℕ)) (size : ℕ) : Type 0 where
  pub version_is : version ≡ 1
  pub base : Summary
  pub first_is : IsFirst version base first
  pub past : List Entry
  pub is_past : IsPast version base bodies past
  pub size_is : size ≡ written_length base past
  pub wide : 4_294_967_295 < size

-- the store stands for each legal history without quiet entries for which the areas stand, over each summary that areas give, where its
-- last moment lies before the year 10000
abbrev pub StandsForAll : {D : Type 0} → (D → DiskSeen) → Stored D → Areas → Type 0
StandsForAll seen s areas =
    (b : Summary) (h : List Entry) → IsGiven b → IsLegal b h → IsMoment (last b h) → recorded h ≡ h → StandFor b h areas
    → StoreStands seen b s h

-- The store stands for the past of the bodies that the areas gave over a summary, and its journal has it, as it is written. It stands for
-- each history without quiet entries for which the areas stood, too.
pub record IsOpened {D : Type 0} (seen : D → DiskSeen) (disk : D) (s : Stored D) : Type 0 where
  pub version : ℕ
  pub base : Summary
  pub bodies : List (List ℕ)
  pub past : List Entry
  pub given : IsGiven base
  pub is_past : IsPast version base bodies past
  pub stands : StoreStands seen base s past
  pub held : HoldsRecorded seen s.journal base past
  pub area : IfSome (seen disk).told (λ a. AreasGive a version base bodies)
  pub every : IfSome (seen disk).told (StandsForAll seen s)

-- Where the areas had the first version, the journal has one generation more, and all is summed up.
abbrev pub IsMoved : {D : Type 0} → Journal D → Areas → Type 0
IsMoved j areas = version_now areas ≡ 1 → (j.generation ≡ generation_now areas + 1) × IsSummedUp j

-- of two states of a disk: the area that is chosen in the first is the same in the second
abbrev pub IsChosenSame : Areas → Areas → Type 0
IsChosenSame before after = IsSameIn (chosen before) before after

-- the body spells in the second version the summary of all that the journal has in the first, whatever the centre stands for
abbrev pub IsSummaryOf : {D : Type 0} → (D → DiskSeen) → Journal D → State → List ℕ → Type 0
IsSummaryOf seen j s body = (b : Summary) (h : List Entry) → HaveAllIn seen 1 j s b h → IsFirst 2 (summary_of b h) (Some body)

-- the areas stand for what the journal had in the first version, or for such a summary
abbrev pub StandsForMove : {D : Type 0} → (D → DiskSeen) → Journal D → State → Option (List ℕ) → List (List ℕ) → Areas → Type 0
StandsForMove seen j s first bodies areas =
    AreasStand areas 1 first bodies ⊎ ((next : List ℕ) × IsSummaryOf seen j s next × AreasStand areas 2 (Some next) [])

-- Why a summary in the second version of all that the journal has in the first was not put there: want of memory; it is too wide, and has
-- so many bytes; the disk failed.
abbrev pub IsUnmoved : {D : Type 0} → (D → DiskSeen) → Journal D → Journal D → State → OpenFault → Type 0
IsUnmoved seen old new s Memory = new ≡ old
IsUnmoved seen old new s (TooWide size) =
    (new ≡ old) × (4_294_967_295 < size) × ((b : Summary) (h : List Entry) → HaveAllIn seen 1 old s b h → size ≡ written_length b h)
IsUnmoved seen old new s (DiskFault was is) = Counts (seen old.disk).faults (seen new.disk).faults was is
IsUnmoved seen old new s fault = ⊥

-- the centre is that of the bodies behind what stands first, over the summary that it spells
pub record IsRestored (version : ℕ) (first : Option (List ℕ)) (bodies : List (List ℕ)) (s : State) : Type 0 where
  pub base : Summary
  pub first_is : IsFirst version base first
  pub replayed : IsReplayed version base bodies s

-- what a refusal says of the bodies behind what stands first, over a summary
abbrev pub IsOfReplay : OpenFault → ℕ → Summary → Option (List ℕ) → List (List ℕ) → Type 0
IsOfReplay (Damaged place) version base first bodies = IsBadAt version base first bodies place
IsOfReplay Memory version base first bodies = Unit {0}
IsOfReplay fault version base first bodies = ⊥

-- what a refusal says of what stands first and of the bodies behind it
abbrev pub IsOfBodies : OpenFault → ℕ → Option (List ℕ) → List (List ℕ) → Type 0
IsOfBodies (Damaged place) version first bodies =
    IsBadFirst version first place ⊎ ((base : Summary) × IsFirst version base first × IsBadAt version base first bodies place)
IsOfBodies (TooWide size) version first bodies = IsTooWide version first bodies size
IsOfBodies Memory version first bodies = Unit {0}
IsOfBodies fault version first bodies = ⊥

-- what a refusal says of the areas: that they stand for no bodies; or that what stands first is no spelling of a summary, or that the
-- bodies behind it have no past over it; or that all this can't be written in the second version
abbrev pub IsRefused : OpenFault → Areas → Type 0
IsRefused fault areas =
    IsShown fault (chosen_part areas)
    ⊎ ((version : ℕ) × (first : Option (List ℕ)) × (bodies : List (List ℕ)) × AreasStand areas version first bodies
    × IsOfBodies fault version first bodies)

-- the disk after an opening, which the store has or the refusal gives back
abbrev pub disk_of : {D : Type 0} → Result (Stored D) (OpenRefused D) → D
disk_of (Ok s) = s.journal.disk
disk_of (Err r) = r.disk

-- What areas answer: one summary, one list of bodies and one past, or one refusal of content, and no other. So each of these comes exactly
-- where its case holds, as long as the disk and the memory do not fail.
pub record HasOneOpening (areas : Areas) : Type 0 where
  pub bases : (version further : ℕ) (base other : Summary) (bodies behind : List (List ℕ)) → AreasGive areas version base bodies
      → AreasGive areas further other behind → (base ≡ other) × (bodies ≡ behind)
  pub pasts : (version further : ℕ) (base other : Summary) (bodies behind : List (List ℕ)) (h k : List Entry)
      → AreasGive areas version base bodies → AreasGive areas further other behind → IsPast version base bodies h
      → IsPast further other behind k → h ≡ k
  pub faults : (one other : OpenFault) → IsOfContent one → IsOfContent other → IsRefused one areas → IsRefused other areas → one ≡ other
  pub apart : (version : ℕ) (base : Summary) (bodies : List (List ℕ)) (h : List Entry) (fault : OpenFault) → IsOfContent fault
      → AreasGive areas version base bodies → IsPast version base bodies h → CanBeWritten version base h → IsRefused fault areas → ⊥

-- Areas that can be opened: they give a summary, and bodies that have a past over it, and where these are of the first version, they can be
-- written in the second. So an opening answers no refusal of content.
pub record CanOpen (areas : Areas) : Type 0 where
  pub version : ℕ
  pub base : Summary
  pub bodies : List (List ℕ)
  pub past : List Entry
  pub gives : AreasGive areas version base bodies
  pub is_past : IsPast version base bodies past
  pub can_be : CanBeWritten version base past
