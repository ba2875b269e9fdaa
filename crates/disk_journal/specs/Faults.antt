-- When each refusal comes.
use Rattle.std.specs.Prelude.{◌≡◌, ◌⊎◌, ◌≤◌, ◌<◌, ◌+◌, ℕ, List, length, Option}
use Rattle.arc_io.specs.Causes.{Rose}
use Rattle.arc_io.specs.Areas.{Areas}
use Rattle.disk_journal.specs.Records.{Stands, IsNoJournal, IsOfVersion, IsDamaged}
use Rattle.disk_journal.specs.Standing.{AreasStand, chosen_part}
use Rattle.disk_journal.specs.declared.fault.OpenFault.{OpenFault}
use Rattle.disk_journal.specs.declared.fault.AppendFault.{AppendFault}
use Rattle.disk_journal.specs.declared.fault.BodyFault.{BodyFault}
use Rattle.disk_journal.specs.declared.fault.BodyFault.TheVariants as Reading
use Rattle.disk_journal.specs.declared.fault.OpenFault.TheVariants as Open
use Rattle.disk_journal.specs.declared.fault.AppendFault.TheVariants as Append

-- the disk failed between these two counts, and the fault has both
pub record Counts (before now was is : ℕ) : Type 0 where
  pub was_is : was ≡ before
  pub is_is : is ≡ now
  pub rose : Rose before now

-- What a refusal of `open` says of the area's bytes. That a summary is too wide no area shows.
abbrev pub IsShown : OpenFault → List ℕ → Type 0
IsShown (Open.DiskFault was is) bytes = Unit {0}
IsShown (Open.NotJournal byte) bytes = IsNoJournal bytes byte
IsShown (Open.WrongVersion found) bytes = IsOfVersion bytes found
IsShown (Open.Damaged place) bytes = IsDamaged bytes place
IsShown (Open.TooWide size) bytes = ⊥
IsShown Open.Memory bytes = Unit {0}

-- it speaks of the area's bytes, and not of the disk or of memory
abbrev pub IsOfContent : OpenFault → Type 0
IsOfContent (Open.DiskFault was is) = ⊥
IsOfContent (Open.NotJournal byte) = Unit {0}
IsOfContent (Open.WrongVersion found) = Unit {0}
IsOfContent (Open.Damaged place) = Unit {0}
IsOfContent (Open.TooWide size) = Unit {0}
IsOfContent Open.Memory = ⊥

-- it speaks of the front of an area alone
abbrev pub IsOfFront : OpenFault → Type 0
IsOfFront (Open.DiskFault was is) = ⊥
IsOfFront (Open.NotJournal byte) = Unit {0}
IsOfFront (Open.WrongVersion found) = Unit {0}
IsOfFront (Open.Damaged place) = ⊥
IsOfFront (Open.TooWide size) = ⊥
IsOfFront Open.Memory = ⊥

-- What the bytes of an area answer: one list or one refusal of content, and no other. So each of these comes exactly where
-- its case holds, as long as the disk and the memory do not fail. Where they are more than 17, the list is of one version.
pub record HasOneAnswer (bytes : List ℕ) : Type 0 where
  pub lists : (version further : ℕ) (one other : List (List ℕ)) → Stands version bytes one → Stands further bytes other → one ≡ other
  pub versions : (version further : ℕ) (one other : List (List ℕ)) → 17 < length bytes → Stands version bytes one
      → Stands further bytes other → version ≡ further
  pub faults : (one other : OpenFault) → IsOfContent one → IsOfContent other → IsShown one bytes → IsShown other bytes → one ≡ other
  pub apart : (version : ℕ) (bodies : List (List ℕ)) (fault : OpenFault) → IsOfContent fault → Stands version bytes bodies
      → IsShown fault bytes → ⊥

-- And what both areas answer: one summary or none with one list of bodies, or one refusal of the content of the chosen area.
pub record HaveOneAnswer (areas : Areas) : Type 0 where
  pub lists : (version further : ℕ) (one other : Option (List ℕ)) (bodies behind : List (List ℕ)) → AreasStand areas version one bodies
      → AreasStand areas further other behind → (one ≡ other) × (bodies ≡ behind)
  pub versions : (version further : ℕ) (one other : Option (List ℕ)) (bodies behind : List (List ℕ)) → 17 < length (chosen_part areas)
      → AreasStand areas version one bodies → AreasStand areas further other behind → version ≡ further
  pub faults : (one other : OpenFault) → IsOfContent one → IsOfContent other → IsShown one (chosen_part areas)
      → IsShown other (chosen_part areas) → one ≡ other
  pub apart : (version : ℕ) (summary : Option (List ℕ)) (bodies : List (List ℕ)) (fault : OpenFault) → IsOfContent fault
      → AreasStand areas version summary bodies → IsShown fault (chosen_part areas) → ⊥

-- and of the disk's counts: a fault of the disk comes only where it failed
abbrev pub HasCounts : OpenFault → ℕ → ℕ → Type 0
HasCounts (Open.DiskFault was is) before now = Counts before now was is
HasCounts fault before now = Unit {0}

-- and of a refusal of the journal itself, which is never that a summary is too wide
abbrev pub HasCause : OpenFault → ℕ → ℕ → Type 0
HasCause (Open.TooWide size) before now = ⊥
HasCause fault before now = HasCounts fault before now

-- so many bytes or one record more is over the limits
abbrev pub IsOver : ℕ → ℕ → ℕ → ℕ → ℕ → Type 0
IsOver used need records most_bytes most_records = (most_bytes < used + need) ⊎ (most_records ≤ records)

-- so many bytes or records more are over the limits
abbrev pub IsOverWithAll : ℕ → ℕ → ℕ → ℕ → ℕ → ℕ → Type 0
IsOverWithAll used need records count most_bytes most_records = (most_bytes < used + need) ⊎ (most_records < records + count)

-- the answer is Full, with these numbers
abbrev pub IsFull : ℕ → ℕ → ℕ → AppendFault → Type 0
IsFull used need records (Append.Full u n r) = (u ≡ used) × (n ≡ need) × (r ≡ records)
IsFull used need records (Append.DiskFault was is) = ⊥

-- the disk failed
abbrev pub IsDiskFault : AppendFault → Type 0
IsDiskFault (Append.Full u n r) = ⊥
IsDiskFault (Append.DiskFault was is) = Unit {0}

-- Full comes only where this is so, and a fault of the disk only where it failed
abbrev pub HasCountsOf : Type 0 → ℕ → ℕ → AppendFault → Type 0
HasCountsOf over before now (Append.Full u n r) = over
HasCountsOf over before now (Append.DiskFault was is) = Counts before now was is

-- of the answers to a reading of a body: the disk failed, and these are its counts
abbrev pub HasReadCounts : ℕ → ℕ → BodyFault → Type 0
HasReadCounts before now (Reading.DiskFault was is) = Counts before now was is
HasReadCounts before now Reading.Memory = Unit {0}

-- the disk failed when a body was read
abbrev pub IsFaultOfReading : BodyFault → Type 0
IsFaultOfReading (Reading.DiskFault was is) = Unit {0}
IsFaultOfReading Reading.Memory = ⊥
