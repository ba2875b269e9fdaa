-- What a journal over a disk holds.
use Rattle.std.specs.Prelude.{◌≡◌, ◌≤◌, ◌<◌, ◌+◌, ◌^◌, ℕ, [], false, List, length, take, Option, Some, IfSome, vec_len, Result, Ok, Err}
use Rattle.arc_io.specs.Areas.{Areas, part}
use Rattle.arc_io.specs.Disks.{DiskSeen}
use Rattle.arc_io.specs.declared.disk.Area.{Area}
use Rattle.disk_journal.specs.Records.{AtRest, IsVersion}
use Rattle.disk_journal.specs.Standing.{chosen, all_of, size_of, generation_in, generation_now, version_now, IsDistinct, AreasStand}
use Rattle.disk_journal.specs.declared.journal.Journal.{Journal}
use Rattle.disk_journal.specs.declared.journal.OpenRefused.{OpenRefused}

-- all that a crash may leave now is what a read gives
abbrev pub IsSettled : DiskSeen → Type 0
IsSettled disk = (c : Areas) → disk.may_leave c → disk.told ≡ Some c

-- the area is chosen, and is at rest with the body of the summary, where there is one, and these bodies, of a version
pub record IsAtRestIn (area : Area) (version : ℕ) (summary : Option (List ℕ)) (bodies : List (List ℕ)) (areas : Areas) : Type 0 where
  pub chosen_is : chosen areas ≡ area
  pub at_rest : AtRest version (part area areas) (all_of summary bodies)

-- what a read gives is at rest so, and a crash leaves nothing else
pub record Keeps (disk : DiskSeen) (area : Area) (version : ℕ) (summary : Option (List ℕ)) (bodies : List (List ℕ)) : Type 0 where
  pub distinct : IsDistinct summary bodies
  pub file : IfSome disk.told (IsAtRestIn area version summary bodies)
  pub settled : IsSettled disk

-- the gate behind so many of the records stands at this place, where the disk tells its bytes
abbrev pub IsGateBehind : Option Areas → Option (List ℕ) → List (List ℕ) → ℕ → ℕ → Type 0
IsGateBehind told summary bodies count place = IfSome told (λ _. place + 1 ≡ size_of summary (take count bodies))

-- The places of the gate of the first record, and of the one behind so many of them, where reading one after another goes on.
pub record IsPlaced {D : Type 0} (seen : D → DiskSeen) (j : Journal D) (summary : Option (List ℕ)) (bodies : List (List ℕ)) : Type 0 where
  pub first_is : j.first + 1 ≡ size_of summary []
  pub within : j.next ≤ length bodies
  pub place_is : IsGateBehind (seen j.disk).told summary bodies j.next j.place

-- the journal has the body of this summary, or none, and these bodies, of a version, and no call of it has answered a fault of the disk
pub record Holds {D : Type 0} (seen : D → DiskSeen) (j : Journal D)
    (version : ℕ) (summary : Option (List ℕ)) (bodies : List (List ℕ)) : Type 0 where
  pub version_is : j.version ≡ version
  pub used : j.used ≡ size_of summary bodies
  pub count : j.records ≡ length bodies
  pub placed : IsPlaced seen j summary bodies
  pub generation : j.generation ≡ generation_in summary
  pub few : j.limits.bytes < 2 ^ 32
  pub met_none : j.has_failed ≡ false
  pub kept : Keeps (seen j.disk) j.area version summary bodies

-- these bodies of a version stand in the area
abbrev pub HasBodies : Area → ℕ → List (List ℕ) → Areas → Type 0
HasBodies area version bodies areas = AtRest version (part area areas) bodies

-- No call of the journal has answered a fault of the disk, and bodies of its version stand in its area up to its closed gate: that of a
-- summary, or none, and its records.
pub record Works {D : Type 0} (seen : D → DiskSeen) (j : Journal D) : Type 0 where
  pub summary : Option (List ℕ)
  pub records : List (List ℕ)
  pub used : j.used ≡ size_of summary records
  pub count : j.records ≡ length records
  pub placed : IsPlaced seen j summary records
  pub few : j.limits.bytes < 2 ^ 32
  pub met_none : j.has_failed ≡ false
  pub file : IfSome (seen j.disk).told (HasBodies j.area j.version (all_of summary records))
  pub settled : IsSettled (seen j.disk)

-- What an opening gives: the bodies are those of the summary and the records for which the areas stood, of the version that they had. The
-- journal holds them, where an area can tell of them.
pub record IsOpen {D : Type 0} (seen : D → DiskSeen) (disk : D) (j : Journal D) (given : List (List ℕ)) : Type 0 where
  pub summary : Option (List ℕ)
  pub bodies : List (List ℕ)
  pub all : given ≡ all_of summary bodies
  pub known : IsVersion j.version
  pub version : IfSome (seen disk).told (λ s. j.version ≡ version_now s)
  pub stands : IfSome (seen disk).told (λ s. AreasStand s j.version summary bodies)
  pub used : j.used ≡ size_of summary bodies
  pub count : j.records ≡ length bodies
  pub generation : IfSome (seen disk).told (λ s. j.generation ≡ generation_now s)
  pub holds : IsDistinct summary bodies → Holds seen j j.version summary bodies

-- the room for records that was reserved
abbrev pub room_of : {D : Type 0} → Journal D → ℕ
room_of j = vec_len j.room

-- the journal after one of its records was read: it has just found the place of another one
abbrev pub IsReadOf : {D : Type 0} → Journal D → Journal D → Type 0
IsReadOf old new = new ≡ record old { disk = new.disk; has_failed = new.has_failed; next = new.next; place = new.place }

-- the disk after an opening, which the journal has or the refusal gives back
abbrev pub disk_after : {D B : Type 0} → Result (Journal D × B) (OpenRefused D) → D
disk_after (Ok r) = r.0.disk
disk_after (Err r) = r.disk
