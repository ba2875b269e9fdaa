-- What is read of an area, piece by piece.
use Rattle.std.specs.Prelude.{◌≡◌, ◌≢◌, ◌≤◌, ◌+◌, ◌++◌, ◌∷◌, ℕ, List, Bool, true, false}
use Rattle.std.specs.Prelude.{[], length, take, drop, Option, Some, None, IfSome, Vec, if◌then◌else◌, nat_lt}
use Rattle.std.specs.Int.{from_be_bytes, w64}
use Rattle.std.specs.declared.alloc.Global.{Global}
use Rattle.arc_io.specs.Areas.{Areas, part}
use Rattle.arc_io.specs.declared.disk.Area.{Area}
use Rattle.disk_journal.specs.declared.window.Window.{Window}
use Rattle.disk_journal.specs.Records.{bytes_of, MayStandAt, IsWhole}
use Rattle.disk_journal.specs.Standing.{is_live, generation_of, chosen}
use Rattle.disk_journal.specs.declared.fault.OpenFault.{OpenFault}
use Rattle.disk_journal.specs.declared.fault.OpenFault.TheVariants as Open

-- the first n bytes of the buffer are those from the place on
pub record IsPiece (bytes : List ℕ) (at n : ℕ) (buf : List ℕ) : Type 0 where
  pub fits : n ≤ length buf
  pub within : n ≤ length (drop at bytes)
  pub same : take n buf ≡ take n (drop at bytes)

-- what stands in the window are bytes of the area, where the disk tells them
abbrev pub Shows : Area → Option Areas → Window → Type 0
Shows area told window = IfSome told (λ s. IsPiece (part area s) window.at window.count window.room.items)

-- the buffer has the bytes from the place on
abbrev pub IsFilled : List ℕ → ℕ → List ℕ → Type 0
IsFilled bytes at buf = buf ≡ take (length buf) (drop at bytes)

-- at the place stands an open gate, or a closed one
abbrev pub IsGate : List ℕ → ℕ → Bool → Type 0
IsGate bytes at true = drop at bytes ≡ 1 ∷ drop (at + 1) bytes
IsGate bytes at false = (gate : ℕ) × (behind : List ℕ) × (gate ≢ 1) × (drop at bytes ≡ gate ∷ behind)

-- at the place stands a closed gate, or an open one, this body's record, and a next gate
abbrev pub IsRecord : List ℕ → ℕ → Option (Vec ℕ Global) → Type 0
IsRecord bytes at None = (gate : ℕ) × (behind : List ℕ) × (gate ≢ 1) × (drop at bytes ≡ gate ∷ behind)
IsRecord bytes at (Some body) =
    (next : ℕ) × (behind : List ℕ) × (drop at bytes ≡ 1 ∷ (bytes_of body.items ++ next ∷ behind)) × MayStandAt at body.items

-- at the place stands an open gate without a whole record, where the fault says so
abbrev pub IsBrokenAt : OpenFault → List ℕ → ℕ → Type 0
IsBrokenAt (Open.Damaged place) bytes at = (rest : List ℕ) × (place ≡ at) × (drop at bytes ≡ 1 ∷ rest) × (IsWhole at rest → ⊥)
IsBrokenAt (Open.DiskFault was is) bytes at = Unit {0}
IsBrokenAt (Open.NotJournal byte) bytes at = ⊥
IsBrokenAt (Open.WrongVersion found) bytes at = ⊥
IsBrokenAt (Open.TooWide size) bytes at = ⊥
IsBrokenAt Open.Memory bytes at = Unit {0}

-- the area is live, with this generation, or is not
abbrev pub IsFound : Option ℕ → List ℕ → Type 0
IsFound None bytes = is_live bytes ≡ false
IsFound (Some generation) bytes = (is_live bytes ≡ true) × (generation ≡ generation_of bytes)

-- the generation that was found, and 0 where none was
abbrev pub found_or_none : Option ℕ → ℕ
found_or_none None = 0
found_or_none (Some generation) = generation

-- the generation in the first of the bodies of a live area, or the one that was found where that body is too short to have it
abbrev pub generation_found : Option ℕ → List (List ℕ) → ℕ
generation_found None bodies = 0
generation_found (Some generation) [] = 0
generation_found (Some generation) (body ∷ bodies) = if nat_lt (length body) 9 then generation else from_be_bytes w64 (take 8 (drop 1 body))

-- the area is chosen, is live with this generation or not, and has so many bytes
pub record IsSelected (area : Area) (found : Option ℕ) (len : ℕ) (areas : Areas) : Type 0 where
  pub chosen_is : chosen areas ≡ area
  pub found_is : IsFound found (part area areas)
  pub length_is : len ≡ length (part area areas)
