-- What the three parts of a turn do to the area that isn't chosen.
use Rattle.std.specs.Prelude.{◌≡◌, ◌≢◌, ◌⊎◌, ◌≤◌, ◌<◌, ◌+◌, ◌^◌, ℕ, Bool, true}
use Rattle.std.specs.Prelude.{false, List, ◌∷◌, ◌++◌, length, take, slice_index, Option, Some, None}
use Rattle.std.specs.Int.{to_be_bytes, w64}
use Rattle.arc_io.specs.Areas.{Areas, part, rest}
use Rattle.arc_io.specs.Disks.{DiskSeen}
use Rattle.arc_io.specs.Crashes.{Becomes, Follows, LeavesOnly}
use Rattle.arc_io.specs.declared.disk.Area.{Area}
use Rattle.disk_journal.specs.Records.{head_of, tag, bytes_of}
use Rattle.disk_journal.specs.Standing.{is_live}

-- From old to new this was done: what is told has changed so, and a crash at any moment between leaves what one at old might have left,
-- changed so.
pub record Changes (step : Areas → Areas → Type 0) (old new : DiskSeen) : Type 0 where
  pub told : Becomes old.told new.told step
  pub crash : Follows step old.may_leave new.may_leave
  pub any_moment : LeavesOnly old new (λ c. (d : Areas) × old.may_leave d × step d c)

-- the other area is the same, and this one is, too, or is not live
abbrev pub IsUndone : Area → Areas → Areas → Type 0
IsUndone area s t = (rest area t ≡ rest area s) × ((part area t ≡ part area s) ⊎ (is_live (part area t) ≡ false))

-- it has a closed gate at place 16
abbrev pub IsShut : List ℕ → Type 0
IsShut bytes = (17 ≤ length bytes) × (slice_index bytes 16 ≢ 1)

-- it is shorter than that, or its gate there is open or not
abbrev pub IsFirstGate : Option Bool → List ℕ → Type 0
IsFirstGate None bytes = length bytes < 17
IsFirstGate (Some true) bytes = (17 ≤ length bytes) × (slice_index bytes 16 ≡ 1)
IsFirstGate (Some false) bytes = IsShut bytes

-- the other area is the same, and of this one the gate at place 16
abbrev pub IsBeside : Area → Areas → Areas → Type 0
IsBeside area s t = (rest area t ≡ rest area s)
    × (17 ≤ length (part area s) → (17 ≤ length (part area t)) × (slice_index (part area t) 16 ≡ slice_index (part area s) 16))

-- behind the head of the second version and the closed gate stand the whole body and a closed gate
pub record IsStaged (body bytes : List ℕ) : Type 0 where
  pub gate : ℕ
  pub behind : List ℕ
  pub closed : gate ≢ 1
  pub is : bytes ≡ head_of 2 ++ gate ∷ (bytes_of body ++ 0 ∷ behind)

-- the body is that of the next summary: it begins with 0B and the next generation in eight bytes
pub record IsNextTo (generation : ℕ) (body : List ℕ) : Type 0 where
  pub fits : generation + 1 < 2 ^ 64
  pub is : take 9 body ≡ tag ∷ to_be_bytes w64 (generation + 1)
