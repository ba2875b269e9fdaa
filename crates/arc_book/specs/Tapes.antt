-- How far an area was read, from its front on.
use Rattle.std.specs.Prelude.{◌≡◌, ◌<◌, ℕ, List, [], ◌∷◌, ◌++◌, length, Option, IfSome}
use Rattle.std.specs.Io.KnownBytes.{prepend_known}
use Rattle.disk_journal.specs.Records.{front, bytes_of, HaveSizes, IsVersion, MayStandAt, IsWhole}

-- bytes that were read and not looked at yet, and those that are left to read
abbrev pub ahead : List ℕ → Option (List ℕ) → Option (List ℕ)
ahead unread left = prepend_known unread left

-- Behind the head of a version and these records stands this gate at this place, and behind it what is ahead. The area has more than
-- 17 bytes.
pub record IsReadTo (version : ℕ) (all : Option (List ℕ)) (bodies : List (List ℕ)) (gate place : ℕ) (rest : Option (List ℕ))
    : Type 0 where
  pub known : IsVersion version
  pub sizes : HaveSizes bodies
  pub at : place ≡ length (front version bodies)
  pub long : IfSome all (λ bytes. 17 < length bytes)
  pub is : all ≡ prepend_known (front version bodies ++ gate ∷ []) rest

-- a length, a body that may stand behind the gate at this place, and a next gate stand ahead
pub record IsBodyAhead (place : ℕ) (before : Option (List ℕ)) (body : List ℕ) (gate : ℕ) (rest : Option (List ℕ)) : Type 0 where
  pub size : MayStandAt place body
  pub is : before ≡ prepend_known (bytes_of body ++ gate ∷ []) rest

-- behind the gate at this place no whole record stands ahead
abbrev pub IsBrokenAhead : ℕ → Option (List ℕ) → Type 0
IsBrokenAhead place before = IfSome before (λ rest. IsWhole place rest → ⊥)
