-- What calls do to what an object tells. What is not told stays not told.
use Rattle.std.specs.Prelude.{◌≡◌, ℕ, ◌<◌, List, [], ◌∷◌, length, take, Bool, true, Option, Result, MatchResult}
use Rattle.std.specs.Io.KnownBytes.{prepend_known, append_known, IsAtEnd}
use Rattle.arc_io.specs.Causes.{HasCause}
use Rattle.arc_io.specs.Seen.{PortSeen}

-- a read gave the next bytes, none only at the end or with no room, and nothing at `Err`
abbrev pub GivesNext : {E : Type 0} → Option (List ℕ) → Option (List ℕ) → Result ℕ E → List ℕ → Type 0
GivesNext before after r buf =
    MatchResult r (λ n. (before ≡ prepend_known (take n buf) after) × (n ≡ 0 → 0 < length buf → IsAtEnd after))
    (λ _. after ≡ before)

-- a read that gives nothing though there is room has met the end; one that gives bytes, or has no room, or fails, has not
abbrev pub MeetsEnd : {E : Type 0} → Bool → Bool → Result ℕ E → List ℕ → Type 0
MeetsEnd before after r buf =
    MatchResult r (λ n. (n ≡ 0 → 0 < length buf → after ≡ true) × ((n ≡ 0 → length buf ≡ 0) → after ≡ before)) (λ _. after ≡ before)

-- a write appended the bytes that it took, and nothing at `Err`
abbrev pub TakesFront : {E : Type 0} → Option (List ℕ) → Option (List ℕ) → Result ℕ E → List ℕ → Type 0
TakesFront before after r bytes =
    MatchResult r (λ n. after ≡ append_known before (take n bytes)) (λ _. after ≡ before)

-- all of the bytes were appended, and at `Err` a front of them that lacks a byte at least
abbrev pub TakesAll : {T E : Type 0} → Option (List ℕ) → Option (List ℕ) → Result T E → List ℕ → Type 0
TakesAll before after r bytes =
    MatchResult r (λ _. after ≡ append_known before bytes)
    (λ _. (n : ℕ) × (n < length bytes) × (after ≡ append_known before (take n bytes)))

-- What a call that reads leaves alone: all but what is about reading.
pub record OnlyReads (p p' : PortSeen) : Type 0 where
  pub rest : p' ≡ record p { left = p'.left; ended = p'.ended; read_faults = p'.read_faults }

-- What a call that writes leaves alone: all but what is about writing.
pub record OnlyWrites (p p' : PortSeen) : Type 0 where
  pub rest : p' ≡ record p { written = p'.written; write_faults = p'.write_faults }

-- the input was read to its end
pub record IsReadOut (p : PortSeen) : Type 0 where
  pub ended : p.ended ≡ true
  pub left : IsAtEnd p.left

-- a call of `read` on a buffer
pub record Reads {E : Type 0} (p p' : PortSeen) (result : Result ℕ E) (buf : List ℕ) : Type 0 where
  pub bytes : GivesNext p.left p'.left result buf
  pub end : MeetsEnd p.ended p'.ended result buf
  pub cause : HasCause p.read_faults p'.read_faults result
  pub others : OnlyReads p p'

-- a call of `write`
pub record Writes {E : Type 0} (p p' : PortSeen) (result : Result ℕ E) (bytes : List ℕ) : Type 0 where
  pub taken : TakesFront p.written p'.written result bytes
  pub cause : HasCause p.write_faults p'.write_faults result
  pub others : OnlyWrites p p'

-- writes until all of the bytes are taken
pub record Puts {T E : Type 0} (p p' : PortSeen) (result : Result T E) (bytes : List ℕ) : Type 0 where
  pub taken : TakesAll p.written p'.written result bytes
  pub cause : HasCause p.write_faults p'.write_faults result
  pub others : OnlyWrites p p'

-- one more reading, and nothing else
abbrev pub after_reading : ℕ → PortSeen → PortSeen
after_reading reading p = record p { readings = append_known p.readings (reading ∷ []) }

-- these bytes of noise more, and nothing else
abbrev pub after_noise : List ℕ → PortSeen → PortSeen
after_noise bytes p = record p { noise = append_known p.noise bytes }
