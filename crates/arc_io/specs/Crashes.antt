-- What calls of a disk do to its areas, and what a crash may do between two syncs.
use Rattle.std.specs.Prelude.{◌≡◌, ◌⊎◌, ◌≤◌, ◌+◌, ◌-◌, ℕ, min, max, List, ◌++◌, length, take, drop, replicate}
use Rattle.std.specs.Prelude.{Option, Some, None, Result, MatchResult}
use Rattle.arc_io.specs.declared.disk.Area.{Area}
use Rattle.arc_io.specs.Areas.{Areas, part, rest}
use Rattle.arc_io.specs.Disks.{DiskSeen}

-- a disk that tells its bytes goes on to tell them, and they have changed so; one that does not never does
abbrev pub Becomes : Option Areas → Option Areas → (Areas → Areas → Type 0) → Type 0
Becomes None None R = Unit {0}
Becomes None (Some t) R = ⊥
Becomes (Some s) None R = ⊥
Becomes (Some s) (Some t) R = R s t

-- the bytes stand at this place, and all else is as it was
abbrev pub IsWritten : Area → ℕ → List ℕ → Areas → Areas → Type 0
IsWritten area at bytes s t =
    (part area t ≡ take at (part area s) ++ bytes ++ drop (at + length bytes) (part area s)) × (rest area t ≡ rest area s)

-- after a write of n bytes that a crash cuts short: any bytes in the range and past the old end, the same elsewhere
pub record Torn (at n : ℕ) (old new : List ℕ) : Type 0 where
  pub before : take at new ≡ take at old
  pub after : drop (at + n) new ≡ drop (at + n) old
  pub no_shorter : length old ≤ length new
  pub no_longer : length new ≤ max (length old) (at + n)

abbrev pub TornIn : Area → ℕ → ℕ → Areas → Areas → Type 0
TornIn area at n s t = Torn at n (part area s) (part area t) × (rest area t ≡ rest area s)

-- after a call of `write_at`: written where it succeeded, and torn where it failed
abbrev pub IsAfterWrite : {E : Type 0} → Result (Unit {0}) E → Area → ℕ → List ℕ → Areas → Areas → Type 0
IsAfterWrite result area at bytes s t = MatchResult result (λ _. IsWritten area at bytes s t) (λ _. TornIn area at (length bytes) s t)

-- n bytes from the place on were read into the buffer, as many as stand there and have room
pub record IsRead (bytes : List ℕ) (at n : ℕ) (buf : List ℕ) : Type 0 where
  pub count : n ≡ min (length buf) (length (drop at bytes))
  pub same : take n buf ≡ take n (drop at bytes)

-- bytes, filled up with 00 to this length
abbrev pub filled_up : ℕ → List ℕ → List ℕ
filled_up n bytes = bytes ++ replicate (n - length bytes) 0

-- A read gave n bytes from the place on, no more than stand there and have room. A byte that it did not give counts as 00: filled up so,
-- what it gave is all that stands there and has room.
pub record IsReadInPart (bytes : List ℕ) (at n : ℕ) (buf : List ℕ) : Type 0 where
  pub no_more : n ≤ min (length buf) (length (drop at bytes))
  pub same : filled_up (min (length buf) (length (drop at bytes))) (take n buf) ≡ take (length buf) (drop at bytes)

-- each new outcome of a crash is an old outcome after a step
abbrev pub Follows : (Areas → Areas → Type 0) → (Areas → Type 0) → (Areas → Type 0) → Type 0
Follows step old new = (c : Areas) → new c → (d : Areas) × old d × step d c

-- of this area a crash leaves this and nothing else
abbrev pub OnlyIn : Area → Areas → (Areas → Type 0) → Type 0
OnlyIn area s outcomes = (c : Areas) → outcomes c → part area c ≡ part area s

-- Time goes on: a crash since t might have left what it might have left before, or what it may leave now.
pub record Elapses (old new : DiskSeen) : Type 0 where
  pub later : old.moment ≤ new.moment
  pub nothing_else : (t : ℕ) (c : Areas) → t ≤ old.moment → new.left_since t c → old.left_since t c ⊎ new.may_leave c
  pub keeps : (t : ℕ) (c : Areas) → t ≤ old.moment → old.left_since t c → new.left_since t c

-- A crash at any moment since old leaves areas that have P.
pub record LeavesOnly (old new : DiskSeen) (P : Areas → Type 0) : Type 0 where
  pub later : old.moment ≤ new.moment
  pub each : (c : Areas) → new.left_since old.moment c → P c
  -- for a run that began earlier
  pub before : (t : ℕ) (c : Areas) → t ≤ old.moment → new.left_since t c → old.left_since t c ⊎ P c

-- A crash at any moment of a write leaves what it might have left before, torn in this range or not.
abbrev pub LeavesTorn : DiskSeen → DiskSeen → Area → ℕ → ℕ → Type 0
LeavesTorn old new area at n = LeavesOnly old new (λ c. (d : Areas) × old.may_leave d × TornIn area at n d c)

-- From old to new nothing was written: what is told stays, and a crash at any moment between leaves what one at old might have left.
pub record IsQuiet (old new : DiskSeen) : Type 0 where
  pub same : new.told ≡ old.told
  pub crash : (c : Areas) → new.may_leave c → old.may_leave c
  pub any_moment : LeavesOnly old new old.may_leave
