-- What a disk of two areas tells at one moment.
use Rattle.std.specs.Prelude.{ℕ, Option, None}
use Rattle.arc_io.specs.Areas.{Areas}

-- All that clauses know of it.
pub record DiskSeen : Type 1 where
  -- what its areas read as, where the disk tells it: the bytes that reads give, and 00 for each below an area's length that they don't
  pub told : Option Areas
  -- what a crash at this moment may leave
  pub may_leave : Areas → Type 0
  -- the disk's clock: a number that does not fall
  pub moment : ℕ
  -- what a crash at some moment from that one on might have left
  pub left_since : ℕ → Areas → Type 0
  -- how often a call has failed
  pub faults : ℕ

-- of a disk that tells nothing but its faults
abbrev pub silent_seen : ℕ → DiskSeen
silent_seen faults = record { told = None; may_leave = λ c. ⊥; moment = 0; left_since = λ t c. ⊥; faults = faults }
