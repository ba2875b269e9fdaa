-- What was read of an input where so many bytes were asked for.
use Rattle.std.specs.Prelude.{◌≡◌, ◌≤◌, ◌<◌, ◌+◌, ℕ, List, false, length, slice_index_or}
use Rattle.std.specs.Io.KnownBytes.{prepend_known}
use Rattle.arc_io.specs.Causes.{Rose}
use Rattle.arc_io.specs.Seen.{PortSeen}
use Rattle.arc_io.specs.Told.{IsReadOut}
use Rattle.session_rules.specs.Inputs.{input_limit}
use Rattle.mirror_centre.specs.declared.intake.Short.{Short}
use Rattle.mirror_centre.specs.declared.intake.Short.TheVariants.{Ended, Failed, Spent, Memory}

-- each of them is one of a byte
abbrev pub AreBytes : List ℕ → Type 0
AreBytes bytes = (i : ℕ) → slice_index_or bytes i 0 < 256

-- these bytes were, as many as were asked for, behind those that were taken before
pub record ReadsNext (taken count : ℕ) (bytes : List ℕ) (p p' : PortSeen) : Type 0 where
  pub left : p.left ≡ prepend_known bytes p'.left
  pub size : length bytes ≡ count
  pub most : taken + count ≤ input_limit
  pub not_ended : p'.ended ≡ false
  pub fits : AreBytes bytes

-- Why fewer were, so many bytes of the input in all: it ended, a read failed, as many as may be were read, or memory was wanted.
abbrev pub IsShortBy : Short → ℕ → PortSeen → PortSeen → Type 0
IsShortBy Ended all p p' = IsReadOut p'
IsShortBy Failed all p p' = Rose p.read_faults p'.read_faults
IsShortBy Spent all p p' = all ≡ input_limit
IsShortBy Memory all p p' = Unit {0}

-- fewer bytes than were asked for, or at want of memory no more
abbrev pub AreFewer : Short → ℕ → ℕ → Type 0
AreFewer Memory size count = size ≤ count
AreFewer why size count = size < count

pub record ReadsShort (why : Short) (taken count : ℕ) (p p' : PortSeen) : Type 0 where
  pub bytes : List ℕ
  pub left : p.left ≡ prepend_known bytes p'.left
  pub fewer : AreFewer why (length bytes) count
  pub most : taken + length bytes ≤ input_limit
  pub cause : IsShortBy why (taken + length bytes) p p'
