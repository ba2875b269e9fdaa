-- The program's tables hold what the places leave of each byte, by computation over all entries.
use Rattle.std.proofs.Common.{◌≡◌, ℕ, ◌<◌, List, refl, ap, ◌∙◌, map, get_or, arith}
use Rattle.std.specs.List.{range_with_len}
use Rattle.std.proofs.lemmas.List.FromFn.{get_or-map-range_with_len}
use Rattle.dc09_frame.specs.Check.{divisor}
use Rattle.dc09_frame.specs.Polynomial.{number}
use Rattle.dc09_frame.specs.declared.tables.TheConstants.{AFTER_8, AFTER_16, AFTER_24, AFTER_32, AFTER_40, AFTER_48, AFTER_56, AFTER_64}
use Rattle.dc09_frame.proofs.Places.{left, one_place}

entry : (places byte : ℕ) (table : List ℕ) → table ≡ map (left (number divisor) places) (range_with_len 0 256) → byte < 256
    → get_or table byte 0 ≡ left (number divisor) places byte
entry places byte table is lt =
    ap (λ (t : List ℕ). get_or t byte 0) is
    ∙ get_or-map-range_with_len (left (number divisor) places) 0 256 byte byte 0 lt (omega arith)

all_8 : AFTER_8.now ≡ map (left (number divisor) 8) (range_with_len 0 256)
unfolding left one_place divisor
all_8 = refl

pub after_8 : (byte : ℕ) → byte < 256 → get_or AFTER_8.now byte 0 ≡ left (number divisor) 8 byte
after_8 byte = entry 8 byte AFTER_8.now all_8

all_16 : AFTER_16.now ≡ map (left (number divisor) 16) (range_with_len 0 256)
unfolding left one_place divisor
all_16 = refl

pub after_16 : (byte : ℕ) → byte < 256 → get_or AFTER_16.now byte 0 ≡ left (number divisor) 16 byte
after_16 byte = entry 16 byte AFTER_16.now all_16

all_24 : AFTER_24.now ≡ map (left (number divisor) 24) (range_with_len 0 256)
unfolding left one_place divisor
all_24 = refl

pub after_24 : (byte : ℕ) → byte < 256 → get_or AFTER_24.now byte 0 ≡ left (number divisor) 24 byte
after_24 byte = entry 24 byte AFTER_24.now all_24

all_32 : AFTER_32.now ≡ map (left (number divisor) 32) (range_with_len 0 256)
unfolding left one_place divisor
all_32 = refl

pub after_32 : (byte : ℕ) → byte < 256 → get_or AFTER_32.now byte 0 ≡ left (number divisor) 32 byte
after_32 byte = entry 32 byte AFTER_32.now all_32

all_40 : AFTER_40.now ≡ map (left (number divisor) 40) (range_with_len 0 256)
unfolding left one_place divisor
all_40 = refl

pub after_40 : (byte : ℕ) → byte < 256 → get_or AFTER_40.now byte 0 ≡ left (number divisor) 40 byte
after_40 byte = entry 40 byte AFTER_40.now all_40

all_48 : AFTER_48.now ≡ map (left (number divisor) 48) (range_with_len 0 256)
unfolding left one_place divisor
all_48 = refl

pub after_48 : (byte : ℕ) → byte < 256 → get_or AFTER_48.now byte 0 ≡ left (number divisor) 48 byte
after_48 byte = entry 48 byte AFTER_48.now all_48

all_56 : AFTER_56.now ≡ map (left (number divisor) 56) (range_with_len 0 256)
unfolding left one_place divisor
all_56 = refl

pub after_56 : (byte : ℕ) → byte < 256 → get_or AFTER_56.now byte 0 ≡ left (number divisor) 56 byte
after_56 byte = entry 56 byte AFTER_56.now all_56

all_64 : AFTER_64.now ≡ map (left (number divisor) 64) (range_with_len 0 256)
unfolding left one_place divisor
all_64 = refl

pub after_64 : (byte : ℕ) → byte < 256 → get_or AFTER_64.now byte 0 ≡ left (number divisor) 64 byte
after_64 byte = entry 64 byte AFTER_64.now all_64
