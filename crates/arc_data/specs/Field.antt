-- A text in a field of 32 bytes: the text, and then zeros.
use Rattle.std.specs.Prelude.{◌≡◌, ◌≤◌, ◌-◌, ◌++◌, ℕ, List, length, take, replicate}
use Rattle.std.proofs.Common.{sym, arith, length-take}

abbrev pub field_of : List ℕ → List ℕ
field_of text = text ++ replicate (32 - length text) 0

-- the field is the text and zeros
pub record IsPadded (len : ℕ) (bytes : List ℕ) : Type 0 where
  pub short : len ≤ 32
  pub padded : bytes ≡ field_of (take len bytes)
  pub long : length bytes ≡ 32

-- a field is given back by its text
pub field_again : (len : ℕ) (bytes : List ℕ) → IsPadded len bytes → field_of (take len bytes) ≡ bytes
field_again len bytes h = sym h.padded

pub len_again : (len : ℕ) (bytes : List ℕ) → IsPadded len bytes → length (take len bytes) ≡ len
len_again len bytes h = simp length-take (omega (arith, h.short, h.long))
