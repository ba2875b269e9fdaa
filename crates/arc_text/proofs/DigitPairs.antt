-- Pairs of hexadecimal digits: the bytes that they spell are those that the decoder of hexadecimal texts gives.
use Rattle.std.proofs.Common.{◌≡◌, ℕ, ◌+◌, ◌*◌, ◌%◌, Bool, true, false, List, [], ◌∷◌, length, Some, Result, Ok, Err, refl, sym, ap, ◌∙◌, arith, inl, inr}
use Rattle.std.specs.List.{list_all}
use Rattle.std.specs.Prelude.{MatchResult, is_ok, slice_index_or}
use Rattle.std.proofs.lemmas.Bool.{and_parts, cases_Bool}
use Rattle.std.proofs.lemmas.List.Sums.{list_all-from_AllPass}
use Rattle.arc_data.specs.Digits.{is_hex, digit_value, bytes_spelled}
use Rattle.hex.specs.Hex.{hex_digit_value, is_hex_digit, pair_value, decode_pairs, decode_sized}
use Rattle.hex.specs.declared.error.FromHexError.{FromHexError}
use Rattle.hex.proofs.Pairs.{cons_byte, decode_pairs-ok_pair, decode_sized-pairs}
use Rattle.hex.proofs.HexLemmas.{IsOk-decode_sized, IsOk-written}

-- a hexadecimal digit reads as what it stands for
hex_digit_value-is : (b : ℕ) → is_hex b ≡ true → hex_digit_value b ≡ Some (digit_value b)
hex_digit_value-is b is = grind arith

-- and no other byte reads
same_test : (b : ℕ) → is_hex_digit b ≡ is_hex b
same_test b = grind arith

pub decode_pairs-spelled : (i : ℕ) (s : List ℕ) → length s % 2 ≡ 0 → list_all is_hex s ≡ true → decode_pairs i s ≡ Ok (bytes_spelled s)
unfolding bytes_spelled decode_pairs
decode_pairs-spelled i [] even all = refl
decode_pairs-spelled i (a ∷ []) even all = absurd (omega arith)
decode_pairs-spelled i (a ∷ b ∷ rest) even all =
    let p = and_parts (is_hex a) (list_all is_hex (b ∷ rest)) all in
    let q = and_parts (is_hex b) (list_all is_hex rest) p.1 in
    let pair : pair_value a b i ≡ Ok (digit_value a * 16 + digit_value b) = rw (hex_digit_value-is a p.0, hex_digit_value-is b q.0) refl in
    decode_pairs-ok_pair i a b _ rest pair ∙ ap (cons_byte (digit_value a * 16 + digit_value b)) (decode_pairs-spelled (i + 2) rest (omega arith) q.1)

pub decode_sized-spelled : (s : List ℕ) (n : ℕ) → length s ≡ 2 * n → list_all is_hex s ≡ true → decode_sized s n ≡ Ok (bytes_spelled s)
decode_sized-spelled s n len all = decode_sized-pairs s n (omega arith) (omega arith) ∙ decode_pairs-spelled 0 s (omega arith) all

-- what it decodes are hexadecimal digits
pub all_hex : (s : List ℕ) (n : ℕ) → is_ok (decode_sized s n) ≡ true → list_all is_hex s ≡ true
all_hex s n taken =
    let digits = (IsOk-decode_sized s n).0 taken in
    list_all-from_AllPass is_hex s (λ k d lt. sym (same_test (slice_index_or s k d)) ∙ digits.1 k d lt)

-- the decoder takes digits exactly where all are hexadecimal, and gives the bytes that they spell
pub record Decodes (s out : List ℕ) (taken : Bool) : Type 0 where
  pub all : taken ≡ list_all is_hex s
  pub spelled : taken ≡ true → out ≡ bytes_spelled s

pub decodes : (s out : List ℕ) (n : ℕ) (r : Result Unit FromHexError) → length s ≡ 2 * n → MatchResult (decode_sized s n) (λ bytes. (r ≡ Ok tt) × (out ≡ bytes)) (λ e. r ≡ Err e) → Decodes s out (is_ok r)
decodes s out n r len written =
    elim (cases_Bool (is_ok r)) [
      | inl taken ↦
          let all = all_hex s n ((IsOk-written (decode_sized s n) r out written).0 taken) in
          let parts = rw (decode_sized-spelled s n len all) at written in
          record { all = taken ∙ sym all; spelled = λ _. parts.1 }
      | inr refused ↦ record { all = refused ∙ sym (none s out n r len refused written); spelled = λ taken. absurd cc }
    ]
  where
    none : (s out : List ℕ) (n : ℕ) (r : Result Unit FromHexError) → length s ≡ 2 * n → is_ok r ≡ false → MatchResult (decode_sized s n) (λ bytes. (r ≡ Ok tt) × (out ≡ bytes)) (λ e. r ≡ Err e) → list_all is_hex s ≡ false
    none s out n r len refused written = elim (cases_Bool (list_all is_hex s)) [
      | inl all ↦
          let parts = rw (decode_sized-spelled s n len all) at written in
          let taken : is_ok r ≡ true = rw parts.0 refl in
          absurd cc
      | inr some ↦ some
    ]
