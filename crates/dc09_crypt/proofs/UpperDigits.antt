-- Bytes as pairs of upper-case hexadecimal digits.
use Rattle.std.proofs.Common.{◌≡◌, ℕ, suc, ◌+◌, ◌*◌, ◌/◌, ◌%◌, ◌<◌, true, List, [], ◌∷◌, length, get_or, slice_index, map, refl, sym, ap, ◌∙◌, arith}
use Rattle.std.specs.Char.{to_ascii_uppercase}
use Rattle.std.specs.List.{list_all, range_with_len}
use Rattle.std.proofs.lemmas.Bool.{and_from}
use Rattle.std.proofs.lemmas.List.FromFn.{get_or-map-range_with_len}
use Rattle.arc_data.specs.Digits.{is_hex, digit_value, bytes_spelled}
use Rattle.hex.specs.Hex.{IsBytes, lower_digits, encode_with, encode_lower}
use Rattle.dc09_frame.specs.Frames.{digit_of, is_clean}
use Rattle.dc09_frame.proofs.FrameLaws.{digit_again}
use Rattle.dc09_crypt.specs.Sealed.{upper_digits}

raised : ℕ → ℕ
raised n = to_ascii_uppercase (slice_index lower_digits n)

all_raised : map raised (range_with_len 0 16) ≡ map digit_of (range_with_len 0 16)
unfolding raised
all_raised = refl

-- a digit that was written in lower case and raised
upper_digit : (n : ℕ) → n < 16 → to_ascii_uppercase (slice_index lower_digits n) ≡ digit_of n
unfolding raised
upper_digit n lt =
    sym (get_or-map-range_with_len raised 0 16 n n 0 lt (omega arith)) ∙ ap (λ (t : List ℕ). get_or t n 0) all_raised
    ∙ get_or-map-range_with_len digit_of 0 16 n n 0 lt (omega arith)

pub upper_digits-raised : (bytes : List ℕ) → IsBytes bytes → map to_ascii_uppercase (encode_lower bytes) ≡ upper_digits bytes
unfolding encode_with
upper_digits-raised [] fits = refl
upper_digits-raised (b ∷ bytes) fits =
    let byte : b < 256 = fits 0 in
    let high = upper_digit (b / 16) (omega arith) in
    let low = upper_digit (b % 16) (omega arith) in
    let rest = upper_digits-raised bytes (λ k. fits (suc k)) in
    rw (high, low, rest) refl

-- what pairs of upper-case digits are: as many as they should, clean, hexadecimal, and they spell the bytes again
pub record IsSpelledAgain (bytes digits : List ℕ) : Type 0 where
  pub size : length digits ≡ 2 * length bytes
  pub clean : list_all is_clean digits ≡ true
  pub hex : list_all is_hex digits ≡ true
  pub spelled : bytes_spelled digits ≡ bytes

pub spelled_again : (bytes : List ℕ) → IsBytes bytes → IsSpelledAgain bytes (upper_digits bytes)
unfolding bytes_spelled
spelled_again [] fits = record { size = refl; clean = refl; hex = refl; spelled = refl }
spelled_again (b ∷ bytes) fits =
    let byte : b < 256 = fits 0 in
    let high = digit_again (b / 16) (omega arith) in
    let low = digit_again (b % 16) (omega arith) in
    let rest = spelled_again bytes (λ k. fits (suc k)) in
    let value : digit_value (digit_of (b / 16)) * 16 + digit_value (digit_of (b % 16)) ≡ b = rw (high.value, low.value) (omega arith) in
    record {
      size = omega (arith, rest.size);
      clean = and_from _ _ high.clean (and_from _ _ low.clean rest.clean);
      hex = and_from _ _ high.hex (and_from _ _ low.hex rest.hex);
      spelled = rw (value, rest.spelled) refl;
    }
