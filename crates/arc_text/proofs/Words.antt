-- Four hexadecimal digits.
use Rattle.std.proofs.Common.{◌≡◌, ℕ, ◌+◌, ◌*◌, ◌<◌, ◌≤◌, Bool, true, false, cond, List, [], ◌∷◌, length, get_or, Some, None, refl, ap, arith}
use Rattle.arc_data.specs.Digits.{is_hex, digit_value, hex_value}
use Rattle.arc_text.specs.Words.{hex_digit_of, hex_word_of}

some_digit : (b n : ℕ) (t : Bool) → cond t (Some (digit_value b)) None ≡ Some n → (t ≡ true) × (digit_value b ≡ n)
some_digit b n true is = (refl, cc)
some_digit b n false is = absurd cc

pub word_of_digits : (bytes : List ℕ) (a b c d : ℕ) → 4 ≤ length bytes → length bytes < 5
    → hex_digit_of (get_or bytes 0 0) ≡ Some a → hex_digit_of (get_or bytes 1 0) ≡ Some b → hex_digit_of (get_or bytes 2 0) ≡ Some c → hex_digit_of (get_or bytes 3 0) ≡ Some d
    → Some ((a * 16 + b) * 256 + (c * 16 + d)) ≡ hex_word_of bytes
unfolding hex_value
word_of_digits [] a b c d low high is_a is_b is_c is_d = absurd (omega arith)
word_of_digits (w ∷ []) a b c d low high is_a is_b is_c is_d = absurd (omega arith)
word_of_digits (w ∷ x ∷ []) a b c d low high is_a is_b is_c is_d = absurd (omega arith)
word_of_digits (w ∷ x ∷ y ∷ []) a b c d low high is_a is_b is_c is_d = absurd (omega arith)
word_of_digits (w ∷ x ∷ y ∷ z ∷ []) a b c d low high is_a is_b is_c is_d =
    let p = some_digit w a (is_hex w) is_a in
    let q = some_digit x b (is_hex x) is_b in
    let r = some_digit y c (is_hex y) is_c in
    let s = some_digit z d (is_hex z) is_d in
    rw (p.0, q.0, r.0, s.0, p.1, q.1, r.1, s.1) (ap (λ (n : ℕ). Some n) (omega arith))
word_of_digits (v ∷ w ∷ x ∷ y ∷ z ∷ bytes) a b c d low high is_a is_b is_c is_d = absurd (omega arith)
