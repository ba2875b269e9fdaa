-- The division on the numbers that the bits spell. It is linear, so what a block leaves is the sum of what each of its bytes leaves.
use Rattle.std.proofs.Common.{◌≡◌, ℕ, zero, suc, ◌+◌, ◌*◌, ◌/◌, ◌%◌, ◌<◌, ◌^◌, List, [], ◌∷◌, ◌++◌, length, Bool, true, false, refl, sym, ◌∙◌, ap, arith, bit_xor, length-append}
use Rattle.std.proofs.Math.Nat.{zero-mul, one-mul}
use Rattle.std.proofs.lemmas.Nat.{xor_comm, xor_block, xor_shr, xor_mod, pow_pos}
use Rattle.std.specs.Int.Bits.{xor_assoc, xor_self, xor_zero_l, xor_zero_r}
use Rattle.dc09_frame.specs.Check.{divisor, all_bits, sum_after, check_of}
use Rattle.dc09_frame.specs.Polynomial.{plus, remainder, zeros, bits, number}
use Rattle.dc09_frame.proofs.Polynomials.{number-plus, number-zeros, number-bits, number-lt, number-append, length-all_bits, all_bits-append, doubled}

-- one place of a division by the polynomial that g spells
unfoldable pub one_place : ℕ → ℕ → ℕ
one_place g n = bit_xor (n % 2 * g) (n / 2)

-- what is left after so many places
unfoldable pub left : ℕ → ℕ → ℕ → ℕ
left g zero n = n
left g (suc places) n = left g places (one_place g n)

one_of : (g digit n : ℕ) → digit < 2 → one_place g (digit + 2 * n) ≡ bit_xor (digit * g) n
unfolding one_place
one_of g digit n lt =
    let low : (digit + 2 * n) % 2 ≡ digit = omega arith in
    let high : (digit + 2 * n) / 2 ≡ n = omega arith in
    rw (low, high) refl

one_of_clear : (g n : ℕ) → one_place g (0 + 2 * n) ≡ n
one_of_clear g n = one_of g 0 n (omega arith) ∙ ap (λ k. bit_xor k n) (zero-mul g) ∙ xor_zero_l n

one_of_even : (g n : ℕ) → one_place g (2 * n) ≡ n
one_of_even g n = let e : 2 * n ≡ 0 + 2 * n = omega arith in ap (one_place g) e ∙ one_of_clear g n

left-zero : (g places : ℕ) → left g places 0 ≡ 0
unfolding left
left-zero g zero = refl
left-zero g (suc places) = ap (left g places) (one_of_even g 0) ∙ left-zero g places

-- what the remainder spells
pub number-remainder : (places : ℕ) (g p : List Bool) → number (remainder places g p) ≡ left (number g) places (number p)
unfolding remainder left
number-remainder zero g p = refl
number-remainder (suc places) g [] = sym (left-zero (number g) (suc places))
number-remainder (suc places) g (true ∷ p) =
    let one : bit_xor (number g) (number p) ≡ one_place (number g) (1 + 2 * number p) =
    ap (λ k. bit_xor k (number p)) (sym (one-mul (number g))) ∙ sym (one_of (number g) 1 (number p) (omega arith)) in
    number-remainder places g (plus g p) ∙ ap (left (number g) places) (number-plus g p ∙ one)
number-remainder (suc places) g (false ∷ p) =
    number-remainder places g p ∙ ap (left (number g) places) (sym (one_of_clear (number g) (number p)))

-- Linearity.

xor_pairs : (a b c d : ℕ) → bit_xor (bit_xor a b) (bit_xor c d) ≡ bit_xor (bit_xor a c) (bit_xor b d)
xor_pairs a b c d =
    xor_assoc a b (bit_xor c d)
    ∙ ap (bit_xor a) (sym (xor_assoc b c d) ∙ ap (λ (x : ℕ). bit_xor x d) (xor_comm b c) ∙ xor_assoc c b d)
    ∙ sym (xor_assoc a c (bit_xor b d))

digits_times : (x y g : ℕ) → x < 2 → y < 2 → bit_xor x y * g ≡ bit_xor (x * g) (y * g)
digits_times zero y g p q = ap (λ k. k * g) (xor_zero_l y) ∙ sym (ap (λ k. bit_xor k (y * g)) (zero-mul g) ∙ xor_zero_l (y * g))
digits_times (suc zero) zero g p q = sym (ap (bit_xor (1 * g)) (zero-mul g) ∙ xor_zero_r (1 * g))
digits_times (suc zero) (suc zero) g p q = zero-mul g ∙ sym (xor_self (1 * g))
digits_times (suc zero) (suc (suc y)) g p q = absurd (omega arith)
digits_times (suc (suc x)) y g p q = absurd (omega arith)

one_place-xor : (g a b : ℕ) → one_place g (bit_xor a b) ≡ bit_xor (one_place g a) (one_place g b)
unfolding one_place
one_place-xor g a b =
    let low : bit_xor a b % 2 ≡ bit_xor (a % 2) (b % 2) = xor_mod a b 1 in
    let high : bit_xor a b / 2 ≡ bit_xor (a / 2) (b / 2) = xor_shr a b 1 in
    (λ i. bit_xor (low i * g) (high i))
    ∙ ap (λ k. bit_xor k (bit_xor (a / 2) (b / 2))) (digits_times (a % 2) (b % 2) g (omega arith) (omega arith))
    ∙ xor_pairs (a % 2 * g) (b % 2 * g) (a / 2) (b / 2)

pub left-xor : (g places a b : ℕ) → left g places (bit_xor a b) ≡ bit_xor (left g places a) (left g places b)
unfolding left
left-xor g zero a b = refl
left-xor g (suc places) a b = ap (left g places) (one_place-xor g a b) ∙ left-xor g places (one_place g a) (one_place g b)

-- places after places
pub left-add : (g m n a : ℕ) → left g (m + n) a ≡ left g n (left g m a)
unfolding left
left-add g zero n a = let e : 0 + n ≡ n = omega arith in ap (λ k. left g k a) e
left-add g (suc m) n a = let e : suc m + n ≡ suc (m + n) = omega arith in ap (λ k. left g k a) e ∙ left-add g m n (one_place g a)

-- what stands behind the places comes to the front
pub left-behind : (g places n : ℕ) → left g places (n * 2 ^ places) ≡ n
unfolding left
left-behind g zero n = omega arith
left-behind g (suc places) n =
    ap (λ k. left g places (one_place g k)) (doubled n places)
    ∙ ap (left g places) (one_of_even g (n * 2 ^ places))
    ∙ left-behind g places n

-- what stands in places of its own is a sum
pub apart : (k low high : ℕ) → low < 2 ^ k → low + high * 2 ^ k ≡ bit_xor low (high * 2 ^ k)
apart k low high lt =
    let l : 0 * 2 ^ k + low ≡ low = omega (arith, zero-mul (2 ^ k)) in
    let r : high * 2 ^ k + 0 ≡ high * 2 ^ k = omega arith in
    omega arith
    ∙ (λ i. sym (xor_zero_l high) i * 2 ^ k + sym (xor_zero_r low) i)
    ∙ sym (xor_block k 0 high low 0 lt (pow_pos k))
    ∙ (λ i. bit_xor (l i) (r i))

-- The sum after some bytes, on numbers.

unfoldable pub value : List ℕ → ℕ
value bytes = number (all_bits bytes)

pub sum_left : (sum : ℕ) (bytes : List ℕ) → sum < 65536
    → sum_after sum bytes ≡ left (number divisor) (8 * length bytes) (bit_xor sum (value bytes))
unfolding value
sum_left sum bytes lt =
    let both : number (plus (bits 16 sum) (all_bits bytes)) ≡ bit_xor sum (value bytes) =
    number-plus (bits 16 sum) (all_bits bytes) ∙ ap (λ k. bit_xor k (value bytes)) (number-bits 16 sum lt) in
    number-remainder (8 * length bytes) divisor (plus (bits 16 sum) (all_bits bytes)) ∙ ap (left (number divisor) (8 * length bytes)) both

value-append : (xs ys : List ℕ) → value (xs ++ ys) ≡ bit_xor (value xs) (value ys * 2 ^ (8 * length xs))
unfolding value
value-append xs ys =
    ap number (all_bits-append xs ys)
    ∙ number-append (all_bits xs) (all_bits ys)
    ∙ apart (length (all_bits xs)) (value xs) (value ys) (number-lt (all_bits xs))
    ∙ ap (λ k. bit_xor (value xs) (value ys * 2 ^ k)) (length-all_bits xs)

-- bytes after bytes
pub sum_after-append : (sum between : ℕ) (xs ys : List ℕ) → sum < 65536 → between < 65536 → between ≡ sum_after sum xs
    → sum_after between ys ≡ sum_after sum (xs ++ ys)
sum_after-append sum between xs ys lt below is =
    let g = number divisor in
    let m = 8 * length xs in
    let n = 8 * length ys in
    let first = bit_xor sum (value xs) in
    let behind = value ys * 2 ^ m in
    let size : m + n ≡ 8 * length (xs ++ ys) = omega (arith, length-append xs ys) in
    sum_left between ys below
    ∙ ap (λ k. left g n (bit_xor k (value ys))) (is ∙ sum_left sum xs lt)
    ∙ ap (λ k. left g n (bit_xor (left g m first) k)) (sym (left-behind g m (value ys)))
    ∙ ap (left g n) (sym (left-xor g m first behind))
    ∙ sym (left-add g m n (bit_xor first behind))
    ∙ ap (left g (m + n)) (xor_assoc sum (value xs) behind ∙ ap (bit_xor sum) (sym (value-append xs ys)))
    ∙ ap (λ k. left g k (bit_xor sum (value (xs ++ ys)))) size
    ∙ sym (sum_left sum (xs ++ ys) lt)

-- no bytes
pub sum_after-nil : (sum : ℕ) → sum < 65536 → sum_after sum [] ≡ sum
unfolding left value
sum_after-nil sum lt = sum_left sum [] lt ∙ xor_zero_r sum

-- the check is the sum after all bytes
pub check_is_sum : (bytes : List ℕ) → check_of bytes ≡ sum_after 0 bytes
unfolding value
check_is_sum bytes =
    number-remainder (8 * length bytes) divisor (all_bits bytes ++ zeros 16)
    ∙ ap (left (number divisor) (8 * length bytes)) (number-zeros (all_bits bytes) 16 ∙ sym (xor_zero_l (value bytes)))
    ∙ sym (sum_left 0 bytes (omega arith))
