-- Bytes taken in by the tables, one or eight at a time.
use Rattle.std.proofs.Common.{◌≡◌, ℕ, ◌+◌, ◌*◌, ◌/◌, ◌%◌, ◌<◌, ◌^◌, List, [], ◌∷◌, length, get_or, refl, sym, ◌∙◌, ap, arith, bit_xor}
use Rattle.std.proofs.Math.Nat.{mul_comm}
use Rattle.std.proofs.lemmas.Nat.{xor_block, xor_comm, xor_of_8}
use Rattle.std.proofs.lemmas.List.FromFn.{fill_by_all}
use Rattle.std.specs.Int.Bits.{xor_assoc, xor_zero_l, xor_zero_r}
use Rattle.dc09_frame.specs.Check.{divisor, all_bits, sum_after}
use Rattle.dc09_frame.specs.Polynomial.{bits, number}
use Rattle.dc09_frame.specs.declared.tables.TheConstants.{AFTER_8, AFTER_16, AFTER_24, AFTER_32, AFTER_40, AFTER_48, AFTER_56, AFTER_64}
use Rattle.dc09_frame.proofs.Polynomials.{number-bits, length-bits, number-append}
use Rattle.dc09_frame.proofs.Places.{left, left-add, left-behind, left-xor, apart, value, sum_left}
use Rattle.dc09_frame.proofs.Entries.{after_8, after_16, after_24, after_32, after_40, after_48, after_56, after_64}

-- the first byte of some
value-cons : (b : ℕ) (bytes : List ℕ) → b < 256 → value (b ∷ bytes) ≡ b + 256 * value bytes
unfolding value
value-cons b bytes lt =
    number-append (bits 8 b) (all_bits bytes)
    ∙ (λ i. number-bits 8 b lt i + number (all_bits bytes) * 2 ^ length-bits 8 b i)
    ∙ ap (λ k. b + k) (mul_comm (number (all_bits bytes)) 256)

-- what a byte leaves, and those behind it
split : (g places x y : ℕ) → x < 256 → left g (8 + places) (x + 256 * y) ≡ bit_xor (left g (8 + places) x) (left g places y)
split g places x y lt =
    let e : x + 256 * y ≡ bit_xor x (y * 2 ^ 8) = ap (λ k. x + k) (mul_comm 256 y) ∙ apart 8 x y lt in
    ap (left g (8 + places)) e
    ∙ left-xor g (8 + places) x (y * 2 ^ 8)
    ∙ ap (bit_xor (left g (8 + places) x)) (left-add g 8 places (y * 2 ^ 8) ∙ ap (left g places) (left-behind g 8 y))

-- a sum comes to the first bytes
onto : (sum b v : ℕ) → b < 256 → bit_xor sum (b + 256 * v) ≡ bit_xor b (sum % 256) + 256 * bit_xor (sum / 256) v
onto sum b v lt =
    let l : sum ≡ sum / 256 * 2 ^ 8 + sum % 256 = omega arith in
    let r : b + 256 * v ≡ v * 2 ^ 8 + b = omega arith in
    (λ i. bit_xor (l i) (r i))
    ∙ xor_block 8 (sum / 256) v (sum % 256) b (omega arith) lt
    ∙ (λ i. bit_xor (sum / 256) v * 256 + xor_comm (sum % 256) b i)
    ∙ omega arith

-- one byte more
more : (acc b : ℕ) (bytes : List ℕ) → b < 256
    → bit_xor acc (left (number divisor) (8 + 8 * length bytes) (value (b ∷ bytes)))
    ≡ bit_xor (bit_xor acc (left (number divisor) (8 + 8 * length bytes) b)) (left (number divisor) (8 * length bytes) (value bytes))
more acc b bytes lt =
    let g = number divisor in
    let n = 8 * length bytes in
    ap (λ k. bit_xor acc (left g (8 + n) k)) (value-cons b bytes lt)
    ∙ ap (bit_xor acc) (split g n b (value bytes) lt)
    ∙ sym (xor_assoc acc (left g (8 + n) b) (left g n (value bytes)))

pub byte_gives : (sum byte : ℕ) → sum < 65536 → byte < 256
    → bit_xor (sum / 256 % 256) (get_or AFTER_8.now (bit_xor byte (sum % 256)) 0) ≡ sum_after sum (byte ∷ [])
unfolding value left
byte_gives sum byte below lt =
    let g = number divisor in
    let first = bit_xor byte (sum % 256) in
    let first_lt : first < 256 = xor_of_8 byte (sum % 256) lt (omega arith) in
    let high : sum / 256 % 256 ≡ sum / 256 = omega arith in
    (λ i. bit_xor (high i) (after_8 first first_lt i))
    ∙ sym (
    sum_left sum (byte ∷ []) below
    ∙ ap (λ k. left g 8 (bit_xor sum k)) (value-cons byte [] lt)
    ∙ ap (left g 8) (onto sum byte 0 lt ∙ ap (λ k. first + 256 * k) (xor_zero_r (sum / 256)))
    ∙ split g 0 first (sum / 256) first_lt
    ∙ xor_comm (left g 8 first) (sum / 256)
    )

-- a sum comes to the first two bytes
first_two : (sum a b : ℕ) (rest : List ℕ) → sum < 65536 → a < 256 → b < 256
    → bit_xor sum (value (a ∷ b ∷ rest)) ≡ bit_xor a (sum % 256) + 256 * (bit_xor b (sum / 256 % 256) + 256 * value rest)
first_two sum a b rest below la lb =
    let low = bit_xor a (sum % 256) in
    let high = bit_xor b (sum / 256 % 256) in
    let none : sum / 256 / 256 ≡ 0 = omega arith in
    ap (bit_xor sum) (value-cons a (b ∷ rest) la ∙ ap (λ k. a + 256 * k) (value-cons b rest lb))
    ∙ onto sum a (b + 256 * value rest) la
    ∙ ap (λ k. low + 256 * k) (onto (sum / 256) b (value rest) lb)
    ∙ ap (λ k. low + 256 * (high + 256 * k)) (ap (λ k. bit_xor k (value rest)) none ∙ xor_zero_l (value rest))

-- what the tables give for eight bytes
abbrev pub by_tables : ℕ → List ℕ → ℕ
by_tables sum block =
    bit_xor (bit_xor (bit_xor (bit_xor (bit_xor (bit_xor (bit_xor (get_or AFTER_64.now (bit_xor (get_or block 0 0) (sum % 256)) 0)
    (get_or AFTER_56.now (bit_xor (get_or block 1 0) (sum / 256 % 256)) 0)) (get_or AFTER_48.now (get_or block 2 0) 0))
    (get_or AFTER_40.now (get_or block 3 0) 0)) (get_or AFTER_32.now (get_or block 4 0) 0)) (get_or AFTER_24.now (get_or block 5 0) 0))
    (get_or AFTER_16.now (get_or block 6 0) 0)) (get_or AFTER_8.now (get_or block 7 0) 0)

eight : (sum a b c d e f g h : ℕ) → sum < 65536
    → a < 256 → b < 256 → c < 256 → d < 256 → e < 256 → f < 256 → g < 256 → h < 256
    → by_tables sum (a ∷ b ∷ c ∷ d ∷ e ∷ f ∷ g ∷ h ∷ []) ≡ sum_after sum (a ∷ b ∷ c ∷ d ∷ e ∷ f ∷ g ∷ h ∷ [])
unfolding value left
eight sum a b c d e f g h below la lb lc ld le lf lg lh =
    let p = number divisor in
    let rest : List ℕ = c ∷ d ∷ e ∷ f ∷ g ∷ h ∷ [] in
    let first = bit_xor a (sum % 256) in
    let second = bit_xor b (sum / 256 % 256) in
    let first_lt : first < 256 = xor_of_8 a (sum % 256) la (omega arith) in
    let second_lt : second < 256 = xor_of_8 b (sum / 256 % 256) lb (omega arith) in
    let s1 = left p 64 first in
    let s2 = bit_xor s1 (left p 56 second) in
    let s3 = bit_xor s2 (left p 48 c) in
    let s4 = bit_xor s3 (left p 40 d) in
    let s5 = bit_xor s4 (left p 32 e) in
    let s6 = bit_xor s5 (left p 24 f) in
    let s7 = bit_xor s6 (left p 16 g) in
    (λ i. bit_xor (bit_xor (bit_xor (bit_xor (bit_xor (bit_xor (bit_xor (after_64 first first_lt i) (after_56 second second_lt i))
    (after_48 c lc i)) (after_40 d ld i)) (after_32 e le i)) (after_24 f lf i)) (after_16 g lg i)) (after_8 h lh i))
    ∙ sym (
    sum_left sum (a ∷ b ∷ rest) below
    ∙ ap (left p 64) (first_two sum a b rest below la lb)
    ∙ split p 56 first (second + 256 * value rest) first_lt
    ∙ ap (bit_xor s1) (split p 48 second (value rest) second_lt)
    ∙ sym (xor_assoc s1 (left p 56 second) (left p 48 (value rest)))
    ∙ more s2 c (d ∷ e ∷ f ∷ g ∷ h ∷ []) lc
    ∙ more s3 d (e ∷ f ∷ g ∷ h ∷ []) ld
    ∙ more s4 e (f ∷ g ∷ h ∷ []) le
    ∙ more s5 f (g ∷ h ∷ []) lf
    ∙ more s6 g (h ∷ []) lg
    ∙ more s7 h [] lh
    ∙ xor_zero_r (bit_xor s7 (left p 8 h))
    )

pub block_gives : (sum : ℕ) (block : List ℕ) → length block ≡ 8 → ((i : ℕ) → get_or block i 0 < 256) → sum < 65536
    → by_tables sum block ≡ sum_after sum block
block_gives sum block size fits below =
    eight sum (get_or block 0 0) (get_or block 1 0) (get_or block 2 0) (get_or block 3 0) (get_or block 4 0) (get_or block 5 0)
    (get_or block 6 0) (get_or block 7 0) below (fits 0) (fits 1) (fits 2) (fits 3) (fits 4) (fits 5) (fits 6) (fits 7)
    ∙ ap (sum_after sum) (sym (fill_by_all (λ k. get_or block k 0) block 8 0 size (λ k lt. refl)))
