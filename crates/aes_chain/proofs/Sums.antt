-- Sums over two elements, and that products of polynomials go through them.
use Rattle.std.proofs.Common.{◌≡◌, ◌<◌, ◌+◌, ◌*◌, ◌/◌, ◌%◌, ◌^◌, ℕ, zero, suc, bit_xor, refl, sym, ap, ◌∙◌, arith, add-zero}
use Rattle.std.proofs.Math.Nat.{zero-mul, one-mul, pow-suc}
use Rattle.std.specs.Int.{bit_at, byte_at}
use Rattle.std.proofs.lemmas.Nat.{pow-add, xor_comm, xor_block, xor_shr, xor_mod, pow_pos}
use Rattle.std.proofs.lemmas.Nat.Bits.{bit_at_xor, bit_at-lt}
use lib.Bits.{xor_assoc, xor_self, xor_zero_l, xor_zero_r}
use Rattle.aes_chain.specs.Field.{product, remainder, modulus, times}
use Rattle.aes_chain.specs.State.{sum4}

-- sums of sums, in another order
pub xor_pairs : (a b c d : ℕ) → bit_xor (bit_xor a b) (bit_xor c d) ≡ bit_xor (bit_xor a c) (bit_xor b d)
xor_pairs a b c d =
    xor_assoc a b (bit_xor c d)
    ∙ ap (bit_xor a) (sym (xor_assoc b c d) ∙ ap (λ (x : ℕ). bit_xor x d) (xor_comm b c) ∙ xor_assoc c b d)
    ∙ sym (xor_assoc a c (bit_xor b d))

-- what is added twice is gone
pub xor_twice : (a k : ℕ) → bit_xor (bit_xor a k) k ≡ a
xor_twice a k = xor_assoc a k k ∙ ap (bit_xor a) (xor_self k) ∙ xor_zero_r a

pub xor_twice_left : (a k : ℕ) → bit_xor k (bit_xor k a) ≡ a
xor_twice_left a k = sym (xor_assoc k k a) ∙ ap (λ (x : ℕ). bit_xor x a) (xor_self k) ∙ xor_zero_l a

-- the sum of four columns of four is that of their rows
pub sum4-turned : (a b c d e f g h i j k l m n o p : ℕ)
    → sum4 (sum4 a b c d) (sum4 e f g h) (sum4 i j k l) (sum4 m n o p)
    ≡ sum4 (sum4 a e i m) (sum4 b f j n) (sum4 c g k o) (sum4 d h l p)
sum4-turned a b c d e f g h i j k l m n o p =
    let two : (a b c d e f g h : ℕ) → bit_xor (sum4 a b c d) (sum4 e f g h) ≡ sum4 (bit_xor a e) (bit_xor b f) (bit_xor c g) (bit_xor d h) =
    λ a b c d e f g h. xor_pairs (bit_xor a b) (bit_xor c d) (bit_xor e f) (bit_xor g h)
    ∙ (λ t. bit_xor (xor_pairs a b e f t) (xor_pairs c d g h t)) in
    (λ t. bit_xor (two a b c d e f g h t) (two i j k l m n o p t))
    ∙ two (bit_xor a e) (bit_xor b f) (bit_xor c g) (bit_xor d h) (bit_xor i m) (bit_xor j n) (bit_xor k o) (bit_xor l p)

-- a bit times a sum
scaled : (t x y : ℕ) → t < 2 → t * bit_xor x y ≡ bit_xor (t * x) (t * y)
scaled zero x y h = rw (zero-mul (bit_xor x y), zero-mul x, zero-mul y) refl
scaled (suc zero) x y h = rw (one-mul (bit_xor x y), one-mul x, one-mul y) refl
scaled (suc (suc t)) x y h = absurd (omega arith)

-- a sum of bits times a number
bits_scaled : (s t m : ℕ) → s < 2 → t < 2 → ((s + t) % 2) * m ≡ bit_xor (s * m) (t * m)
bits_scaled zero zero m g h = rw (zero-mul m) refl
bits_scaled zero (suc zero) m g h = rw (zero-mul m, one-mul m) (sym (xor_zero_l m))
bits_scaled (suc zero) zero m g h = rw (zero-mul m, one-mul m) (sym (xor_zero_r m))
bits_scaled (suc zero) (suc zero) m g h = rw (zero-mul m, one-mul m) (sym (xor_self m))
bits_scaled (suc (suc s)) t m g h = absurd (omega arith)
bits_scaled zero (suc (suc t)) m g h = absurd (omega arith)
bits_scaled (suc zero) (suc (suc t)) m g h = absurd (omega arith)

shl-xor : (b c n : ℕ) → bit_xor b c * 2 ^ n ≡ bit_xor (b * 2 ^ n) (c * 2 ^ n)
shl-xor b c n =
    let e = xor_block n b c 0 0 (pow_pos n) (pow_pos n) in
    let l : bit_xor (b * 2 ^ n + 0) (c * 2 ^ n + 0) ≡ bit_xor (b * 2 ^ n) (c * 2 ^ n) = λ i. bit_xor (add-zero (b * 2 ^ n) i) (add-zero (c * 2 ^ n) i) in
    sym (add-zero (bit_xor b c * 2 ^ n)) ∙ sym e ∙ l

product-xor : (n a b c : ℕ) → product n a (bit_xor b c) ≡ bit_xor (product n a b) (product n a c)
unfolding product
product-xor zero a b c = refl
product-xor (suc n) a b c =
    let t : ℕ = bit_at a n in
    let one : t * (bit_xor b c * 2 ^ n) ≡ bit_xor (t * (b * 2 ^ n)) (t * (c * 2 ^ n)) =
    ap (λ (x : ℕ). t * x) (shl-xor b c n) ∙ scaled t (b * 2 ^ n) (c * 2 ^ n) (bit_at-lt a n) in
    (λ i. bit_xor (product-xor n a b c i) (one i))
    ∙ xor_pairs (product n a b) (product n a c) (t * (b * 2 ^ n)) (t * (c * 2 ^ n))

remainder-xor : (n p q : ℕ) → remainder n (bit_xor p q) ≡ bit_xor (remainder n p) (remainder n q)
unfolding remainder
remainder-xor zero p q = refl
remainder-xor (suc n) p q =
    let m : ℕ = modulus * 2 ^ n in
    let s : ℕ = bit_at p (n + 8) in
    let t : ℕ = bit_at q (n + 8) in
    let one : bit_at (bit_xor p q) (n + 8) * m ≡ bit_xor (s * m) (t * m) =
    ap (λ (x : ℕ). x * m) (bit_at_xor p q (n + 8)) ∙ bits_scaled s t m (bit_at-lt p (n + 8)) (bit_at-lt q (n + 8)) in
    ap (remainder n) (ap (bit_xor (bit_xor p q)) one ∙ xor_pairs p q (s * m) (t * m))
    ∙ remainder-xor n (bit_xor p (s * m)) (bit_xor q (t * m))

-- a product of a sum is the sum of the products
pub times-xor : (a b c : ℕ) → times a (bit_xor b c) ≡ bit_xor (times a b) (times a c)
unfolding times
times-xor a b c = ap (remainder 7) (product-xor 8 a b c) ∙ remainder-xor 7 (product 8 a b) (product 8 a c)

pub times-sum4 : (k a b c d : ℕ) → times k (sum4 a b c d) ≡ sum4 (times k a) (times k b) (times k c) (times k d)
times-sum4 k a b c d =
    times-xor k (bit_xor a b) (bit_xor c d) ∙ (λ i. bit_xor (times-xor k a b i) (times-xor k c d i))

pow-256 : (k : ℕ) → 256 ^ k ≡ 2 ^ (8 * k)
pow-256 zero = refl
pow-256 (suc k) =
    let e : 8 * suc k ≡ 8 * k + 8 = omega arith in
    pow-suc 256 k ∙ ap (λ (x : ℕ). x * 256) (pow-256 k) ∙ sym (pow-add 2 (8 * k) 8) ∙ ap (λ (x : ℕ). 2 ^ x) (sym e)

-- a byte of a sum is the sum of the bytes
pub byte_at-xor : (r a b : ℕ) → byte_at r (bit_xor a b) ≡ bit_xor (byte_at r a) (byte_at r b)
byte_at-xor zero a b = xor_mod a b 8
byte_at-xor (suc r) a b =
    rw (pow-256 (suc r)) (ap (λ (x : ℕ). x % 256) (xor_shr a b (8 * suc r)) ∙ xor_mod (a / 2 ^ (8 * suc r)) (b / 2 ^ (8 * suc r)) 8)
