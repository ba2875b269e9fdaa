-- Bytes as polynomials over two elements (FIPS 197, section 4): bit i of a number is the coefficient
-- of x^i, and `bit_xor` is the sum.
use Rattle.std.specs.Prelude.{ℕ, zero, suc, ◌+◌, ◌*◌, ◌%◌, ◌^◌, ◌==◌, true, false, bit_xor}
use Rattle.std.specs.Int.{bit_at}

-- the product of polynomials, over the lowest n coefficients of the first: the sum of x^i times the
-- second over the places i where the first has the coefficient 1
unfoldable pub product : ℕ → ℕ → ℕ → ℕ
product zero a b = 0
product (suc n) a b = bit_xor (product n a b) (bit_at a n * (b * 2 ^ n))

-- x^8 + x^4 + x^3 + x + 1
abbrev pub modulus : ℕ
modulus = 0x11b

-- the remainder, by long division, of a polynomial of degree below n + 8
unfoldable pub remainder : ℕ → ℕ → ℕ
remainder zero p = p
remainder (suc n) p = remainder n (bit_xor p (bit_at p (n + 8) * (modulus * 2 ^ n)))

-- the product of two bytes: that of the polynomials, modulo the polynomial above
unfoldable pub times : ℕ → ℕ → ℕ
times a b = remainder 7 (product 8 a b)

-- the greatest number below n whose product with a is 1, and 0 where there is none
unfoldable pub inverse_below : ℕ → ℕ → ℕ
inverse_below zero a = 0
inverse_below (suc n) a = elim (times a n == 1) as (λ _. ℕ) [ true ↦ n | false ↦ inverse_below n a ]

-- the inverse of a byte, and 0 for 0
unfoldable pub inverse : ℕ → ℕ
inverse a = inverse_below 256 a

-- the byte whose bit i is the sum, over two elements, that f i counts
unfoldable pub byte_of_sums : (ℕ → ℕ) → ℕ
byte_of_sums f =
    f 0 % 2 + 2 * (f 1 % 2) + 4 * (f 2 % 2) + 8 * (f 3 % 2) + 16 * (f 4 % 2) + 32 * (f 5 % 2)
    + 64 * (f 6 % 2) + 128 * (f 7 % 2)

-- the affine map of the S-box: bit i is the sum of the bits i, i + 4, i + 5, i + 6 and i + 7, at
-- places modulo 8, and of bit i of 63 hexadecimal (5.1.1)
unfoldable pub affine : ℕ → ℕ
affine b = byte_of_sums (λ i.
    bit_at b i + bit_at b ((i + 4) % 8) + bit_at b ((i + 5) % 8) + bit_at b ((i + 6) % 8)
    + bit_at b ((i + 7) % 8) + bit_at 0x63 i)

-- the S-box: the inverse, then the affine map (5.1.1)
unfoldable pub s_box : ℕ → ℕ
s_box b = affine (inverse b)

-- the inverse of the affine map: bit i is the sum of the bits i + 2, i + 5 and i + 7, at places
-- modulo 8, and of bit i of 05 hexadecimal
unfoldable pub inv_affine : ℕ → ℕ
inv_affine b = byte_of_sums (λ i.
    bit_at b ((i + 2) % 8) + bit_at b ((i + 5) % 8) + bit_at b ((i + 7) % 8) + bit_at 0x05 i)

-- the inverse S-box: the inverse affine map, then the inverse (5.3.2)
unfoldable pub inv_s_box : ℕ → ℕ
inv_s_box b = inverse (inv_affine b)
