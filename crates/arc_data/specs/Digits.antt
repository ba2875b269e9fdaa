-- Digits and letters as bytes, and the numbers that digits spell.
use Rattle.std.specs.Prelude.{ℕ, ◌+◌, ◌-◌, ◌*◌, ◌/◌, ◌%◌, ◌^◌, ◌<◌, List, [], ◌∷◌, Bool, ◌&&◌, ◌||◌, ◌==◌}
use Rattle.std.specs.Prelude.{if◌then◌else◌, nat_le, length, map}
use Rattle.std.specs.Char.{to_ascii_uppercase}
use Rattle.std.specs.List.{list_all, AllByRecursion}

-- the byte stands between two others, both included
abbrev pub is_between : ℕ → ℕ → ℕ → Bool
is_between low high b = nat_le low b && nat_le b high

-- `0` to `9`
abbrev pub is_digit : ℕ → Bool
is_digit b = is_between 48 57 b

-- `0` to `9`, `A` to `F` and `a` to `f`
abbrev pub is_hex : ℕ → Bool
is_hex b = is_digit b || is_between 65 70 b || is_between 97 102 b

-- `0` to `9` and `A` to `F`
abbrev pub is_capital_hex : ℕ → Bool
is_capital_hex b = is_digit b || is_between 65 70 b

-- a byte of a name: a letter, a digit, `.`, `_` or `-`
abbrev pub is_name_byte : ℕ → Bool
is_name_byte b = is_between 65 90 b || is_between 97 122 b || is_digit b || (b == 46) || (b == 95) || (b == 45)

-- what a hexadecimal digit stands for
abbrev pub digit_value : ℕ → ℕ
digit_value b = if is_digit b then b - 48 else if is_between 65 70 b then b - 55 else b - 87

-- what hexadecimal digits spell: each digit times the power of 16 of its place
unfoldable pub hex_value : List ℕ → ℕ
hex_value [] = 0
hex_value (b ∷ bs) = digit_value b * 16 ^ length bs + hex_value bs

-- the bytes that pairs of hexadecimal digits spell; a last digit that has no pair spells nothing
unfoldable pub bytes_spelled : List ℕ → List ℕ
bytes_spelled [] = []
bytes_spelled (a ∷ []) = []
bytes_spelled (a ∷ b ∷ rest) = (digit_value a * 16 + digit_value b) ∷ bytes_spelled rest

-- what decimal digits spell
unfoldable pub dec_value : List ℕ → ℕ
dec_value [] = 0
dec_value (b ∷ bs) = (b - 48) * 10 ^ length bs + dec_value bs

-- a number below 100 in two decimal digits
abbrev pub two_digits : ℕ → List ℕ
two_digits n = (48 + n / 10) ∷ (48 + n % 10) ∷ []

-- the text in capitals
abbrev pub capitals : List ℕ → List ℕ
capitals text = map to_ascii_uppercase text

-- between so many and so many bytes that each pass the test
abbrev pub is_run : (ℕ → Bool) → ℕ → ℕ → List ℕ → Bool
is_run test low high text = is_between low high (length text) && list_all test text

-- a name of an operator or a keyholder: 1 to 16 such bytes
abbrev pub is_name : List ℕ → Bool
is_name text = is_run is_name_byte 1 16 text

-- an account: 3 to 16 hexadecimal digits, in either case
abbrev pub is_account : List ℕ → Bool
is_account text = is_run is_hex 3 16 text

-- each number is a byte
abbrev pub AreBytes : List ℕ → Type 0
AreBytes bytes = AllByRecursion (λ b. b < 256) bytes
