-- Texts that stand for numbers.
use Rattle.std.specs.Prelude.{ℕ, ◌==◌, List, [], ◌∷◌, Bool, true, false, if◌then◌else◌, Option, Some, None}
use Rattle.arc_data.specs.Digits.{is_hex, is_run, hex_value, digit_value}

-- a plus stands first, or a zero before another byte
abbrev pub has_needless_front : List ℕ → Bool
has_needless_front [] = false
has_needless_front (b ∷ []) = b == 43
has_needless_front (b ∷ c ∷ bs) = if b == 43 then true else b == 48

-- what a byte stands for as a hexadecimal digit, in either case
abbrev pub hex_digit_of : ℕ → Option ℕ
hex_digit_of b = if is_hex b then Some (digit_value b) else None

-- the number that four hexadecimal digits spell, and none for any other text
abbrev pub hex_word_of : List ℕ → Option ℕ
hex_word_of bytes = if is_run is_hex 4 4 bytes then Some (hex_value bytes) else None
