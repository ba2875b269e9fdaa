-- What the readers of a header's parts give.
use Rattle.std.specs.Prelude.{◌≡◌, ℕ, Bool, Option, Some, None}
use Rattle.arc_data.specs.Digits.{is_digit, is_hex}
use Rattle.dc09_frame.specs.Headers.{is_token_byte}
use Rattle.dc09_frame.specs.declared.reading.Alphabet.{Alphabet}
use Rattle.dc09_frame.specs.declared.reading.Alphabet.TheVariants.{Token, Decimal, Hexadecimal}

-- the bytes of an alphabet
abbrev pub test_of : Alphabet → ℕ → Bool
test_of Token = is_token_byte
test_of Decimal = is_digit
test_of Hexadecimal = is_hex

-- what a function returned, seen by view, is what reading gives
abbrev pub Gives : {X Y : Type 0} → (X → Y) → Option X → Option Y → Type 0
Gives view None read = read ≡ None
Gives view (Some x) read = read ≡ Some (view x)
