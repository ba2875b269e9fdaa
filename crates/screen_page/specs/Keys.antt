-- What the bytes of a terminal say: keys, and control sequences of ECMA-48, which are no keys.
use Rattle.std.specs.Prelude.{ℕ, ◌+◌, ◌==◌, ◌&&◌, ◌||◌, List, [], ◌∷◌, ◌++◌, Bool, not, Option, Some, None, nat_lt, nat_le, length}
use Rattle.std.specs.Prelude.{take, drop, if◌then◌else◌}
use Rattle.std.specs.List.{position}
use Rattle.std.specs.Option.{option_map}
use Rattle.arc_data.specs.Digits.{is_between}
use Rattle.desk_wire.specs.Names.{number_spelled}
use Rattle.screen_page.specs.declared.keys.Pressed.{Pressed}
use Rattle.screen_page.specs.declared.keys.Pressed.TheVariants.{Nothing, Key, Corner}

-- Whether a byte goes on with a sequence of which these bytes came. An escape begins one; `[` behind it goes on up to a byte from 64 to
-- 126, `O` to the next byte, and any other byte ends it.
abbrev pub goes_on : List ℕ → ℕ → Bool
goes_on [] byte = byte == 27
goes_on (escape ∷ []) byte = (byte == 91) || (byte == 79)
goes_on (escape ∷ second ∷ rest) byte = (second == 91) && not (is_between 64 126 byte)

-- the bytes of a sequence that has not ended, at most 16 of them
abbrev pub pending : List ℕ → ℕ → List ℕ
pending before byte = if goes_on before byte then (if nat_lt (length before) 16 then before ++ byte ∷ [] else before) else []

-- what stands before the first semicolon, and what behind it
abbrev pub parted : List ℕ → Option (List ℕ × List ℕ)
parted text = option_map (λ place. (take place text, drop (place + 1) text)) (position (λ b. b == 59) text)

-- so many rows and columns, of at most four digits each
abbrev pub sized : Option ℕ → Option ℕ → Pressed
sized None columns = Nothing
sized (Some rows) None = Nothing
sized (Some rows) (Some columns) = if nat_le rows 9999 && nat_le columns 9999 then Corner rows columns else Nothing

abbrev pub corner_of : Option (List ℕ × List ℕ) → Pressed
corner_of None = Nothing
corner_of (Some parts) = sized (number_spelled parts.0) (number_spelled parts.1)

-- What a byte says behind those of a sequence that has not ended. Outside of a sequence it is a key; `R` ends that of the cursor's place,
-- `ESC [ ROWS ; COLUMNS R`; no other sequence says anything.
abbrev pub pressed : List ℕ → ℕ → Pressed
pressed [] byte = if byte == 27 then Nothing else Key byte
pressed (escape ∷ []) byte = Nothing
pressed (escape ∷ second ∷ rest) byte = if (second == 91) && (byte == 82) then corner_of (parted rest) else Nothing

-- Where nothing came for a while, an escape alone is a key.
abbrev pub rested : List ℕ → Pressed
rested (escape ∷ []) = Key 27
rested other = Nothing
