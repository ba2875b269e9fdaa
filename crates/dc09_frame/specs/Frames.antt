-- Frames (DC-09, the frame): a line feed, four check digits, the digit 0 and three digits of the body's length, the body, a
-- carriage return.
use Rattle.std.specs.Prelude.{◌≡◌, ℕ, ◌+◌, ◌/◌, ◌%◌, ◌≤◌, ◌==◌, ◌&&◌, ◌++◌, List, [], ◌∷◌, Bool, true, false, not, if◌then◌else◌}
use Rattle.std.specs.Prelude.{nat_lt, nat_le, length, take, drop, filter, map, slice_index}
use Rattle.std.specs.List.{list_all}
use Rattle.arc_data.specs.Digits.{is_hex, hex_value}
use Rattle.dc09_frame.specs.declared.limits.TheConstants.{BODY_LIMIT, PIECE_LIMIT}
use Rattle.dc09_frame.specs.declared.cut.Cut.{Cut}
use Rattle.dc09_frame.specs.declared.cut.Cut.TheVariants.{Whole, BadCheck, BadLength, TooLong}
use Rattle.dc09_frame.specs.Check.{check_of}
use Rattle.dc09_frame.specs.Pieces.{pieces}

-- a number below 16 as an upper-case digit
abbrev pub digit_of : ℕ → ℕ
digit_of n = if nat_lt n 10 then n + 48 else n + 55

-- a number below 65,536 as four upper-case hexadecimal digits, the highest first
abbrev pub four_digits : ℕ → List ℕ
four_digits n = digit_of (n / 4096 % 16) ∷ digit_of (n / 256 % 16) ∷ digit_of (n / 16 % 16) ∷ digit_of (n % 16) ∷ []

-- neither a line feed nor a carriage return
abbrev pub is_clean : ℕ → Bool
is_clean b = not (b == 10) && not (b == 13)

-- a body: 1 to 4,095 bytes, of which the first is a double quote and none a line feed or a carriage return
pub record IsBody (body : List ℕ) : Type 0 where
  pub some : 1 ≤ length body
  pub size : length body ≤ BODY_LIMIT
  pub quote : slice_index body 0 ≡ 34
  pub clean : list_all is_clean body ≡ true

-- what stands between the line feed and the carriage return of the body's frame
abbrev pub piece_of : List ℕ → List ℕ
piece_of body = four_digits (check_of body) ++ four_digits (length body) ++ body

-- what stands before a body in its frame: the line feed, the check and the length
abbrev pub head_of : ℕ → ℕ → List ℕ
head_of sum size = 10 ∷ four_digits sum ++ four_digits size

-- the frame of a body
unfoldable pub frame_of : List ℕ → List ℕ
frame_of body = 10 ∷ piece_of body ++ 13 ∷ []

-- four hexadecimal digits, in either case, spell a number
abbrev pub do_spell : List ℕ → ℕ → Bool
do_spell digits n = (length digits == 4) && list_all is_hex digits && (hex_value digits == n)

-- the body of a piece: what follows its first eight bytes
abbrev pub body_of : List ℕ → List ℕ
body_of piece = drop 8 piece

-- at least nine bytes, of which the fifth to the eighth are the digit 0 and three digits, which spell how many bytes
-- follow, and the ninth is a double quote
abbrev pub has_length : List ℕ → Bool
has_length piece =
    nat_le 9 (length piece) && (slice_index piece 4 == 48) && do_spell (take 4 (drop 4 piece)) (length (body_of piece))
    && (slice_index piece 8 == 34)

-- the first four bytes spell the check of the body
abbrev pub has_check : List ℕ → Bool
has_check piece = do_spell (take 4 piece) (check_of (body_of piece))

-- what a piece is: the first of these that holds
unfoldable pub cut : List ℕ → Cut
cut piece =
    if nat_lt PIECE_LIMIT (length piece) then TooLong
    else if not (has_length piece) then BadLength
    else if not (has_check piece) then BadCheck
    else Whole

abbrev pub is_whole : List ℕ → Bool
is_whole piece = elim (cut piece) [ Whole ↦ true | BadCheck ↦ false | BadLength ↦ false | TooLong ↦ false ]

-- the bodies of the whole pieces of a stream, in their order
abbrev pub bodies : List ℕ → List (List ℕ)
bodies stream = map body_of (filter is_whole (pieces stream))

-- A frame is cut as the one piece of its body, whatever follows it, and what follows is cut as it is alone.
pub record IsCutAgain (body : List ℕ) : Type 0 where
  pub whole : cut (piece_of body) ≡ Whole
  pub again : body_of (piece_of body) ≡ body
  pub first : (rest : List ℕ) → pieces (frame_of body ++ rest) ≡ piece_of body ∷ pieces rest

-- every body's frame
abbrev pub FramesAreCutAgain : Type 0
FramesAreCutAgain = (body : List ℕ) → IsBody body → IsCutAgain body
