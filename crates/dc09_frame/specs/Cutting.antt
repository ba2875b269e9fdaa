-- What a cutter keeps of the stream that it was fed so far.
use Rattle.std.specs.Prelude.{◌≡◌, ℕ, ◌==◌, ◌||◌, ◌++◌, List, [], ◌∷◌, Bool, if◌then◌else◌, Option, Some, None, nat_lt, length, MatchOption}
use Rattle.std.specs.List.{list_any}
use Rattle.dc09_frame.specs.declared.limits.TheConstants.{PIECE_LIMIT}
use Rattle.dc09_frame.specs.declared.cut.Cut.{Cut}
use Rattle.dc09_frame.specs.declared.cut.Cut.TheVariants.{Whole, BadCheck, BadLength, TooLong}
use Rattle.dc09_frame.specs.Pieces.{pieces}
use Rattle.dc09_frame.specs.Frames.{IsBody, cut, body_of, bodies}

-- a line feed or a carriage return
abbrev pub is_end : ℕ → Bool
is_end b = (b == 10) || (b == 13)

-- the piece that the stream leaves open: what follows a line feed behind which neither stands again
abbrev pub open_piece : List ℕ → Option (List ℕ)
open_piece [] = None
open_piece (x ∷ xs) = if x == 10 then (if list_any is_end xs then open_piece xs else Some xs) else open_piece xs

-- what is kept of it: nothing outside of pieces, its bytes while they may still be a frame's, and otherwise only that it is too long
pub data Kept : Type 0 where
  Outside : Kept
  Within : (piece : List ℕ) → Kept
  Beyond : Kept

abbrev pub kept_of : Option (List ℕ) → Kept
kept_of None = Outside
kept_of (Some piece) = if nat_lt PIECE_LIMIT (length piece) then Beyond else Within piece

-- what is kept, and the body of the piece that was cut last, where it was whole
pub record CutterValue : Type 0 where
  pub kept : Kept
  pub body : List ℕ

-- the cutter was fed this stream
abbrev pub WasFed : List ℕ → CutterValue → Type 0
WasFed stream c = c.kept ≡ kept_of (open_piece stream)

-- The last of these bytes, a carriage return, ends this piece, and those before it end none.
pub record Ends (stream taken piece : List ℕ) : Type 0 where
  pub front : List ℕ
  pub last : taken ≡ front ++ 13 ∷ []
  pub none : pieces (stream ++ front) ≡ pieces stream
  pub one : pieces (stream ++ taken) ≡ pieces stream ++ piece ∷ []

-- After the stream the cutter took these bytes: they end no piece, or their last byte ends just one, of which it told the cut.
pub record Feeds (stream taken : List ℕ) (told : Option Cut) (c : CutterValue) : Type 0 where
  pub fed : WasFed (stream ++ taken) c
  pub pieces : MatchOption told (pieces (stream ++ taken) ≡ pieces stream) (λ t.
      (piece : List ℕ) × Ends stream taken piece × (cut piece ≡ t) × (t ≡ Whole → c.body ≡ body_of piece))

-- the body that a cut tells of, where the piece was whole
abbrev pub body_told : Option Cut → CutterValue → List (List ℕ)
body_told None c = []
body_told (Some Whole) c = c.body ∷ []
body_told (Some BadCheck) c = []
body_told (Some BadLength) c = []
body_told (Some TooLong) c = []

-- What was taken adds just the body that was told to the bodies of the stream, and that is a body.
pub record AddsBody (stream taken : List ℕ) (told : Option Cut) (c : CutterValue) : Type 0 where
  pub added : bodies (stream ++ taken) ≡ bodies stream ++ body_told told c
  pub is_body : told ≡ Some Whole → IsBody c.body

abbrev pub BodiesAreFed : Type 0
BodiesAreFed = (stream taken : List ℕ) (told : Option Cut) (c : CutterValue) → Feeds stream taken told c → AddsBody stream taken told c
