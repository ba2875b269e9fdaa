-- What a line cutter keeps of the stream that it was fed so far, and what it tells.
use Rattle.std.specs.Prelude.{◌≡◌, ℕ, ◌++◌, List, [], ◌∷◌, if◌then◌else◌, Option, nat_le, length, take, drop, MatchOption}
use Rattle.std.specs.Str.{bytes_eq}
use Rattle.std.specs.Str.Lines.{lines}
use Rattle.arc_text.specs.declared.line_cut.LineCut.{LineCut}
use Rattle.arc_text.specs.declared.line_cut.LineCut.TheVariants.{Whole, TooLong}
use Rattle.arc_text.specs.Lines.{ended_lines, rest_of}

-- what is kept of the line that is open: its bytes while they are within the limit; where it is at the limit and one carriage return
-- stands behind, the bytes before that; and otherwise only that it is too long
pub data Kept : Type 0 where
  Within : (line : List ℕ) → Kept
  Full : (line : List ℕ) → Kept
  Beyond : Kept

abbrev pub kept_of : ℕ → List ℕ → Kept
kept_of limit line =
    if nat_le (length line) limit then Within line
    else if bytes_eq (drop limit line) (13 ∷ []) then Full (take limit line)
    else Beyond

-- the limit, what is kept, and the line that was told last, where it was not too long
pub record LineCutterValue : Type 0 where
  pub limit : ℕ
  pub kept : Kept
  pub line : List ℕ

-- the cutter was fed this stream
abbrev pub WasFed : List ℕ → LineCutterValue → Type 0
WasFed stream c = c.kept ≡ kept_of c.limit (rest_of stream)

-- a line of more bytes than the limit is too long
abbrev pub cut_of : ℕ → List ℕ → LineCut
cut_of limit line = if nat_le (length line) limit then Whole else TooLong

-- nothing is given of a line that is too long
abbrev pub line_of : LineCut → List ℕ → List ℕ
line_of Whole line = line
line_of TooLong line = []

-- of this line the cutter told the cut, and it has the line
pub record TellsLine (line : List ℕ) (told : LineCut) (c : LineCutterValue) : Type 0 where
  pub cut : told ≡ cut_of c.limit line
  pub kept : c.line ≡ line_of told line

-- The last of these bytes, a line feed, ends this line, and those before it end none.
pub record EndsLine (stream taken line : List ℕ) : Type 0 where
  pub front : List ℕ
  pub last : taken ≡ front ++ 10 ∷ []
  pub none : ended_lines (stream ++ front) ≡ ended_lines stream
  pub one : ended_lines (stream ++ taken) ≡ ended_lines stream ++ line ∷ []

-- After the stream the cutter took these bytes: they end no line, or their last byte ends just one, which it told.
pub record Feeds (stream taken : List ℕ) (told : Option LineCut) (c : LineCutterValue) : Type 0 where
  pub fed : WasFed (stream ++ taken) c
  pub lines : MatchOption told (ended_lines (stream ++ taken) ≡ ended_lines stream)
      (λ t. (line : List ℕ) × EndsLine stream taken line × TellsLine line t c)

-- After the stream its end came: a line feed ends all its lines, or all but one more, which the cutter told. Another stream may begin.
pub record Finishes (stream : List ℕ) (told : Option LineCut) (c : LineCutterValue) : Type 0 where
  pub fed : WasFed [] c
  pub lines : MatchOption told (lines stream ≡ ended_lines stream)
      (λ t. (line : List ℕ) × (lines stream ≡ ended_lines stream ++ line ∷ []) × TellsLine line t c)
