-- What a cutter's fields keep of the open piece.
use Rattle.std.specs.Prelude.{◌≡◌, ◌≤◌, ℕ, List, [], false, Option, Some, None, take, drop}
use Rattle.std.specs.List.{list_any}
use Rattle.dc09_frame.specs.declared.limits.TheConstants.{PIECE_LIMIT}
use Rattle.dc09_frame.specs.declared.cut.Cut.{Cut}
use Rattle.dc09_frame.specs.declared.cut.Cut.TheVariants.{TooLong}
use Rattle.dc09_frame.specs.Frames.{cut}
use Rattle.dc09_frame.specs.Cutting.{Kept, Outside, Within, Beyond, is_end}
use Rattle.dc09_frame.specs.declared.cutter.Piece.{Piece}
use Rattle.dc09_frame.specs.declared.cutter.Piece.TheVariants.{Closed, Open, Overlong}

-- the first bytes of the buffer are the open piece
abbrev pub kept_in : Piece → ℕ → List ℕ → Kept
kept_in Closed len bytes = Outside
kept_in Open len bytes = Within (take len bytes)
kept_in Overlong len bytes = Beyond

-- once the piece is closed, what follows its first eight bytes
abbrev pub body_in : Piece → ℕ → List ℕ → List ℕ
body_in Closed len bytes = drop 8 (take len bytes)
body_in Open len bytes = []
body_in Overlong len bytes = []

-- the cut of the open piece, if there is one
abbrev pub cut_of_kept : Kept → Option Cut
cut_of_kept Outside = None
cut_of_kept (Within piece) = Some (cut piece)
cut_of_kept Beyond = Some TooLong

-- the first bytes of the buffer fit in it and have no end
pub record IsHeld (len : ℕ) (bytes : List ℕ) : Type 0 where
  pub short : len ≤ PIECE_LIMIT
  pub clear : list_any is_end (take len bytes) ≡ false
