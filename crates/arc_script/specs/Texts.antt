-- The lines of a script's text that ask for something, with their numbers.
use Rattle.std.specs.Prelude.{◌≡◌, ◌≤◌, ◌+◌, ◌&&◌, ℕ, List, [], ◌∷◌, Bool, not, nat_le, filter, length}
use Rattle.script_lines.specs.Lines.{Asked, Time, Asks, is_skipped}
use Rattle.arc_script.specs.Steps.{Step}

-- how many bytes a line has at most
abbrev pub line_limit : ℕ
line_limit = 16384

-- each line with its number, from this one on
abbrev pub numbered_from : ℕ → List (List ℕ) → List (ℕ × List ℕ)
numbered_from n [] = []
numbered_from n (line ∷ lines) = (n, line) ∷ numbered_from (n + 1) lines

-- empty lines and remarks are skipped, but for those that are too long
abbrev pub is_passed : List ℕ → Bool
is_passed line = is_skipped line && nat_le (length line) line_limit

-- those that are not skipped, with their numbers from 1, skipped ones included
abbrev pub counted : List (List ℕ) → List (ℕ × List ℕ)
counted lines = filter (λ line. not (is_passed line.1)) (numbered_from 1 lines)

-- the first line is a `T`
abbrev pub MayFollow : List Asked → Asked → Type 0
MayFollow [] (Time moment) = Unit {0}
MayFollow [] asked = ⊥
MayFollow (first ∷ before) asked = Unit {0}

-- Behind what was asked before, the line asks for this. It has at most 16,384 bytes.
pub record IsPlayable (before : List Asked) (line : List ℕ) (asked : Asked) : Type 0 where
  pub short : length line ≤ line_limit
  pub asks : Asks line asked
  pub follows : MayFollow before asked

-- the steps are those of these lines, behind what was asked before
abbrev pub AreOf : List Asked → List (ℕ × List ℕ) → List Step → Type 0
AreOf before [] [] = Unit {0}
AreOf before (line ∷ lines) (s ∷ steps) = (s.number ≡ line.0) × IsPlayable before line.1 s.asked × AreOf (s.asked ∷ before) lines steps
AreOf before lines steps = ⊥
