-- The lines of a script: how each is spelled.
use Rattle.std.specs.Prelude.{◌≡◌, ◌≤◌, ◌++◌, ◌==◌, ◌%◌, ℕ, List, [], ◌∷◌, Bool, true, length, codes, decimal}
use Rattle.std.specs.List.{list_all}
use Rattle.arc_data.specs.Digits.{is_hex}
use Rattle.arc_data.specs.Moments.{IsMoment}
use Rattle.dc09_frame.specs.Frames.{IsBody}

-- What a line asks for: that the clock is set to a moment; that a line is fed the bytes that digits spell; that it is fed the frame of
-- a body, and is then made anew; that a text is a command of a desk; and that all is made anew over what the journal keeps.
pub data Asked : Type 0 where
  Time : (moment : ℕ) → Asked
  Feed : (line : ℕ) (digits : List ℕ) → Asked
  Message : (line : ℕ) (body : List ℕ) → Asked
  Command : (desk : ℕ) (text : List ℕ) → Asked
  Reopen : Asked

-- a number, one space, and what follows
abbrev pub numbered : ℕ → List ℕ → List ℕ
numbered n text = decimal n ++ 32 ∷ text

-- how it is spelled: its letter, and what belongs to it behind one space
abbrev pub spelling : Asked → List ℕ
spelling (Time moment) = codes "T " ++ decimal moment
spelling (Feed line digits) = codes "L " ++ numbered line digits
spelling (Message line body) = codes "M " ++ numbered line body
spelling (Command desk text) = codes "D " ++ numbered desk text
spelling Reopen = codes "X"

-- a number from 1 to the most
pub record IsNumber (most n : ℕ) : Type 0 where
  pub low : 1 ≤ n
  pub high : n ≤ most

-- hexadecimal digits, in either case, that spell one byte at least: an even number of them
pub record AreDigits (digits : List ℕ) : Type 0 where
  pub hex : list_all is_hex digits ≡ true
  pub some : 1 ≤ length digits
  pub even : length digits % 2 ≡ 0

-- The parts are in their ranges: a moment before the year 10000; a line from 1 to 16, and a desk from 1 to 8; digits of whole bytes;
-- the body of a frame; a text of at most 1,000 bytes.
abbrev pub IsAsked : Asked → Type 0
IsAsked (Time moment) = IsMoment moment
IsAsked (Feed line digits) = IsNumber 16 line × AreDigits digits
IsAsked (Message line body) = IsNumber 16 line × IsBody body
IsAsked (Command desk text) = IsNumber 8 desk × (length text ≤ 1000)
IsAsked Reopen = Unit {0}

-- the line asks for this
pub record Asks (line : List ℕ) (a : Asked) : Type 0 where
  pub spelled : line ≡ spelling a
  pub ranges : IsAsked a

-- No line asks for two things.
abbrev pub HasOneMeaning : Type 0
HasOneMeaning = (line : List ℕ) (a other : Asked) → Asks line a → Asks line other → a ≡ other

-- empty lines, and those that begin with `#`, are skipped
abbrev pub is_skipped : List ℕ → Bool
is_skipped [] = true
is_skipped (b ∷ bs) = b == 35
