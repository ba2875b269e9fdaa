-- What lines and desks were fed since they were made anew, and the clock, by what was asked so far (the newest first).
use Rattle.std.specs.Prelude.{ℕ, ◌==◌, ◌++◌, List, [], ◌∷◌, if◌then◌else◌, Option, Some, None}
use Rattle.arc_data.specs.Digits.{bytes_spelled}
use Rattle.desk_session.specs.Events.{is_quit}
use Rattle.script_lines.specs.Lines.{Asked, Time, Feed, Message, Command, Reopen}

-- the moment that was set last
abbrev pub clock_of : List Asked → Option ℕ
clock_of [] = None
clock_of (Time moment ∷ before) = Some moment
clock_of (asked ∷ before) = clock_of before

-- the bytes that a line was fed since the script's beginning, the last `X`, and its own last `M`
abbrev pub line_fed : ℕ → List Asked → List ℕ
line_fed n [] = []
line_fed n (Feed line digits ∷ before) = if line == n then line_fed n before ++ bytes_spelled digits else line_fed n before
line_fed n (Message line body ∷ before) = if line == n then [] else line_fed n before
line_fed n (Reopen ∷ before) = []
line_fed n (asked ∷ before) = line_fed n before

-- the lines that a desk read since the script's beginning, the last `X`, and its own last `quit`
abbrev pub desk_read : ℕ → List Asked → List (List ℕ)
desk_read n [] = []
desk_read n (Command desk text ∷ before) =
    if desk == n then if is_quit text then [] else desk_read n before ++ text ∷ [] else desk_read n before
desk_read n (Reopen ∷ before) = []
desk_read n (asked ∷ before) = desk_read n before
