-- The names of the receiver's lines, which stand with the messages that come by them.
use Rattle.std.specs.Prelude.{◌++◌, ℕ, List, codes, decimal}

-- `l` and the line's number
abbrev pub line_name : ℕ → List ℕ
line_name line = codes "l" ++ decimal line
