-- The numbers by which the centre judges.
use Rattle.std.specs.Prelude.{ℕ}

-- of how many messages of an account one can be a repeat: the last recorded
abbrev pub messages_kept : ℕ
messages_kept = 32

-- for how many seconds behind a message an equal one is its repeat
abbrev pub repeat_seconds : ℕ
repeat_seconds = 300

-- how many seconds behind a closing moment an account that is still open closes late
abbrev pub late_seconds : ℕ
late_seconds = 900

-- how many rows a list has at most
abbrev pub rows_listed : ℕ
rows_listed = 16
