-- The date and the time of a moment, as a book writes them.
use Rattle.std.specs.Prelude.{ℕ, ◌/◌, ◌%◌, ◌++◌, List, codes}
use Rattle.civil_time.specs.Calendar.{CivilDate, date_of}
use Rattle.civil_time.specs.Stamp.{two_digits, four_digits}

-- `2026-11-28`
abbrev pub date_text : CivilDate → List ℕ
date_text date = four_digits date.year ++ codes "-" ++ two_digits date.month ++ codes "-" ++ two_digits date.day

-- `18:19:00`, of a number of seconds: a day has 86,400 of them, an hour 3,600 and a minute 60
abbrev pub time_text : ℕ → List ℕ
time_text t = two_digits (t / 3600 % 24) ++ codes ":" ++ two_digits (t / 60 % 60) ++ codes ":" ++ two_digits (t % 60)

-- the date, a space and the time of a moment in GMT
unfoldable pub date_time : ℕ → List ℕ
date_time t = date_text (date_of (t / 86_400)) ++ codes " " ++ time_text t
