-- Time zones: how far local time is ahead of GMT, and when daylight saving time changes that. A text names one as POSIX's
-- variable TZ does: `CET-1CEST,M3.5.0,M10.5.0/3`.
use Rattle.std.specs.Prelude.{ℕ, ℤ, pos, ◌*ℤ◌, List, Option, None, option_map}
use Rattle.jiff_tz.specs.declared.posix.Day.{Day}
use Rattle.jiff_tz.specs.PosixText.{DstText, TzText}
use Rattle.jiff_tz.specs.PosixReader.{read_whole}

-- A change, which comes once a year: its day, and how many seconds after the midnight that begins this day, on the clock
-- that it ends. A day is `Mm.w.d`, the weekday d of the week w of a month, where week 5 is the last; `Jn`, which never counts
-- 29 February; or `n`, which counts it, from 0 on.
pub record Change : Type 0 where
  pub day : Day
  pub time : ℤ

-- daylight saving time: how many seconds local time is then ahead of GMT, and when it begins and stops each year
pub record Daylight : Type 0 where
  pub ahead : ℤ
  pub begins : Change
  pub stops : Change

-- a zone: how many seconds standard time is ahead of GMT, and its daylight saving time, where it has one
pub record Zone : Type 0 where
  pub standard : ℤ
  pub daylight : Option Daylight

-- the zone in which local time is GMT plus so many minutes, all the year
abbrev pub fixed_zone : ℤ → Zone
fixed_zone minutes = record { standard = minutes *ℤ pos 60; daylight = None }

-- what a rule says, but for its names
abbrev pub change_of : Day × ℤ → Change
change_of change = record { day = change.0; time = change.1 }

abbrev pub daylight_of : DstText → Daylight
daylight_of rule = record { ahead = rule.seconds; begins = change_of rule.start; stops = change_of rule.finish }

abbrev pub zone_of_rule : TzText → Zone
zone_of_rule rule = record { standard = rule.std_seconds; daylight = option_map daylight_of rule.dst }

-- The zone that a text names: a name and the hours that standard time is behind GMT, and then, where there is daylight
-- saving time, its name, perhaps its own hours, and when it begins and stops. None where the whole text is no such rule.
abbrev pub zone_of : List ℕ → Option Zone
zone_of text = option_map zone_of_rule (read_whole text)
