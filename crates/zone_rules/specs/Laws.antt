-- What zones add up to.
use Rattle.std.specs.Prelude.{◌≡◌, ◌≢◌, ◌<◌, ◌≤◌, ◌+◌, ◌⊎◌, ℕ, ℤ, pos, ◌<ℤ◌, ◌≤ℤ◌, ◌↔◌, IsTrue}
use Rattle.arc_data.specs.LocalTime.{local_day, local_minute, local_weekday}
use Rattle.jiff_core.specs.Timestamp.{nanos_of_seconds}
use Rattle.jiff_tz.specs.declared.posix.TimeZone.{TimeZone}
use Rattle.jiff_tz.specs.PosixText.{tz_view}
use Rattle.jiff_tz.specs.PosixRule as jiff
use Rattle.zone_rules.specs.Zones.{Daylight, fixed_zone, zone_of_rule}
use Rattle.zone_rules.specs.Daylight.{year_at, year_begin, year_end, change_at, is_daylight, ahead_at}
use Rattle.zone_rules.specs.ZonedTime.{last_asked, zoned_day, zoned_minute, zoned_weekday}

-- local time in a fixed zone is GMT plus so many minutes
pub record IsLocalTime (minutes : ℤ) (t : ℕ) : Type 0 where
  pub day : zoned_day (fixed_zone minutes) t ≡ local_day t minutes
  pub minute : zoned_minute (fixed_zone minutes) t ≡ local_minute t minutes
  pub weekday : zoned_weekday (fixed_zone minutes) t ≡ local_weekday t minutes

abbrev pub FixedZonesAreOffsets : Type 0
FixedZonesAreOffsets = (minutes : ℤ) (t : ℕ) → IsLocalTime minutes t

-- a rule has at each second the offset that jiff gives for it
abbrev pub ZonesAreJiffs : Type 0
ZonesAreJiffs = (rule : TimeZone) (t : ℕ) → t ≤ last_asked
    → ahead_at (zone_of_rule (tz_view rule)) t ≡ (jiff.offset_at rule (nanos_of_seconds (pos t))).seconds

-- a moment lies in its year
abbrev pub MomentsHaveYears : Type 0
MomentsHaveYears = (t : ℕ) → t ≤ last_asked → (year_begin (year_at t) ≤ℤ pos t) × (pos t <ℤ year_end (year_at t))

-- From one second of a year to the next the clock changes only where daylight saving time begins or stops in this year.
abbrev pub ClocksChangeAtChanges : Type 0
ClocksChangeAtChanges = (standard : ℤ) (daylight : Daylight) (t : ℕ) → t < last_asked → year_at (t + 1) ≡ year_at t
    → is_daylight standard daylight (t + 1) ≢ is_daylight standard daylight t
    → (pos (t + 1) ≡ change_at (year_at t) daylight.begins standard) ⊎ (pos (t + 1) ≡ change_at (year_at t) daylight.stops daylight.ahead)

-- Daylight saving time that does not begin with the year itself is in force from where it begins to where it stops, as in the
-- north.
abbrev pub DaylightLasts : Type 0
DaylightLasts = (standard : ℤ) (daylight : Daylight) (t : ℕ)
    → year_begin (year_at t) <ℤ change_at (year_at t) daylight.begins standard
    → change_at (year_at t) daylight.begins standard ≤ℤ change_at (year_at t) daylight.stops daylight.ahead
    → IsTrue (is_daylight standard daylight t)
    ↔ ((change_at (year_at t) daylight.begins standard ≤ℤ pos t) × (pos t <ℤ change_at (year_at t) daylight.stops daylight.ahead))

-- And where it stops first, as in the south, it is in force from the beginning of the year to there, and from where it begins to the
-- year's end.
abbrev pub DaylightRunsOver : Type 0
DaylightRunsOver = (standard : ℤ) (daylight : Daylight) (t : ℕ)
    → year_begin (year_at t) <ℤ change_at (year_at t) daylight.begins standard
    → change_at (year_at t) daylight.stops daylight.ahead <ℤ change_at (year_at t) daylight.begins standard
    → IsTrue (is_daylight standard daylight t)
    ↔ ((pos t <ℤ change_at (year_at t) daylight.stops daylight.ahead) ⊎ (change_at (year_at t) daylight.begins standard ≤ℤ pos t))
