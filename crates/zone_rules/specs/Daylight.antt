-- When daylight saving time is in force. Moments are seconds since the beginning of 1970 in GMT.
use Rattle.std.specs.Prelude.{ℕ, ℤ, pos, ◌+ℤ◌, ◌-ℤ◌, ◌*ℤ◌, ◌/◌, Bool, ◌&&◌, ◌||◌, int_le, int_lt, if◌then◌else◌, Option, Some, None}
use Rattle.jiff_core.specs.Calendar.{days_in_year}
use Rattle.jiff_tz.specs.Year.{year_of_day}
use Rattle.jiff_tz.specs.PosixRule.{match_some, clamp_to, first_day, rule_day, in_window, int_same}
use Rattle.zone_rules.specs.Zones.{Change, Daylight, Zone}

-- the year of GMT that the moment lies in
abbrev pub year_at : ℕ → ℤ
year_at t = year_of_day (pos (t / 86_400))

-- the first second of a year, and the first one after it
abbrev pub year_begin : ℤ → ℤ
year_begin year = first_day year *ℤ pos 86_400

abbrev pub year_end : ℤ → ℤ
year_end year = (first_day year +ℤ pos (days_in_year year)) *ℤ pos 86_400

-- When the change comes in a year, where the clock that it ends is so many seconds ahead of GMT. What would come before
-- the year or after it comes as the year begins or ends, and so does, at its end, what comes on a day that the year lacks.
unfoldable pub change_at : ℤ → Change → ℤ → ℤ
change_at year change ahead = match_some (rule_day year change.day) (year_end year) (λ day.
    clamp_to (year_begin year) (year_end year) (day *ℤ pos 86_400 +ℤ (change.time -ℤ ahead)))

-- Daylight saving time that begins as the year does, and stops when a clock of standard time shows another year, does not
-- stop in this year at all.
abbrev pub never_stops : ℤ → ℤ → ℤ → ℤ → Bool
never_stops standard year begins stops =
    int_same begins (year_begin year)
    && (int_lt (stops +ℤ standard) (year_begin year) || int_le (year_end year) (stops +ℤ standard))

-- the two moments of a year from the first of which on, and before the second of which, it is daylight saving time
abbrev pub from_and_to : ℤ → ℤ → ℤ → ℤ → ℤ × ℤ
from_and_to standard year begins stops = (begins, if never_stops standard year begins stops then year_end year else stops)

abbrev pub daylight_in : ℤ → Daylight → ℤ → ℤ × ℤ
daylight_in standard daylight year =
    from_and_to standard year (change_at year daylight.begins standard) (change_at year daylight.stops daylight.ahead)

-- Whether daylight saving time is in force: from where it begins in the year to where it stops. Where it stops first in the
-- year, as in the south, it is in force but from there to where it begins.
abbrev pub is_daylight : ℤ → Daylight → ℕ → Bool
is_daylight standard daylight t = in_window (daylight_in standard daylight (year_at t)) (pos t)

-- how many seconds local time is ahead of GMT
abbrev pub ahead_by : ℤ → Option Daylight → ℕ → ℤ
ahead_by standard None t = standard
ahead_by standard (Some daylight) t = if is_daylight standard daylight t then daylight.ahead else standard

abbrev pub ahead_at : Zone → ℕ → ℤ
ahead_at zone t = ahead_by zone.standard zone.daylight t
