-- What the hours of a week add up to.
use Rattle.std.specs.Prelude.{◌≡◌, ◌<◌, ◌≤◌, ◌+◌, ◌/◌, ◌%◌, ℕ, ℤ, true, false, List, MatchOption}
use Rattle.std.specs.List.{list_any}
use Rattle.jiff_core.specs.Calendar.{IsWithin}
use Rattle.arc_data.specs.LocalTime.{local_weekday, local_minute}
use Rattle.arc_data.specs.declared.window.Window.{Window}
use Rattle.alarm_rules.specs.FirstFrom.{first_from}
use Rattle.alarm_rules.specs.Weeks.{Week, holds, in_hours, is_closing, next_close, IsNextClose}
use Rattle.zone_rules.specs.Zones.{fixed_zone}

-- the seconds of a minute are all in hours, or none is
abbrev pub HoursAreMinutes : Type 0
HoursAreMinutes = (week : Week) (t u : ℕ) → t / 60 ≡ u / 60 → in_hours week t ≡ in_hours week u

-- hours close at the beginning of a minute
abbrev pub ClosesBeginMinutes : Type 0
ClosesBeginMinutes = (week : Week) (t : ℕ) → is_closing week t ≡ true → t % 60 ≡ 0

-- what is found minute by minute is the first closing moment of all seconds, and where none is found there is none within 60 days
abbrev pub NextCloseIsFirst : Type 0
NextCloseIsFirst = (week : Week) (after : ℕ)
    → MatchOption (next_close week after)
    ((t : ℕ) → after < t → t ≤ after + 5_184_000 → is_closing week t ≡ false) (IsNextClose week after)

-- the windows where local time is GMT plus so many minutes all the year
abbrev pub fixed_week : ℤ → List Window → Week
fixed_week minutes windows = record { zone = fixed_zone minutes; windows = windows }

-- There the hours are those of that offset, they come again each week, and so they close within a week or never.
pub record AreHoursOfOffset (minutes : ℤ) (windows : List Window) (t : ℕ) : Type 0 where
  pub hours : in_hours (fixed_week minutes windows) t ≡ list_any (holds (local_weekday t minutes) (local_minute t minutes)) windows
  pub repeat : in_hours (fixed_week minutes windows) (t + 604_800) ≡ in_hours (fixed_week minutes windows) t
  pub close : next_close (fixed_week minutes windows) t ≡ first_from (is_closing (fixed_week minutes windows)) (t + 1) 604_800

abbrev pub FixedZonesKeepHours : Type 0
FixedZonesKeepHours = (minutes : ℤ) (windows : List Window) (t : ℕ) → IsWithin 840 minutes → AreHoursOfOffset minutes windows t
