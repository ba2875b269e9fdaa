-- What the definitions of this crate add up to.
use Rattle.std.specs.Prelude.{◌≡◌, ◌≢◌, ℕ, ◌↔◌, ◌+◌, ◌*◌, ◌/◌, ◌<◌, ◌≤◌, ℤ, pos, ◌+ℤ◌, ◌*ℤ◌, Some, List, length, All}
use Rattle.std.specs.Char.{IsAsciiGraphic}
use Rattle.zone_rules.specs.Zones.{Zone}
use Rattle.zone_rules.specs.ZonedTime.{zoned_seconds, zoned_day, zoned_minute, zoned_weekday}
use Rattle.civil_time.specs.Calendar.{CivilDate, date_of, day_number, IsCalendarDate}
use Rattle.civil_time.specs.Stamp.{IsMoment, IsStampOf, stamp, stamp_time}

-- the date of a day number is in the calendar, and so many days lie before it
abbrev pub DatesAreCounted : Type 0
DatesAreCounted = (n : ℕ) → IsCalendarDate (date_of n) × (day_number (date_of n) ≡ n)

-- each date of the calendar from 1970 to 9999 is the date of its day number
abbrev pub DatesAreReached : Type 0
DatesAreReached = (date : CivilDate) → IsCalendarDate date → date.year ≤ 9999 → date_of (day_number date) ≡ date

-- the moments are the seconds whose year has four digits
abbrev pub MomentsEnd : Type 0
MomentsEnd = (t : ℕ) → IsMoment t ↔ ((date_of (t / 86_400)).year ≤ 9999)

-- two different moments have different stamps
abbrev pub StampsDiffer : Type 0
StampsDiffer = (t u : ℕ) → IsMoment t → IsMoment u → t ≢ u → stamp t ≢ stamp u

-- the moment of a text is the one whose stamp it is
abbrev pub StampsAreRead : Type 0
StampsAreRead = (t : ℕ) (bytes : List ℕ) → (stamp_time bytes ≡ Some t) ↔ IsStampOf t bytes

-- a byte that is seen when it is printed, and no bar
abbrev pub IsStampByte : ℕ → Type 0
IsStampByte b = IsAsciiGraphic b × (b ≢ 124)

-- a stamp has 20 bytes, each seen when it is printed: no line feed, no carriage return, and no bar
abbrev pub StampsArePlain : Type 0
StampsArePlain = (t : ℕ) → IsMoment t → (length (stamp t) ≡ 20) × All IsStampByte (stamp t)

-- the seconds that the local clock is past the beginning of 1970 are whole days, minutes of a day and seconds of a minute, and the
-- days from Monday, 29 December 1969, are whole weeks and a day of the week
pub record AddsUp (zone : Zone) (t : ℕ) : Type 0 where
  pub second : ℕ
  pub second_in : second < 60
  pub minute_in : zoned_minute zone t < 1440
  pub seconds : zoned_day zone t *ℤ pos 86_400 +ℤ pos (zoned_minute zone t * 60 + second) ≡ zoned_seconds zone t
  pub week : ℤ
  pub weekday_in : zoned_weekday zone t < 7
  pub days : week *ℤ pos 7 +ℤ pos (zoned_weekday zone t) ≡ zoned_day zone t +ℤ pos 3

-- local time adds up to the minute of the moment and the zone's offset in it
abbrev pub LocalTimesAddUp : Type 0
LocalTimesAddUp = (zone : Zone) (t : ℕ) → AddsUp zone t
