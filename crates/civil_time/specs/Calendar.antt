-- The Gregorian calendar from 1 January 1970 on.
use Rattle.std.specs.Prelude.{ℕ, zero, suc, ◌+◌, ◌-◌, ◌%◌, ◌≤◌, Bool, not, ◌&&◌, ◌||◌, ◌==◌, nat_lt, if◌then◌else◌}

-- a year, a month from 1 to 12 and a day from 1
pub record CivilDate : Type 0 where
  pub year : ℕ
  pub month : ℕ
  pub day : ℕ

-- every fourth year, but of the centuries only every fourth
abbrev pub is_leap : ℕ → Bool
is_leap year = (year % 4 == 0) && (not (year % 100 == 0) || (year % 400 == 0))

-- the days of a year
abbrev pub year_length : ℕ → ℕ
year_length year = if is_leap year then 366 else 365

-- thirty days have September, April, June and November
abbrev pub month_length : ℕ → ℕ → ℕ
month_length year month =
    if month == 2 then (if is_leap year then 29 else 28)
    else (if (month == 4) || (month == 6) || (month == 9) || (month == 11) then 30 else 31)

-- the date of the next day: in the same month, or the first of the next month, or 1 January of the next year
abbrev pub next_date : CivilDate → CivilDate
next_date date =
    if nat_lt date.day (month_length date.year date.month) then record date { day = date.day + 1 }
    else (if nat_lt date.month 12 then record { year = date.year; month = date.month + 1; day = 1 }
    else record { year = date.year + 1; month = 1; day = 1 })

-- the date that many days after 1 January 1970
unfoldable pub date_of : ℕ → CivilDate
date_of zero = record { year = 1970; month = 1; day = 1 }
date_of (suc n) = next_date (date_of n)

-- the calendar has this date, and it is not before 1970
pub record IsCalendarDate (date : CivilDate) : Type 0 where
  pub from_1970 : 1970 ≤ date.year
  pub month_low : 1 ≤ date.month
  pub month_high : date.month ≤ 12
  pub day_low : 1 ≤ date.day
  pub day_high : date.day ≤ month_length date.year date.month

-- the days of the first n years from 1970 on
unfoldable pub days_of_years : ℕ → ℕ
days_of_years zero = 0
days_of_years (suc n) = days_of_years n + year_length (1970 + n)

-- the days of the first n months of a year
unfoldable pub days_of_months : ℕ → ℕ → ℕ
days_of_months year zero = 0
days_of_months year (suc n) = days_of_months year n + month_length year (suc n)

-- how many days lie between 1 January 1970 and a date: the days of the years before its year, of the months before
-- its month, and of the days before its day
abbrev pub day_number : CivilDate → ℕ
day_number date = days_of_years (date.year - 1970) + days_of_months date.year (date.month - 1) + (date.day - 1)
