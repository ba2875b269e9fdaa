-- Dates and their day numbers, and how both are those of jiff.
use Rattle.std.proofs.Common.{◌≡◌, ℕ, zero, suc, ◌+◌, ◌-◌, ◌<◌, ◌≤◌, inl, inr, refl, sym, ap, subst, ◌∙◌, arith, pos, neg_ℤ, ◌+ℤ◌, ◌≤ℤ◌}
use Rattle.std.proofs.lemmas.Bool.{cases_lt}
use Rattle.std.proofs.lemmas.Bool.Decides.{nat_tests}
use Rattle.jiff_core.specs.declared.civil.date.Date.{Date}
use Rattle.jiff_core.specs.Calendar.{days_in_month, days_from_civil, day_count}
use Rattle.jiff_core.specs.Calendar as jiff
use Rattle.jiff_core.specs.Date.{epoch_day}
use Rattle.jiff_core.proofs.SignedLemmas.{signed_arith}
use Rattle.jiff_core.proofs.CalendarLemmas.{day_count-epoch, day_count-end, day_count-next_year, day_count-day_of_year, days_from_civil-day_count, days_in_month_bounds, days_of_months_all, day_count_bounds}
use Rattle.jiff_core.proofs.DateLemmas.{epoch_day_injective}
use Rattle.civil_time.specs.Calendar.{CivilDate, IsCalendarDate, month_length, year_length, next_date, date_of, days_of_years, days_of_months, day_number}

next_in_month : (date : CivilDate) → date.day < month_length date.year date.month → next_date date ≡ record { year = date.year; month = date.month; day = date.day + 1 }
next_in_month date h = grind (arith, nat_tests)

next_in_year : (date : CivilDate) → month_length date.year date.month ≤ date.day → date.month < 12 → next_date date ≡ record { year = date.year; month = date.month + 1; day = 1 }
next_in_year date h later = grind (arith, nat_tests)

next_in_next_year : (date : CivilDate) → month_length date.year date.month ≤ date.day → 12 ≤ date.month → next_date date ≡ record { year = date.year + 1; month = 1; day = 1 }
next_in_next_year date h last = grind (arith, nat_tests)

pub days_of_months-jiff : (year n : ℕ) → jiff.days_of_months (pos year) n ≡ days_of_months year n
unfolding days_of_months jiff.days_of_months
days_of_months-jiff year zero = refl
days_of_months-jiff year (suc n) = ap (λ k. k + month_length year (suc n)) (days_of_months-jiff year n)

days_of_months-zero : (year : ℕ) → days_of_months year 0 ≡ 0
unfolding days_of_months
days_of_months-zero year = refl

days_of_months_more : (year month : ℕ) → 1 ≤ month → days_of_months year month ≡ days_of_months year (month - 1) + month_length year month
unfolding days_of_months
days_of_months_more year zero low = absurd (omega arith)
days_of_months_more year (suc n) low = let back : suc n - 1 ≡ n = omega arith in rw back

days_of_years-suc : (n : ℕ) → days_of_years (suc n) ≡ days_of_years n + year_length (1970 + n)
unfolding days_of_years
days_of_years-suc n = refl

-- what is said of a date and of the next one
record Follows (date next : CivilDate) : Type 0 where
  is_date : IsCalendarDate next
  number : day_number next ≡ suc (day_number date)

next_date-follows : (date : CivilDate) → IsCalendarDate date → Follows date (next_date date)
next_date-follows date h =
    elim (cases_lt date.day (month_length date.year date.month)) [
      | inl within ↦ subst (Follows date) (sym (next_in_month date within)) (record {
        is_date = record { from_1970 = h.from_1970; month_low = h.month_low; month_high = h.month_high; day_low = omega arith; day_high = omega arith };
        number = omega (arith, h.day_low);
      })
      | inr past ↦ elim (cases_lt date.month 12) [
        | inl earlier ↦ subst (Follows date) (sym (next_in_year date past earlier)) (record {
          is_date = record { from_1970 = h.from_1970; month_low = omega arith; month_high = omega arith; day_low = omega arith; day_high = omega (arith, days_in_month_bounds (pos date.year) (date.month + 1)) };
          number = month_number date h past;
        })
        | inr last ↦ subst (Follows date) (sym (next_in_next_year date past last)) (record {
          is_date = record { from_1970 = omega (arith, h.from_1970); month_low = omega arith; month_high = omega arith; day_low = omega arith; day_high = omega (arith, days_in_month_bounds (pos (date.year + 1)) 1) };
          number = year_number date h past last;
        })
      ]
    ]
  where
    month_number : (date : CivilDate) → IsCalendarDate date → month_length date.year date.month ≤ date.day → day_number (record { year = date.year; month = date.month + 1; day = 1 }) ≡ suc (day_number date)
    month_number date h past =
        let back : date.month + 1 - 1 ≡ date.month = omega arith in
        rw back (omega (arith, h.day_low, h.day_high, days_of_months_more date.year date.month h.month_low))

    year_number : (date : CivilDate) → IsCalendarDate date → month_length date.year date.month ≤ date.day → 12 ≤ date.month → day_number (record { year = date.year + 1; month = 1; day = 1 }) ≡ suc (day_number date)
    year_number date h past last =
        let december : date.month ≡ 12 = omega (arith, h.month_high) in
        let all : days_of_months date.year 12 ≡ year_length date.year = sym (days_of_months-jiff date.year 12) ∙ days_of_months_all (pos date.year) in
        let back : date.year + 1 - 1970 ≡ suc (date.year - 1970) = omega (arith, h.from_1970) in
        let here : 1970 + (date.year - 1970) ≡ date.year = omega (arith, h.from_1970) in
        let years = rw here at (days_of_years-suc (date.year - 1970)) in
        let months = rw december at (days_of_months_more date.year date.month h.month_low) in
        let top : month_length date.year date.month ≡ date.day = omega (arith, h.day_high) in
        rw back (omega (arith, h.day_low, years, all, days_of_months-zero (date.year + 1), days_of_months_more date.year date.month h.month_low, ap (days_of_months date.year) december, top))

-- the date of a day number is in the calendar and has that number
date_of_follows : (n : ℕ) → IsCalendarDate (date_of n) × (day_number (date_of n) ≡ n)
unfolding date_of
date_of_follows zero = (record { from_1970 = omega arith; month_low = omega arith; month_high = omega arith; day_low = omega arith; day_high = omega arith }, unfold days_of_years in unfold days_of_months in refl)
date_of_follows (suc n) =
    let before = date_of_follows n in
    let next = next_date-follows (date_of n) before.0 in
    (next.is_date, next.number ∙ ap suc before.1)

pub date_of-is_date : (n : ℕ) → IsCalendarDate (date_of n)
date_of-is_date n = (date_of_follows n).0

pub day_number-date_of : (n : ℕ) → day_number (date_of n) ≡ n
day_number-date_of n = (date_of_follows n).1

-- the days from the first day that jiff counts to 1 January of a year
day_count-years : (n : ℕ) → day_count (pos (1970 + n)) 1 1 ≡ 4_371_953 + days_of_years n
day_count-years zero = unfold days_of_years in day_count-epoch
day_count-years (suc n) =
    let next : pos (1970 + suc n) ≡ pos (1970 + n) +ℤ pos 1 = omega (arith, signed_arith) in
    let low : neg_ℤ (pos 10000) ≤ℤ pos (1970 + n) = omega (arith, signed_arith) in
    omega (arith, day_count-years n, day_count-next_year (pos (1970 + n)) (pos (1970 + suc n)) low next, days_of_years-suc n)

day_count-day_number : (date : CivilDate) → IsCalendarDate date → day_count (pos date.year) date.month date.day ≡ 4_371_953 + day_number date
day_count-day_number date h =
    let here : 1970 + (date.year - 1970) ≡ date.year = omega (arith, h.from_1970) in
    let years = rw here at (day_count-years (date.year - 1970)) in
    omega (arith, h.day_low, years, day_count-day_of_year (pos date.year) date.month date.day h.day_low, days_of_months-jiff date.year (date.month - 1))

-- jiff gives a date the same number
pub days_from_civil-day_number : (date : CivilDate) → IsCalendarDate date → days_from_civil (pos date.year) date.month date.day ≡ pos (day_number date)
days_from_civil-day_number date h =
    omega (arith, signed_arith, days_from_civil-day_count (pos date.year) date.month date.day, day_count-day_number date h)

pub days_from_civil-date_of : (n : ℕ) → days_from_civil (pos (date_of n).year) (date_of n).month (date_of n).day ≡ pos n
days_from_civil-date_of n = days_from_civil-day_number (date_of n) (date_of-is_date n) ∙ ap pos (day_number-date_of n)

days_of_years-add : (n k : ℕ) → days_of_years n ≤ days_of_years (k + n)
days_of_years-add n zero = let same : 0 + n ≡ n = omega arith in rw same (omega arith)
days_of_years-add n (suc k) =
    let next : suc k + n ≡ suc (k + n) = omega arith in
    rw next (omega (arith, days_of_years-add n k, days_of_years-suc (k + n)))

-- the years from 1970 to 9999 have this many days
days_of_years-all : days_of_years 8030 ≡ 2_932_897
days_of_years-all = omega (arith, day_count-years 8030, day_count-end)

-- before that day the year has four digits
pub date_of-year : (n : ℕ) → n < 2_932_897 → (date_of n).year ≤ 9999
date_of-year n h =
    elim (cases_lt (date_of n).year 10_000) [
      | inl within ↦ omega arith
      | inr past ↦
          let years = days_of_years-add 8030 ((date_of n).year - 10_000) in
          let all : (date_of n).year - 10_000 + 8030 ≡ (date_of n).year - 1970 = omega arith in
          absurd (omega (arith, rw all at years, days_of_years-all, day_number-date_of n))
    ]

-- a date of the calendar, as jiff keeps it
abbrev pub jiff_date : (date : CivilDate) → IsCalendarDate date → date.year ≤ 9999 → Date
jiff_date date h year = record {
  year = pos date.year;
  month = date.month;
  day = date.day;
  year_in = omega (arith, signed_arith);
  month_in = (h.month_low, h.month_high);
  day_in = (h.day_low, h.day_high);
}

-- a date that jiff gives a day number from 1970 on is the date of that number
pub record SameDate (d : Date) (date : CivilDate) : Type 0 where
  pub year : d.year ≡ pos date.year
  pub month : d.month ≡ date.month
  pub day : d.day ≡ date.day

pub epoch_day-date_of : (d : Date) (n : ℕ) → n < 2_932_897 → epoch_day d ≡ pos n → SameDate d (date_of n)
epoch_day-date_of d n h e =
    let same = epoch_day_injective d (jiff_date (date_of n) (date_of-is_date n) (date_of-year n h)) (e ∙ sym (days_from_civil-date_of n)) in
    record { year = same.0; month = same.1; day = same.2 }

pub same_parts : (a b : CivilDate) → a.year ≡ b.year → a.month ≡ b.month → a.day ≡ b.day → a ≡ b
same_parts a b year month day = λ i. record { year = year i; month = month i; day = day i }

-- the dates through 9999 have the day numbers before that day
pub day_number-year : (date : CivilDate) → IsCalendarDate date → date.year ≤ 9999 → day_number date < 2_932_897
day_number-year date h year =
    let d = jiff_date date h year in
    omega (arith, day_count_bounds d.year d.month d.day (d.year_in, d.month_in, d.day_in), day_count-day_number date h)

-- each date of the calendar through 9999 is the date of its day number
pub date_of-day_number : (date : CivilDate) → IsCalendarDate date → date.year ≤ 9999 → date_of (day_number date) ≡ date
date_of-day_number date h year =
    let small = day_number-year date h year in
    let same = epoch_day-date_of (jiff_date date h year) (day_number date) small (days_from_civil-day_number date h) in
    same_parts _ _ (cc same.year) (sym same.month) (sym same.day)
