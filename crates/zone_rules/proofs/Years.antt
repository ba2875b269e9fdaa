-- A moment lies in its year.
use Rattle.std.proofs.Common.{◌≡◌, ℕ, zero, suc, ◌+◌, ◌/◌, ◌<◌, ◌≤◌, ℤ, pos, ◌+ℤ◌, ◌-ℤ◌, ◌<ℤ◌, ◌≤ℤ◌, inl, inr, refl, sym, ap, ◌∙◌, arith, unsigned_abs}
use Rattle.std.proofs.lemmas.Bool.{cases_lt}
use Rattle.std.proofs.lemmas.Bool.Decides.{leb_tells}
use Rattle.std.specs.Int.{int_div_euclid}
use Rattle.jiff_core.specs.Calendar.{days_in_year, day_count, days_of_years}
use Rattle.jiff_core.proofs.CalendarLemmas.{day_count-end, days_from_civil-day_count, days_of_months-zero, days_in_year_bounds}
use Rattle.jiff_core.proofs.SignedLemmas.{signed_arith, one_part}
use Rattle.jiff_core.specs.Timestamp.{nanos_of_seconds}
use Rattle.jiff_tz.specs.Year.{years_within, year_of_day, year_of_nanos}
use Rattle.jiff_tz.specs.PosixRule.{first_day}
use Rattle.zone_rules.specs.Daylight.{year_at, year_begin, year_end}
use Rattle.zone_rules.specs.ZonedTime.{last_asked}

days_of_years-suc : (n : ℕ) → days_of_years (suc n) ≡ days_of_years n + days_in_year (pos n -ℤ pos 10000)
unfolding days_of_years
days_of_years-suc n = refl

-- the most years that fit do fit, and one more does not
years_within-fit : (n count : ℕ) → count < days_of_years (suc n)
    → (days_of_years (years_within n count) ≤ count) × (count < days_of_years (suc (years_within n count)))
unfolding years_within days_of_years
years_within-fit zero count less = (omega arith, less)
years_within-fit (suc n) count less = elim (leb_tells (days_of_years (suc n)) count) [
  | inl fits ↦ rw fits.0 (fits.1, less)
  | inr over ↦ rw over.0 (years_within-fit n count over.1)
]

-- the days before a year
day_count-january : (y : ℤ) → day_count y 1 1 ≡ days_of_years (unsigned_abs (y +ℤ pos 10000))
unfolding day_count
day_count-january y = omega (arith, days_of_months-zero y)

-- where it is the year n - 10000, that are the days of n years from the year -10000 on
day_count-years : (n : ℕ) → day_count (pos n -ℤ pos 10000) 1 1 ≡ days_of_years n
day_count-years n =
    let sign = one_part (pos n -ℤ pos 10000 +ℤ pos 10000) in
    let same : unsigned_abs (pos n -ℤ pos 10000 +ℤ pos 10000) ≡ n = omega (arith, signed_arith) in
    day_count-january (pos n -ℤ pos 10000) ∙ ap days_of_years same

-- 20,000 years have that many days
days_of_years-all : days_of_years 20000 ≡ 7_304_850
days_of_years-all = sym (day_count-years 20000) ∙ day_count-end

-- more years have more days
days_of_years-more : (a b : ℕ) → a ≤ b → days_of_years a ≤ days_of_years b
days_of_years-more a zero order =
    let same : a ≡ zero = omega arith in rw same (omega arith)
days_of_years-more a (suc b) order = elim (leb_tells a b) [
  | inl below ↦
      let earlier = days_of_years-more a b below.1 in
      let step = days_of_years-suc b in
      omega arith
  | inr above ↦
      let same : a ≡ suc b = omega arith in rw same (omega arith)
]

-- as many years as there are, or less
years_within-most : (n count : ℕ) → count < days_of_years n → years_within n count < n
unfolding years_within days_of_years
years_within-most zero count less = absurd (omega arith)
years_within-most (suc n) count less = elim (leb_tells (days_of_years (suc n)) count) [
  | inl fits ↦ absurd (omega (arith, fits.1))
  | inr over ↦ rw over.0 (elim (leb_tells (days_of_years n) count) [
    | inl here ↦ omega (arith, years_within-up n count)
    | inr past ↦ omega (arith, years_within-most n count past.1)
  ])
]
  where
    years_within-up : (n count : ℕ) → years_within n count ≤ n
    years_within-up zero count = omega arith
    years_within-up (suc n) count = elim (leb_tells (days_of_years (suc n)) count) [
      | inl fits ↦ rw fits.0 (omega arith)
      | inr over ↦ rw over.0 (omega (arith, years_within-up n count))
    ]

-- the day lies in the year that has it
pub day-in_year : (day : ℕ) → day < 2_932_897
    → (first_day (year_of_day (pos day)) ≤ℤ pos day) × (pos day <ℤ (first_day (year_of_day (pos day)) +ℤ pos (days_in_year (year_of_day (pos day)))))
day-in_year day small =
    let count = day + 4_371_953 in
    let n = years_within 20000 count in
    let all = days_of_years-all in
    let next = days_of_years-suc 20000 in
    let fit = years_within-fit 20000 count (omega arith) in
    let fits = fit.0 in
    let less = fit.1 in
    let more = days_of_years-suc n in
    let january = day_count-years n in
    let first = days_from_civil-day_count (pos n -ℤ pos 10000) 1 1 in
    (omega (arith, signed_arith), omega (arith, signed_arith))

-- which ends with 9999 at the latest
day-in_last_year : (day : ℕ) → day < 2_932_897
    → (first_day (year_of_day (pos day)) +ℤ pos (days_in_year (year_of_day (pos day)))) ≤ℤ pos 2_932_897
day-in_last_year day small =
    let count = day + 4_371_953 in
    let n = years_within 20000 count in
    let all = days_of_years-all in
    let most = years_within-most 20000 count (omega arith) in
    let next = days_of_years-more (suc n) 20000 (omega arith) in
    let more = days_of_years-suc n in
    let january = day_count-years n in
    let first = days_from_civil-day_count (pos n -ℤ pos 10000) 1 1 in
    omega (arith, signed_arith)

pub year-high : (t : ℕ) → t ≤ last_asked → year_end (year_at t) ≤ℤ pos 253_402_300_800
year-high t asked =
    let high = day-in_last_year (t / 86_400) (omega arith) in
    omega (arith, signed_arith)

-- so does the moment
pub moment-in_year : (t : ℕ) → t ≤ last_asked → (year_begin (year_at t) ≤ℤ pos t) × (pos t <ℤ year_end (year_at t))
moment-in_year t asked =
    let day = day-in_year (t / 86_400) (omega arith) in
    let low = day.0 in
    let high = day.1 in
    (omega (arith, signed_arith), omega (arith, signed_arith))

-- a year has at most 366 days
pub year-short : (y : ℤ) → year_end y ≤ℤ (year_begin y +ℤ pos 31_622_400)
year-short y =
    let short = (days_in_year_bounds y).0 in
    omega (arith, signed_arith)

-- and at least 365
pub year-long : (y : ℤ) → (year_begin y +ℤ pos 31_536_000) ≤ℤ year_end y
year-long y =
    let long = (days_in_year_bounds y).1 in
    omega (arith, signed_arith)

-- jiff has the same year
pub year-nanos : (t : ℕ) → year_of_nanos (nanos_of_seconds (pos t)) ≡ year_at t
year-nanos t =
    let same : int_div_euclid (nanos_of_seconds (pos t)) (pos 86_400_000_000_000) ≡ pos (t / 86_400) = omega (arith, signed_arith) in
    ap year_of_day same

-- a later moment before the end of the year lies in the same one
pub year-same : (t v : ℕ) → t ≤ v → v ≤ last_asked → pos v <ℤ year_end (year_at t) → year_at v ≡ year_at t
year-same t v order asked within =
    let n = years_within 20000 (t / 86_400 + 4_371_953) in
    let k = years_within 20000 (v / 86_400 + 4_371_953) in
    let all = days_of_years-all in
    let next = days_of_years-suc 20000 in
    let fit = years_within-fit 20000 (t / 86_400 + 4_371_953) (omega arith) in
    let fits = fit.0 in
    let later = years_within-fit 20000 (v / 86_400 + 4_371_953) (omega arith) in
    let later_fits = later.0 in
    let later_less = later.1 in
    let more = days_of_years-suc n in
    let january = day_count-years n in
    let first = days_from_civil-day_count (pos n -ℤ pos 10000) 1 1 in
    let before : v / 86_400 + 4_371_953 < days_of_years (suc n) = omega (arith, signed_arith) in
    ap (λ years. pos years -ℤ pos 10000) (same n k fits before later_fits later_less)
  where
    same : (n k : ℕ) → days_of_years n ≤ t / 86_400 + 4_371_953 → v / 86_400 + 4_371_953 < days_of_years (suc n)
        → days_of_years k ≤ v / 86_400 + 4_371_953 → v / 86_400 + 4_371_953 < days_of_years (suc k) → k ≡ n
    same n k low high least most = elim (cases_lt k n) [
      | inl below ↦ absurd (omega (arith, days_of_years-more (suc k) n (omega arith)))
      | inr above ↦ elim (cases_lt n k) [
        | inl beyond ↦ absurd (omega (arith, days_of_years-more (suc n) k (omega arith)))
        | inr here ↦ omega arith
      ]
    ]
