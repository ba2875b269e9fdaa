-- The daylight saving time of a rule is that of jiff.
use Rattle.std.specs.Prelude.{int_le, int_lt, Bool, ◌&&◌, ◌||◌, if◌then◌else◌, Option, Some, None, option_map}
use Rattle.std.proofs.Common.{◌≡◌, ℕ, ◌≤◌, ℤ, pos, ◌+ℤ◌, ◌-ℤ◌, ◌*ℤ◌, ◌<ℤ◌, ◌≤ℤ◌, true, false, inl, inr, refl, ◌∙◌, arith}
use Rattle.std.proofs.lemmas.Bool.{cases_Bool, cond-true, cond-false}
use Rattle.jiff_core.proofs.SignedLemmas.{signed_arith}
use Rattle.jiff_core.specs.Calendar.{days_in_year, IsWithin}
use Rattle.jiff_core.specs.Timestamp.{nanos_of_seconds}
use Rattle.jiff_core.specs.declared.Offset.{Offset}
use Rattle.jiff_tz.specs.declared.posix.DayTime.{DayTime}
use Rattle.jiff_tz.specs.declared.posix.Dst.{Dst}
use Rattle.jiff_tz.specs.declared.posix.TimeZone.{TimeZone}
use Rattle.jiff_tz.specs.PosixText.{day_time_view, dst_view, tz_view}
use Rattle.jiff_tz.specs.PosixRule.{match_some, rule_day, rule_nanos, utc_window, clamp_to, in_window, int_same, nanos_per_day, first_day, civil_min, civil_max, saturating_add, dst_at_by, offset_at}
use Rattle.zone_rules.specs.Zones.{change_of, daylight_of, zone_of_rule}
use Rattle.zone_rules.specs.Daylight.{year_at, year_begin, year_end, change_at, daylight_in, ahead_by, ahead_at}
use Rattle.zone_rules.specs.ZonedTime.{last_asked}
use Rattle.zone_rules.proofs.Nanos.{Told, clamp-tells, lt_tells, lt-is_true, lt-is_false, le-is_true, le-is_false, same_window}
use Rattle.zone_rules.proofs.Years.{moment-in_year, year-high, year-short, year-long, year-nanos}

-- where a number that is kept between two others goes
clamp-low : (low high z : ℤ) → z <ℤ low → clamp_to low high z ≡ low
clamp-low low high z below = cond-true (int_lt z low) _ _ (lt-is_true z low below)

clamp-mid : (low high z : ℤ) → low ≤ℤ z → z ≤ℤ high → clamp_to low high z ≡ z
clamp-mid low high z above below =
    cond-false (int_lt z low) _ _ (lt-is_false z low above) ∙ cond-false (int_lt high z) _ _ (lt-is_false high z below)

clamp-high : (low high z : ℤ) → low ≤ℤ z → high <ℤ z → clamp_to low high z ≡ high
clamp-high low high z above beyond =
    cond-false (int_lt z low) _ _ (lt-is_false z low above) ∙ cond-true (int_lt high z) _ _ (lt-is_true high z beyond)

clamp-top : (low high z : ℤ) → low ≤ℤ high → high ≤ℤ z → clamp_to low high z ≡ high
clamp-top low high z order above =
    elim (lt_tells high z) [
      | inl beyond ↦ clamp-high low high z (omega (arith, signed_arith)) beyond.1
      | inr here ↦
          let most = here.1 in
          let same : z ≡ high = omega (arith, signed_arith) in
          clamp-mid low high z (omega (arith, signed_arith)) most ∙ same
    ]

-- a change in nanoseconds and in seconds, where its day is known or not
told-by : (day : Option ℤ) (first count time : ℤ) → first <ℤ count
    → Told (count *ℤ pos 86_400)
    (match_some day (count *ℤ nanos_per_day -ℤ pos 1) (λ d. clamp_to (first *ℤ nanos_per_day) (count *ℤ nanos_per_day -ℤ pos 1) (d *ℤ nanos_per_day +ℤ nanos_of_seconds time)))
    (match_some day (count *ℤ pos 86_400) (λ d. clamp_to (first *ℤ pos 86_400) (count *ℤ pos 86_400) (d *ℤ pos 86_400 +ℤ time)))
told-by None first count time order = inr (refl, omega (arith, signed_arith))
told-by (Some d) first count time order =
    let begin = first *ℤ pos 86_400 in
    let end = count *ℤ pos 86_400 in
    let at = d *ℤ pos 86_400 +ℤ time in
    let first_nano = first *ℤ nanos_per_day in
    let last_nano = count *ℤ nanos_per_day -ℤ pos 1 in
    let at_nano = d *ℤ nanos_per_day +ℤ nanos_of_seconds time in
    elim (lt_tells at begin) [
      | inl low ↦
          let below = low.1 in
          let in_nanos = clamp-low first_nano last_nano at_nano (omega (arith, signed_arith)) in
          let in_seconds = clamp-low begin end at below in
          rw (in_nanos, in_seconds) (inl (omega (arith, signed_arith), omega (arith, signed_arith)))
      | inr above ↦
          let least = above.1 in
          elim (lt_tells at end) [
            | inl within ↦
                let less = within.1 in
                let in_nanos = clamp-mid first_nano last_nano at_nano (omega (arith, signed_arith)) (omega (arith, signed_arith)) in
                let in_seconds = clamp-mid begin end at least (omega (arith, signed_arith)) in
                rw (in_nanos, in_seconds) (inl (less, omega (arith, signed_arith)))
            | inr beyond ↦
                let most = beyond.1 in
                let in_nanos = clamp-high first_nano last_nano at_nano (omega (arith, signed_arith)) (omega (arith, signed_arith)) in
                let in_seconds = clamp-top begin end at (omega (arith, signed_arith)) most in
                rw (in_nanos, in_seconds) (inr (refl, omega (arith, signed_arith)))
          ]
    ]

low-by : (day : Option ℤ) (begin end time : ℤ) → begin ≤ℤ end → begin ≤ℤ match_some day end (λ d. clamp_to begin end (d *ℤ pos 86_400 +ℤ time))
low-by None begin end time order = order
low-by (Some d) begin end time order =
    elim (clamp-tells begin end (d *ℤ pos 86_400 +ℤ time)) [
      | inl low ↦ rw low.1 (omega (arith, signed_arith))
      | inr rest ↦ elim rest [
        | inl high ↦ rw high.1 order
        | inr within ↦ rw within.2 within.0
      ]
    ]

year-order : (y : ℤ) → year_begin y ≤ℤ year_end y
year-order y =
    let long = year-long y in
    omega (arith, signed_arith)

days-order : (y : ℤ) → first_day y <ℤ (first_day y +ℤ pos (days_in_year y))
days-order y =
    let long = year-long y in
    omega (arith, signed_arith)

-- so is a change of a year, which is never before it
change-told : (y : ℤ) (c : DayTime) (ahead : ℤ) → Told (year_end y) (rule_nanos y c ahead) (change_at y (change_of (day_time_view c)) ahead)
unfolding rule_nanos change_at
change-told y c ahead = told-by (rule_day y c.date) (first_day y) (first_day y +ℤ pos (days_in_year y)) (c.time -ℤ ahead) (days-order y)

change-low : (y : ℤ) (c : DayTime) (ahead : ℤ) → year_begin y ≤ℤ change_at y (change_of (day_time_view c)) ahead
unfolding change_at
change-low y c ahead = low-by (rule_day y c.date) (year_begin y) (year_end y) (c.time -ℤ ahead) (year-order y)

-- tests that are put together

or-right : (a : Bool) → (a || true) ≡ true
or-right true = refl
or-right false = refl

and-false : (a : Bool) → (a && false) ≡ false
and-false true = refl
and-false false = refl

same-true : (a b : ℤ) → a ≡ b → int_same a b ≡ true
same-true a b same = rw same (rw (le-is_true b b (omega (arith, signed_arith))) refl)

same-false : (a b : ℤ) → b <ℤ a → int_same a b ≡ false
same-false a b more = rw (le-is_false a b more) refl

holds-left : (a b : ℤ) (p q : Bool) → a ≡ b → p ≡ true → (int_same a b && (p || q)) ≡ true
holds-left a b p q same here = rw (same-true a b same, here) refl

holds-right : (a b : ℤ) (p q : Bool) → a ≡ b → q ≡ true → (int_same a b && (p || q)) ≡ true
holds-right a b p q same here = rw (same-true a b same, here) (or-right p)

pub fails-first : (a b : ℤ) (p q : Bool) → b <ℤ a → (int_same a b && (p || q)) ≡ false
fails-first a b p q more = rw (same-false a b more) refl

fails-both : (a b : ℤ) (p q : Bool) → p ≡ false → q ≡ false → (int_same a b && (p || q)) ≡ false
fails-both a b p q left right = rw (left, right) (and-false (int_same a b))

-- far from where it would stop daylight saving time goes on all the same
far-window : (s u v : ℤ) (t : ℕ) → s ≤ℤ u → s ≤ℤ v → pos t <ℤ u → pos t <ℤ v → in_window (s, u) (pos t) ≡ in_window (s, v) (pos t)
far-window s u v t a b c d =
    rw (le-is_true s u a, le-is_true s v b, lt-is_true (pos t) u c, lt-is_true (pos t) v d) refl

-- the numbers of a year in which a moment lies
record IsYearOf (first count : ℤ) (t : ℕ) : Type 0 where
  long : (first *ℤ pos 86_400 +ℤ pos 31_536_000) ≤ℤ (count *ℤ pos 86_400)
  short : (count *ℤ pos 86_400) ≤ℤ (first *ℤ pos 86_400 +ℤ pos 31_622_400)
  high : (count *ℤ pos 86_400) ≤ℤ pos 253_402_300_800
  later : pos t <ℤ (count *ℤ pos 86_400)
  asked : t ≤ 253_402_207_200

-- that daylight saving time does not stop in a year, by nanoseconds and by seconds
abbrev nanos_say : ℤ → ℤ → ℤ → ℤ → ℤ → Bool
nanos_say first count n m std =
    int_same n (first *ℤ nanos_per_day)
    && (int_lt (saturating_add m (nanos_of_seconds std)) (first *ℤ nanos_per_day)
    || int_lt (count *ℤ nanos_per_day -ℤ pos 1) (saturating_add m (nanos_of_seconds std)))

abbrev seconds_say : ℤ → ℤ → ℤ → ℤ → ℤ → Bool
seconds_say first count s u std =
    int_same s (first *ℤ pos 86_400)
    && (int_lt (u +ℤ std) (first *ℤ pos 86_400) || int_le (count *ℤ pos 86_400) (u +ℤ std))

-- the window in nanoseconds and in seconds
abbrev Agree : ℤ → ℤ → ℤ → ℤ → ℤ → ℤ → ℤ → ℕ → Type 0
Agree first count n s m u std t =
    in_window (if nanos_say first count n m std then (n, count *ℤ nanos_per_day -ℤ pos 1) else (n, m)) (nanos_of_seconds (pos t))
    ≡ in_window (s, if seconds_say first count s u std then count *ℤ pos 86_400 else u) (pos t)

-- what is given of both
record AreTold (first count n s m u std : ℤ) (t : ℕ) : Type 0 where
  year : IsYearOf first count t
  near : IsWithin 93_599 std
  start : Told (count *ℤ pos 86_400) n s
  stop : Told (count *ℤ pos 86_400) m u
  low : (first *ℤ pos 86_400) ≤ℤ s
  least : (first *ℤ pos 86_400) ≤ℤ u

last-told : (count : ℤ) → Told (count *ℤ pos 86_400) (count *ℤ nanos_per_day -ℤ pos 1) (count *ℤ pos 86_400)
last-told count = inr (refl, omega (arith, signed_arith))

agree-both : (first count n s m u std : ℤ) (t : ℕ) → AreTold first count n s m u std t
    → nanos_say first count n m std ≡ true → seconds_say first count s u std ≡ true → Agree first count n s m u std t
agree-both first count n s m u std t told a b =
    rw (a, b) (same_window (count *ℤ pos 86_400) n s (count *ℤ nanos_per_day -ℤ pos 1) (count *ℤ pos 86_400) t told.start (last-told count))

agree-none : (first count n s m u std : ℤ) (t : ℕ) → AreTold first count n s m u std t
    → nanos_say first count n m std ≡ false → seconds_say first count s u std ≡ false → Agree first count n s m u std t
agree-none first count n s m u std t told a b = rw (a, b) (same_window (count *ℤ pos 86_400) n s m u t told.start told.stop)

-- where it does not begin with the year
agree-later : (first count n s m u std : ℤ) (t : ℕ) → AreTold first count n s m u std t → (first *ℤ pos 86_400) <ℤ s → Agree first count n s m u std t
agree-later first count n s m u std t told later =
    let long = told.year.long in
    agree-none first count n s m u std t told
    (fails-first n (first *ℤ nanos_per_day) (int_lt (saturating_add m (nanos_of_seconds std)) (first *ℤ nanos_per_day)) (int_lt (count *ℤ nanos_per_day -ℤ pos 1) (saturating_add m (nanos_of_seconds std))) (elim told.start [
      | inl whole ↦ let at = whole.1 in omega (arith, signed_arith)
      | inr last ↦ let at = last.1 in omega (arith, signed_arith)
    ]))
    (fails-first s (first *ℤ pos 86_400) (int_lt (u +ℤ std) (first *ℤ pos 86_400)) (int_le (count *ℤ pos 86_400) (u +ℤ std)) later)

-- where it does, and stops in the year before, by a clock of standard time
start-nanos : (first count n s m u std : ℤ) (t : ℕ) → AreTold first count n s m u std t → s ≡ first *ℤ pos 86_400 → n ≡ first *ℤ nanos_per_day
start-nanos first count n s m u std t told same =
    let long = told.year.long in
    elim told.start [
      | inl whole ↦ let at = whole.1 in omega (arith, signed_arith)
      | inr last ↦ let here = last.0 in absurd (omega (arith, signed_arith))
    ]

agree-before : (first count n s m u std : ℤ) (t : ℕ) → AreTold first count n s m u std t → s ≡ first *ℤ pos 86_400
    → (u +ℤ std) <ℤ (first *ℤ pos 86_400) → Agree first count n s m u std t
agree-before first count n s m u std t told same before =
    let long = told.year.long in
    let short = told.year.short in
    let high = told.year.high in
    let later = told.year.later in
    let least = told.least in
    let near_low = told.near.0 in
    elim told.stop [
      | inl whole ↦
          let at = whole.1 in
          let kept = clamp-mid civil_min civil_max (m +ℤ nanos_of_seconds std) (omega (arith, signed_arith)) (omega (arith, signed_arith)) in
          agree-both first count n s m u std t told
          (holds-left n (first *ℤ nanos_per_day) (int_lt (saturating_add m (nanos_of_seconds std)) (first *ℤ nanos_per_day)) (int_lt (count *ℤ nanos_per_day -ℤ pos 1) (saturating_add m (nanos_of_seconds std))) (start-nanos first count n s m u std t told same)
          (rw kept (lt-is_true (m +ℤ nanos_of_seconds std) (first *ℤ nanos_per_day) (omega (arith, signed_arith)))))
          (holds-left s (first *ℤ pos 86_400) (int_lt (u +ℤ std) (first *ℤ pos 86_400)) (int_le (count *ℤ pos 86_400) (u +ℤ std)) same (lt-is_true (u +ℤ std) (first *ℤ pos 86_400) before))
      | inr last ↦ let here = last.0 in absurd (omega (arith, signed_arith))
    ]

-- in it
agree-within : (first count n s m u std : ℤ) (t : ℕ) → AreTold first count n s m u std t
    → (first *ℤ pos 86_400) ≤ℤ (u +ℤ std) → (u +ℤ std) <ℤ (count *ℤ pos 86_400) → Agree first count n s m u std t
agree-within first count n s m u std t told from to =
    let long = told.year.long in
    let short = told.year.short in
    let high = told.year.high in
    let later = told.year.later in
    let least = told.least in
    let near_low = told.near.0 in
    let seconds = fails-both s (first *ℤ pos 86_400) (int_lt (u +ℤ std) (first *ℤ pos 86_400)) (int_le (count *ℤ pos 86_400) (u +ℤ std))
    (lt-is_false (u +ℤ std) (first *ℤ pos 86_400) from) (le-is_false (count *ℤ pos 86_400) (u +ℤ std) to) in
    let x = m +ℤ nanos_of_seconds std in
    elim told.stop [
      | inl whole ↦
          let at = whole.1 in
          let kept = clamp-mid civil_min civil_max (m +ℤ nanos_of_seconds std) (omega (arith, signed_arith)) (omega (arith, signed_arith)) in
          agree-none first count n s m u std t told
          (fails-both n (first *ℤ nanos_per_day) (int_lt (saturating_add m (nanos_of_seconds std)) (first *ℤ nanos_per_day)) (int_lt (count *ℤ nanos_per_day -ℤ pos 1) (saturating_add m (nanos_of_seconds std)))
          (rw kept (lt-is_false (m +ℤ nanos_of_seconds std) (first *ℤ nanos_per_day) (omega (arith, signed_arith))))
          (rw kept (lt-is_false (count *ℤ nanos_per_day -ℤ pos 1) (m +ℤ nanos_of_seconds std) (omega (arith, signed_arith)))))
          seconds
      | inr last ↦
          let here = last.0 in
          let at = last.1 in
          let kept = clamp-mid civil_min civil_max (m +ℤ nanos_of_seconds std) (omega (arith, signed_arith)) (omega (arith, signed_arith)) in
          agree-none first count n s m u std t told
          (fails-both n (first *ℤ nanos_per_day) (int_lt (saturating_add m (nanos_of_seconds std)) (first *ℤ nanos_per_day)) (int_lt (count *ℤ nanos_per_day -ℤ pos 1) (saturating_add m (nanos_of_seconds std)))
          (rw kept (lt-is_false (m +ℤ nanos_of_seconds std) (first *ℤ nanos_per_day) (omega (arith, signed_arith))))
          (rw kept (lt-is_false (count *ℤ nanos_per_day -ℤ pos 1) (m +ℤ nanos_of_seconds std) (omega (arith, signed_arith)))))
          seconds
    ]

-- in the year after it
seconds-beyond : (first count s u std : ℤ) → s ≡ first *ℤ pos 86_400 → (count *ℤ pos 86_400) ≤ℤ (u +ℤ std) → seconds_say first count s u std ≡ true
seconds-beyond first count s u std same beyond =
    holds-right s (first *ℤ pos 86_400) (int_lt (u +ℤ std) (first *ℤ pos 86_400)) (int_le (count *ℤ pos 86_400) (u +ℤ std)) same (le-is_true (count *ℤ pos 86_400) (u +ℤ std) beyond)

-- the last year that jiff has, whose end it doesn't pass
agree-last_year : (first count n s m u std : ℤ) (t : ℕ) → AreTold first count n s m u std t → s ≡ first *ℤ pos 86_400
    → (count *ℤ pos 86_400) ≤ℤ (u +ℤ std) → saturating_add m (nanos_of_seconds std) ≡ civil_max → civil_max ≤ℤ (count *ℤ nanos_per_day -ℤ pos 1)
    → Agree first count n s m u std t
agree-last_year first count n s m u std t told same beyond kept last =
    let long = told.year.long in
    let high = told.year.high in
    let asked = told.year.asked in
    let later = told.year.later in
    let near = told.near.1 in
    let nanos : nanos_say first count n m std ≡ false =
    fails-both n (first *ℤ nanos_per_day) (int_lt (saturating_add m (nanos_of_seconds std)) (first *ℤ nanos_per_day)) (int_lt (count *ℤ nanos_per_day -ℤ pos 1) (saturating_add m (nanos_of_seconds std)))
    (rw kept (lt-is_false civil_max (first *ℤ nanos_per_day) (omega (arith, signed_arith))))
    (rw kept (lt-is_false (count *ℤ nanos_per_day -ℤ pos 1) civil_max last)) in
    rw (nanos, seconds-beyond first count s u std same beyond)
    (same_window (count *ℤ pos 86_400) n s m u t told.start told.stop
    ∙ far-window s u (count *ℤ pos 86_400) t (omega (arith, signed_arith)) (omega (arith, signed_arith)) (omega (arith, signed_arith)) later)

agree-whole : (first count n s m u std : ℤ) (t : ℕ) → AreTold first count n s m u std t → s ≡ first *ℤ pos 86_400
    → (count *ℤ pos 86_400) ≤ℤ (u +ℤ std) → m ≡ nanos_of_seconds u → Agree first count n s m u std t
agree-whole first count n s m u std t told same beyond at =
    let long = told.year.long in
    let short = told.year.short in
    let later = told.year.later in
    let least = told.least in
    let near_low = told.near.0 in
    let both = agree-both first count n s m u std t told in
    let start = start-nanos first count n s m u std t told same in
    let seconds = seconds-beyond first count s u std same beyond in
    elim (lt_tells civil_max (m +ℤ nanos_of_seconds std)) [
      | inl over ↦
          let above = over.1 in
          let kept = clamp-high civil_min civil_max (m +ℤ nanos_of_seconds std) (omega (arith, signed_arith)) above in
          elim (lt_tells (count *ℤ nanos_per_day -ℤ pos 1) civil_max) [
            | inl past ↦ both (holds-right n (first *ℤ nanos_per_day) (int_lt (saturating_add m (nanos_of_seconds std)) (first *ℤ nanos_per_day)) (int_lt (count *ℤ nanos_per_day -ℤ pos 1) (saturating_add m (nanos_of_seconds std))) start (rw kept past.0)) seconds
            | inr last ↦ agree-last_year first count n s m u std t told same beyond kept last.1
          ]
      | inr under ↦
          let below = under.1 in
          let kept = clamp-mid civil_min civil_max (m +ℤ nanos_of_seconds std) (omega (arith, signed_arith)) below in
          both (holds-right n (first *ℤ nanos_per_day) (int_lt (saturating_add m (nanos_of_seconds std)) (first *ℤ nanos_per_day)) (int_lt (count *ℤ nanos_per_day -ℤ pos 1) (saturating_add m (nanos_of_seconds std))) start
          (rw kept (lt-is_true (count *ℤ nanos_per_day -ℤ pos 1) (m +ℤ nanos_of_seconds std) (omega (arith, signed_arith))))) seconds
    ]

agree-beyond : (first count n s m u std : ℤ) (t : ℕ) → AreTold first count n s m u std t → s ≡ first *ℤ pos 86_400
    → (count *ℤ pos 86_400) ≤ℤ (u +ℤ std) → Agree first count n s m u std t
agree-beyond first count n s m u std t told same beyond =
    elim told.stop [
      | inl whole ↦ agree-whole first count n s m u std t told same beyond whole.1
      | inr last ↦ elim (cases_Bool (nanos_say first count n m std)) [
        | inl never ↦ agree-both first count n s m u std t told never (seconds-beyond first count s u std same beyond)
        | inr stops ↦
            rw (stops, seconds-beyond first count s u std same beyond)
            (same_window (count *ℤ pos 86_400) n s m (count *ℤ pos 86_400) t told.start (inr (refl, last.1)))
      ]
    ]

agree : (first count n s m u std : ℤ) (t : ℕ) → AreTold first count n s m u std t → Agree first count n s m u std t
agree first count n s m u std t told =
    elim (lt_tells (first *ℤ pos 86_400) s) [
      | inl later ↦ agree-later first count n s m u std t told later.1
      | inr most ↦
          let at_most = most.1 in
          let low = told.low in
          let same : s ≡ first *ℤ pos 86_400 = omega (arith, signed_arith) in
          elim (lt_tells (u +ℤ std) (first *ℤ pos 86_400)) [
            | inl before ↦ agree-before first count n s m u std t told same before.1
            | inr from ↦ elim (lt_tells (u +ℤ std) (count *ℤ pos 86_400)) [
              | inl within ↦ agree-within first count n s m u std t told from.1 within.1
              | inr beyond ↦ agree-beyond first count n s m u std t told same beyond.1
            ]
          ]
    ]

-- a year in which a moment lies
year-of : (t : ℕ) → t ≤ last_asked → IsYearOf (first_day (year_at t)) (first_day (year_at t) +ℤ pos (days_in_year (year_at t))) t
year-of t asked = record {
  long = year-long (year_at t);
  short = year-short (year_at t);
  high = year-high t asked;
  later = (moment-in_year t asked).1;
  asked = asked;
}

-- so daylight saving time is that of jiff
daylight-same : (std : Offset) (d : Dst) (t : ℕ) → t ≤ last_asked
    → in_window (utc_window d (year_at t) std) (nanos_of_seconds (pos t))
    ≡ in_window (daylight_in std.seconds (daylight_of (dst_view d)) (year_at t)) (pos t)
unfolding utc_window
daylight-same std d t asked =
    let year = year_at t in
    agree (first_day year) (first_day year +ℤ pos (days_in_year year)) (rule_nanos year d.rule.start std.seconds)
    (change_at year (change_of (day_time_view d.rule.start)) std.seconds) (rule_nanos year d.rule.end d.offset.seconds)
    (change_at year (change_of (day_time_view d.rule.end)) d.offset.seconds) std.seconds t (record {
      year = year-of t asked;
      near = std.in_range;
      start = change-told year d.rule.start std.seconds;
      stop = change-told year d.rule.end d.offset.seconds;
      low = change-low year d.rule.start std.seconds;
      least = change-low year d.rule.end d.offset.seconds;
    })

-- and so is how far local time is ahead
chosen : (b : Bool) (std : Offset) (d : Dst)
    → (if b then d.offset.seconds else std.seconds) ≡ (match_some (if b then Some d else None) std (λ x. x.offset)).seconds
chosen true std d = refl
chosen false std d = refl

ahead-same : (std : Offset) (dst : Option Dst) (t : ℕ) → t ≤ last_asked
    → ahead_by std.seconds (option_map daylight_of (option_map dst_view dst)) t
    ≡ (match_some (dst_at_by std dst (nanos_of_seconds (pos t))) std (λ d. d.offset)).seconds
ahead-same std None t asked = refl
ahead-same std (Some d) t asked =
    rw (year-nanos t, daylight-same std d t asked)
    (chosen (in_window (daylight_in std.seconds (daylight_of (dst_view d)) (year_at t)) (pos t)) std d)

pub ahead-jiff : (rule : TimeZone) (t : ℕ) → t ≤ last_asked
    → ahead_at (zone_of_rule (tz_view rule)) t ≡ (offset_at rule (nanos_of_seconds (pos t))).seconds
ahead-jiff rule t asked = ahead-same rule.std_offset rule.dst t asked
