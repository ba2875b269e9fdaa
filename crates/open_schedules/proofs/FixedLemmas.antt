-- Hours where local time is GMT plus so many minutes all the year: they come again each week.
use Rattle.std.specs.Prelude.{MatchOption, Option, Some, None, List}
use Rattle.std.proofs.Common.{◌≡◌, ◌<◌, ◌≤◌, ◌+◌, ◌-◌, ◌*◌, ◌/◌, ◌%◌, ℕ, zero, suc, ℤ, pos, true, false, inl, inr}
use Rattle.std.proofs.Common.{refl, sym, ap, ◌∙◌, arith, ltb, not, ◌&&◌, ◌*ℤ◌}
use Rattle.std.proofs.lemmas.Bool.{cases_lt, and_from, lt-ltb, not_from_false, both_ways, false_from_ne_true}
use Rattle.std.specs.Int.{int_div_euclid}
use Rattle.std.specs.List.{list_any}
use Rattle.jiff_core.specs.Calendar.{IsWithin}
use Rattle.jiff_core.proofs.SignedLemmas.{signed_arith, int_div_euclid-parts}
use Rattle.arc_data.specs.LocalTime.{local_weekday, local_minute}
use Rattle.arc_data.specs.declared.window.Window.{Window}
use Rattle.alarm_rules.specs.FirstFrom.{first_from}
use Rattle.alarm_rules.specs.Weeks.{Week, holds, in_hours, is_closing, next_close, IsNextClose}
use Rattle.alarm_rules.proofs.FirstNumbers.{first_from-found, first_from-empty}
use Rattle.zone_rules.specs.Zones.{fixed_zone}
use Rattle.zone_rules.proofs.FixedZones.{fixed-local}
use Rattle.civil_time.specs.ZonedMinutes.{minutes_ahead}
use Rattle.open_schedules.specs.Minutes.{week_minute, open_at}
use Rattle.open_schedules.specs.Laws.{fixed_week, AreHoursOfOffset}
use Rattle.open_schedules.proofs.HourLemmas.{in_hours-minutes, close-parts, next-first}

hours-fixed : (minutes : ℤ) (windows : List Window) (t : ℕ)
    → in_hours (fixed_week minutes windows) t ≡ list_any (holds (local_weekday t minutes) (local_minute t minutes)) windows
hours-fixed minutes windows t =
    let local = fixed-local minutes t in
    rw (local.weekday, local.minute) refl

ahead-fixed : (minutes : ℤ) (m : ℕ) → minutes_ahead (fixed_zone minutes) m ≡ minutes
ahead-fixed minutes m =
    let parts = int_div_euclid-parts (minutes *ℤ pos 60) 60 (omega arith) in
    omega (arith, signed_arith)

hours-week_minute : (minutes : ℤ) (windows : List Window) (t : ℕ) → IsWithin 840 minutes
    → in_hours (fixed_week minutes windows) t ≡ open_at windows (week_minute minutes (t / 60))
hours-week_minute minutes windows t within =
    let low = within.0 in
    let high = within.1 in
    let ahead = ahead-fixed minutes (t / 60) in
    let near : IsWithin 1560 (minutes_ahead (fixed_zone minutes) (t / 60)) = rw ahead (omega (arith, signed_arith), omega (arith, signed_arith)) in
    in_hours-minutes (fixed_week minutes windows) t near ∙ ap (λ a. open_at windows (week_minute a (t / 60))) ahead

-- a week later it is the same minute of the week
hours-repeat : (minutes : ℤ) (windows : List Window) (t : ℕ) → IsWithin 840 minutes
    → in_hours (fixed_week minutes windows) (t + 604_800) ≡ in_hours (fixed_week minutes windows) t
hours-repeat minutes windows t within =
    let same : week_minute minutes ((t + 604_800) / 60) ≡ week_minute minutes (t / 60) = omega arith in
    hours-week_minute minutes windows (t + 604_800) within ∙ ap (open_at windows) same ∙ sym (hours-week_minute minutes windows t within)

-- a closing moment that has a week before it is one a week earlier, too
closing-week_before : (minutes : ℤ) (windows : List Window) (t : ℕ) → IsWithin 840 minutes → 0 < t
    → is_closing (fixed_week minutes windows) (t + 604_800) ≡ true → is_closing (fixed_week minutes windows) t ≡ true
closing-week_before minutes windows t within later closing =
    let week = fixed_week minutes windows in
    let close = close-parts week (t + 604_800) closing in
    let before : t + 604_800 - 1 ≡ t - 1 + 604_800 = omega arith in
    let opened = sym (hours-repeat minutes windows (t - 1) within) ∙ sym (ap (in_hours week) before) ∙ close.before in
    let here = sym (hours-repeat minutes windows t within) ∙ close.here in
    and_from (ltb 0 t && in_hours week (t - 1)) (not (in_hours week t))
    (and_from (ltb 0 t) (in_hours week (t - 1)) (lt-ltb 0 t later) opened)
    (not_from_false (in_hours week t) here)

closing-weeks_before : (minutes : ℤ) (windows : List Window) (t n : ℕ) → IsWithin 840 minutes → 0 < t
    → is_closing (fixed_week minutes windows) (t + n * 604_800) ≡ true → is_closing (fixed_week minutes windows) t ≡ true
closing-weeks_before minutes windows t zero within later closing =
    let same : t + zero * 604_800 ≡ t = omega arith in
    sym (ap (is_closing (fixed_week minutes windows)) same) ∙ closing
closing-weeks_before minutes windows t (suc n) within later closing =
    let same : t + suc n * 604_800 ≡ t + n * 604_800 + 604_800 = omega arith in
    closing-weeks_before minutes windows t n within later
    (closing-week_before minutes windows (t + n * 604_800) within (omega arith) (sym (ap (is_closing (fixed_week minutes windows)) same) ∙ closing))

-- so where a week after a moment has no closing moment there is none later
closing-never : (minutes : ℤ) (windows : List Window) (after : ℕ) → IsWithin 840 minutes
    → ((u : ℕ) → after + 1 ≤ u → u < after + 1 + 604_800 → is_closing (fixed_week minutes windows) u ≡ false)
    → (t : ℕ) → after < t → is_closing (fixed_week minutes windows) t ≡ false
closing-never minutes windows after within none t later =
    let week = fixed_week minutes windows in
    let gap = t - (after + 1) in
    let first = after + 1 + gap % 604_800 in
    let whole : first + gap / 604_800 * 604_800 ≡ t = omega arith in
    false_from_ne_true (is_closing week t) (λ closing. both_ways (is_closing week first) (none first (omega arith) (omega arith))
    (closing-weeks_before minutes windows first (gap / 604_800) within (omega arith) (ap (is_closing week) whole ∙ closing)))

-- the first within a week is the first within 60 days
next-agree : (minutes : ℤ) (windows : List Window) (after : ℕ) → IsWithin 840 minutes → (new was : Option ℕ)
    → first_from (is_closing (fixed_week minutes windows)) (after + 1) 604_800 ≡ was
    → MatchOption new ((t : ℕ) → after < t → t ≤ after + 5_184_000 → is_closing (fixed_week minutes windows) t ≡ false)
    (IsNextClose (fixed_week minutes windows) after)
    → new ≡ was
next-agree minutes windows after within None None gave new = refl
next-agree minutes windows after within None (Some t) gave new =
    let week = fixed_week minutes windows in
    let is = first_from-found (is_closing week) (after + 1) 604_800 t gave in
    absurd (both_ways (is_closing week t) (new t (omega (arith, is.low)) (omega (arith, is.high))) is.passes)
next-agree minutes windows after within (Some t) None gave new =
    let week = fixed_week minutes windows in
    let none = closing-never minutes windows after within (first_from-empty (is_closing week) (after + 1) 604_800 gave) in
    absurd (both_ways (is_closing week t) (none t new.later) new.closing)
next-agree minutes windows after within (Some t) (Some u) gave new =
    let week = fixed_week minutes windows in
    let is = first_from-found (is_closing week) (after + 1) 604_800 u gave in
    let low = new.first u (omega (arith, is.low)) is.passes in
    let equal : t ≡ u = omega (arith, first_is_least week after t u is.first new.later new.closing low) in
    ap Some equal
  where
    first_is_least : (week : Week) (after t u : ℕ) → ((v : ℕ) → after + 1 ≤ v → v < u → is_closing week v ≡ false) → after < t
        → is_closing week t ≡ true → t ≤ u → u ≤ t
    first_is_least week after t u first later closing low = elim (cases_lt t u) [
      | inl below ↦ absurd (both_ways (is_closing week t) (first t (omega arith) below) closing)
      | inr above ↦ above
    ]

pub fixed-same : (minutes : ℤ) (windows : List Window) (t : ℕ) → IsWithin 840 minutes → AreHoursOfOffset minutes windows t
fixed-same minutes windows t within =
    let week = fixed_week minutes windows in
    record {
      hours = hours-fixed minutes windows t;
      repeat = hours-repeat minutes windows t within;
      close = next-agree minutes windows t within (next_close week t) (first_from (is_closing week) (t + 1) 604_800) refl (next-first week t);
    }
