-- Hours in a zone, minute by minute.
use Rattle.std.specs.Prelude.{MatchOption, Option, Some, None, List, option_map, if◌then◌else◌, Bool}
use Rattle.std.proofs.Common.{◌≡◌, ◌<◌, ◌≤◌, ◌+◌, ◌-◌, ◌*◌, ◌/◌, ◌%◌, ◌⊎◌, ℕ, zero, suc, ℤ, true, false, inl, inr}
use Rattle.std.proofs.Common.{refl, sym, ap, subst, ◌∙◌, arith, ltb, not, ◌&&◌}
use Rattle.std.proofs.lemmas.Bool.{cases_lt, and_parts, ltb-true, lt-ltb, not-true, false_from_ne_true, both_ways}
use Rattle.jiff_core.specs.Calendar.{IsWithin}
use Rattle.alarm_rules.specs.FirstFrom.{first_from}
use Rattle.alarm_rules.proofs.FirstNumbers.{first_from-first, first_from-none, first_from-found, first_from-empty}
use Rattle.alarm_rules.specs.Weeks.{Week, in_hours, is_closing, next_close, IsNextClose}
use Rattle.civil_time.specs.ZonedMinutes.{minutes_ahead, StaysAhead}
use Rattle.open_schedules.specs.Minutes.{week_minute, open_at, closes_at, IsFirstUpTo, NoneUpTo, NoneBefore, IsFirstClose}
use Rattle.open_schedules.proofs.PlaceLemmas.{zoned-place}

-- the hours of the minute that a moment lies in
pub in_hours-minutes : (week : Week) (t : ℕ) → IsWithin 1560 (minutes_ahead week.zone (t / 60))
    → in_hours week t ≡ open_at week.windows (week_minute (minutes_ahead week.zone (t / 60)) (t / 60))
in_hours-minutes week t near =
    let at = zoned-place week.zone t near in
    rw (at.0, at.1) refl

abbrev hours_of : Week → ℕ → Bool
hours_of week m = in_hours week (m * 60)

-- all the seconds of a minute have the same local time
in_hours-minute : (week : Week) (t : ℕ) → in_hours week t ≡ hours_of week (t / 60)
in_hours-minute week t =
    let same : t / 60 ≡ t / 60 * 60 / 60 = omega arith in
    rw (← same) refl

pub hours-same : (week : Week) (t u : ℕ) → t / 60 ≡ u / 60 → in_hours week t ≡ in_hours week u
hours-same week t u same = in_hours-minute week t ∙ ap (hours_of week) same ∙ sym (in_hours-minute week u)

-- the parts of a closing moment
pub record Closes (week : Week) (t : ℕ) : Type 0 where
  pub later : 0 < t
  pub before : in_hours week (t - 1) ≡ true
  pub here : in_hours week t ≡ false

pub close-parts : (week : Week) (t : ℕ) → is_closing week t ≡ true → Closes week t
close-parts week t closing =
    let parts = and_parts (ltb 0 t && in_hours week (t - 1)) (not (in_hours week t)) closing in
    let front = and_parts (ltb 0 t) (in_hours week (t - 1)) parts.0 in
    record { later = ltb-true 0 t front.0; before = front.1; here = not-true (in_hours week t) parts.1 }

-- it begins a minute
pub close-minute : (week : Week) (t : ℕ) → is_closing week t ≡ true → t % 60 ≡ 0
close-minute week t closing =
    let close = close-parts week t closing in
    elim (zero_or_more (t % 60)) [
      | inl begins ↦ begins
      | inr inside ↦
          let same = hours-same week (t - 1) t (omega (arith, close.later)) in
          differ (sym close.before ∙ same ∙ close.here)
    ]
  where
    zero_or_more : (n : ℕ) → (n ≡ 0) ⊎ (0 < n)
    zero_or_more zero = inl refl
    zero_or_more (suc n) = inr (omega arith)

    differ : true ≡ false → t % 60 ≡ 0
    differ same = cc

-- at a whole minute it goes by the minute before
pub close-at : (week : Week) (m : ℕ) → 0 < m → is_closing week (m * 60) ≡ (hours_of week (m - 1) && not (hours_of week m))
close-at week m later =
    let some : ltb 0 (m * 60) ≡ true = lt-ltb 0 (m * 60) (omega arith) in
    let before = hours-same week (m * 60 - 1) ((m - 1) * 60) (omega arith) in
    rw (some, before) refl

-- where local time stays as far ahead of GMT, it goes by the minutes of the local week
pub close-stays : (week : Week) (minute change u : ℕ) → IsWithin 1560 (minutes_ahead week.zone minute)
    → StaysAhead week.zone minute change → minute < u → u < change
    → is_closing week (u * 60) ≡ closes_at week.windows (minutes_ahead week.zone minute) u
close-stays week minute change u near stays later below =
    let ahead = minutes_ahead week.zone minute in
    let some : ltb 0 u ≡ true = lt-ltb 0 u (omega arith) in
    close-at week u (omega arith) ∙ rw (open-stays (u - 1) (omega arith) (omega arith), open-stays u (omega arith) below, some) refl
  where
    open-stays : (m : ℕ) → minute ≤ m → m < change → hours_of week m ≡ open_at week.windows (week_minute (minutes_ahead week.zone minute) m)
    open-stays m from to =
        let same : m * 60 / 60 ≡ m = omega arith in
        let at = stays m from to in
        let here : IsWithin 1560 (minutes_ahead week.zone (m * 60 / 60)) = rw (same, at) near in
        in_hours-minutes week (m * 60) here ∙ rw (same, at) refl

-- what is first of the minutes is the first of all seconds
next-by : (week : Week) (after : ℕ) (found : Option ℕ)
    → first_from (λ m. is_closing week (m * 60)) (after / 60 + 1) 86_400 ≡ found
    → MatchOption (option_map (λ m. m * 60) found)
    ((t : ℕ) → after < t → t ≤ after + 5_184_000 → is_closing week t ≡ false) (IsNextClose week after)
next-by week after None gave = λ t later near.
    false_from_ne_true (is_closing week t) (λ closing.
    let whole = close-minute week t closing in
    let same : t / 60 * 60 ≡ t = omega arith in
    let none = first_from-empty (λ m. is_closing week (m * 60)) (after / 60 + 1) 86_400 gave (t / 60) (omega arith) (omega arith) in
    both_ways (is_closing week t) (ap (is_closing week) (sym same) ∙ none) closing)
next-by week after (Some m) gave =
    let is = first_from-found (λ k. is_closing week (k * 60)) (after / 60 + 1) 86_400 m gave in
    record {
      closing = is.passes;
      later = omega (arith, is.low);
      near = omega (arith, is.high);
      first = λ u later closing. elim (cases_lt u (m * 60)) [
        | inl below ↦
            let whole = close-minute week u closing in
            let same : u / 60 * 60 ≡ u = omega arith in
            let none = is.first (u / 60) (omega arith) (omega arith) in
            absurd (both_ways (is_closing week u) (ap (is_closing week) (sym same) ∙ none) closing)
        | inr above ↦ above
      ];
    }

pub next-first : (week : Week) (after : ℕ)
    → MatchOption (next_close week after)
    ((t : ℕ) → after < t → t ≤ after + 5_184_000 → is_closing week t ≡ false) (IsNextClose week after)
next-first week after = next-by week after (first_from (λ m. is_closing week (m * 60)) (after / 60 + 1) 86_400) refl

-- what the code finds is what the definition gives
pub next-found : (week : Week) (after minute last close : ℕ) → last ≤ after / 60 + 86_400 → after / 60 ≤ minute
    → NoneUpTo (λ m. is_closing week (m * 60)) (after / 60) minute → IsFirstUpTo (λ m. is_closing week (m * 60)) minute last close
    → next_close week after ≡ Some (close * 60)
next-found week after minute last close end from none is =
    ap (option_map (λ m. m * 60)) (first_from-first (λ m. is_closing week (m * 60)) (after / 60 + 1) 86_400 close (record {
      passes = is.closing;
      low = omega (arith, is.later);
      high = omega (arith, is.near);
      first = λ u low below. elim (cases_lt minute u) [
        | inl above ↦ is.first u above below
        | inr most ↦ none u (omega arith) most
      ];
    }))

pub next-none : (week : Week) (after minute : ℕ) → after / 60 + 86_400 ≤ minute
    → NoneUpTo (λ m. is_closing week (m * 60)) (after / 60) minute → next_close week after ≡ None
next-none week after minute end none =
    ap (option_map (λ m. m * 60)) (first_from-none (λ m. is_closing week (m * 60)) (after / 60 + 1) 86_400
    (λ u low high. none u (omega arith) (omega arith)))

-- What calls of a week answer.

pub hours-at : (week : Week) (m : ℕ) (ahead : ℤ) (place : ℕ) (told : Bool) → ahead ≡ minutes_ahead week.zone m → IsWithin 1560 ahead
    → place ≡ week_minute ahead m → told ≡ open_at week.windows place → told ≡ in_hours week (m * 60)
hours-at week m ahead place told value near at is =
    let same : m * 60 / 60 ≡ m = omega arith in
    let here : minutes_ahead week.zone (m * 60 / 60) ≡ ahead = ap (minutes_ahead week.zone) same ∙ sym value in
    let within : IsWithin 1560 (minutes_ahead week.zone (m * 60 / 60)) = rw here near in
    is ∙ ap (open_at week.windows) at ∙ sym (in_hours-minutes week (m * 60) within ∙ rw (here, same) refl)

pub closes-then : (week : Week) (m : ℕ) (before here : Bool) → 0 < m → before ≡ in_hours week ((m - 1) * 60)
    → here ≡ in_hours week (m * 60) → before ≡ true → not here ≡ is_closing week (m * 60)
closes-then week m before here later was is opened = sym (close-at week m later ∙ rw (sym was ∙ opened, ← is) refl)

pub closes-else : (week : Week) (m : ℕ) (before : Bool) → 0 < m → before ≡ in_hours week ((m - 1) * 60)
    → before ≡ false → before ≡ is_closing week (m * 60)
closes-else week m before later was shut = shut ∙ sym (close-at week m later ∙ rw (sym was ∙ shut) refl)

-- the first one where local time stays as far ahead is the first
pub first-stays : (week : Week) (minute change close : ℕ) (ahead : ℤ) → ahead ≡ minutes_ahead week.zone minute → IsWithin 1560 ahead
    → StaysAhead week.zone minute change → close < change → IsFirstClose ahead week.windows minute close
    → IsFirstUpTo (λ m. is_closing week (m * 60)) minute change close
first-stays week minute change close ahead value near stays below is =
    let within = rw value at near in
    record {
      closing = close-stays week minute change close within stays is.later below
          ∙ ap (λ a. closes_at week.windows a close) (sym value) ∙ is.closing;
      later = is.later;
      near = omega arith;
      first = λ u later before. close-stays week minute change u within stays later (omega arith)
          ∙ ap (λ a. closes_at week.windows a u) (sym value) ∙ is.first u later before;
    }

-- and where there is none, there is none
pub none-stays : (week : Week) (minute change : ℕ) (ahead : ℤ) → ahead ≡ minutes_ahead week.zone minute → IsWithin 1560 ahead
    → StaysAhead week.zone minute change → ((u : ℕ) → minute < u → u < change → closes_at week.windows ahead u ≡ false)
    → NoneBefore (λ m. is_closing week (m * 60)) minute change
none-stays week minute change ahead value near stays none u later below =
    close-stays week minute change u (rw value at near) stays later below
    ∙ ap (λ a. closes_at week.windows a u) (sym value) ∙ none u later below

-- none before the last minute, and none at it
pub none-last : (week : Week) (minute change : ℕ) → NoneBefore (λ m. is_closing week (m * 60)) minute change
    → is_closing week (change * 60) ≡ false → NoneUpTo (λ m. is_closing week (m * 60)) minute change
none-last week minute change none last u later most = elim (cases_lt u change) [
  | inl below ↦ none u later below
  | inr above ↦
      let here : u ≡ change = omega arith in
      ap (λ m. is_closing week (m * 60)) here ∙ last
]

-- what is found is the next close
pub found-is_next : (week : Week) (after close : ℕ) → next_close week after ≡ Some close → IsNextClose week after close
found-is_next week after close found =
    subst (λ (o : Option ℕ). MatchOption o ((t : ℕ) → after < t → t ≤ after + 5_184_000 → is_closing week t ≡ false) (IsNextClose week after))
    found (next-first week after)

pub none-is_none : (week : Week) (after : ℕ) → next_close week after ≡ None
    → (t : ℕ) → after < t → t ≤ after + 5_184_000 → is_closing week t ≡ false
none-is_none week after found =
    subst (λ (o : Option ℕ). MatchOption o ((t : ℕ) → after < t → t ≤ after + 5_184_000 → is_closing week t ≡ false) (IsNextClose week after))
    found (next-first week after)
