-- Between the changes that jiff tells of a rule its offset stays.
use Rattle.std.specs.Prelude.{int_le, int_lt, Option, Some, None}
use Rattle.std.proofs.Common.{◌≡◌, ℕ, ◌+◌, ◌*◌, ◌<◌, ◌≤◌, ℤ, pos, neg_ℤ, ◌<ℤ◌, ◌≤ℤ◌, ◌⊎◌, inl, inr, refl, sym, ap, subst, ◌∙◌, arith, min}
use Rattle.std.proofs.lemmas.Bool.{cond-true, cond-false}
use Rattle.std.specs.Int.{int_div_euclid}
use Rattle.jiff_core.proofs.SignedLemmas.{signed_arith}
use Rattle.jiff_core.specs.Timestamp.{nanos_of_seconds}
use Rattle.jiff_tz.specs.declared.info.OffsetInfo.{OffsetInfo}
use Rattle.jiff_tz.specs.declared.info.Transition.{Transition}
use Rattle.jiff_tz.specs.declared.posix.Dst.{Dst}
use Rattle.jiff_tz.specs.declared.posix.TimeZone.{TimeZone}
use Rattle.jiff_tz.specs.PosixText.{tz_view}
use Rattle.jiff_tz.specs.PosixRule.{match_some, in_window, utc_window, ordered, transition_of, next_by, next_at, dst_at_by, offset_at, transition_view}
use Rattle.jiff_tz.specs.Year.{year_of_nanos}
use Rattle.zone_rules.specs.Zones.{Zone, zone_of_rule}
use Rattle.zone_rules.specs.Daylight.{year_at, year_end, ahead_at}
use Rattle.zone_rules.specs.ZonedTime.{last_asked}
use Rattle.zone_rules.proofs.Nanos.{lt_tells, le_tells, lt-is_true, lt-is_false, le-is_true, le-is_false}
use Rattle.zone_rules.proofs.Years.{year-same, year-nanos}
use Rattle.civil_time.specs.ZonedMinutes.{minutes_ahead, StaysAhead}
use Rattle.civil_time.proofs.ZoneLemmas.{minutes_ahead-at, minutes_ahead-jiff}

-- two moments lie on the same side of another
abbrev Beside : ℤ → ℤ → ℤ → Type 0
Beside n later e = ((n <ℤ e) × (later <ℤ e)) ⊎ ((e ≤ℤ n) × (e ≤ℤ later))

beside-le : (n later e : ℤ) → Beside n later e → int_le e later ≡ int_le e n
beside-le n later e (inl below) = le-is_false e later below.1 ∙ sym (le-is_false e n below.0)
beside-le n later e (inr above) = le-is_true e later above.1 ∙ sym (le-is_true e n above.0)

beside-lt : (n later e : ℤ) → Beside n later e → int_lt later e ≡ int_lt n e
beside-lt n later e (inl below) = lt-is_true later e below.1 ∙ sym (lt-is_true n e below.0)
beside-lt n later e (inr above) = lt-is_false later e above.1 ∙ sym (lt-is_false n e above.0)

-- so both lie in a window, or neither does
window-stays : (n later : ℤ) (w : ℤ × ℤ) → Beside n later w.0 → Beside n later w.1 → in_window w later ≡ in_window w n
window-stays n later w from to =
    rw (beside-le n later w.0 from, beside-lt n later w.1 to, beside-le n later w.1 to, beside-lt n later w.0 from) refl

ordered-stays : (n later : ℤ) (w : ℤ × ℤ) → Beside n later (ordered w).0 → Beside n later (ordered w).1 → in_window w later ≡ in_window w n
ordered-stays n later w from to = elim (le_tells w.0 w.1) [
  | inl less ↦
      let same = cond-true (int_le w.0 w.1) w (w.1, w.0) less.0 in
      window-stays n later w (subst (λ (p : ℤ × ℤ). Beside n later p.0) same from) (subst (λ (p : ℤ × ℤ). Beside n later p.1) same to)
  | inr more ↦
      let same = cond-false (int_le w.0 w.1) w (w.1, w.0) more.0 in
      window-stays n later w (subst (λ (p : ℤ × ℤ). Beside n later p.1) same to) (subst (λ (p : ℤ × ℤ). Beside n later p.0) same from)
]

ordered-order : (w : ℤ × ℤ) → (ordered w).0 ≤ℤ (ordered w).1
ordered-order w = elim (le_tells w.0 w.1) [
  | inl less ↦ rw less.0 less.1
  | inr more ↦
      let above = more.1 in
      rw more.0 (omega (arith, signed_arith))
]

-- a moment before what was found, if anything was
abbrev pub Before : Option (ℤ × OffsetInfo) → ℤ → Type 0
Before None later = Unit {0}
Before (Some p) later = later <ℤ p.0

-- the last nanosecond that jiff has
abbrev pub last_nano : ℤ
last_nano = pos 253_402_207_200_999_999_999

-- what is no instant lies behind all
before-told : (tz : TimeZone) (d : Dst) (w : ℤ × ℤ) (e later : ℤ) → neg_ℤ (pos 377_705_023_201_000_000_000) ≤ℤ e → later ≤ℤ last_nano
    → Before (transition_of tz d w e) later → later <ℤ e
before-told tz d w e later low asked before = elim (le_tells e last_nano) [
  | inl most ↦ rw (le-is_true (neg_ℤ (pos 377_705_023_201_000_000_000)) e low, most.0) at before
  | inr past ↦
      let beyond = past.1 in
      omega (arith, signed_arith)
]

-- where the first change is later, the moment is on the same side of both
next-stays : (tz : TimeZone) (d : Dst) (y n later : ℤ) → pos 0 ≤ℤ n → n ≤ℤ later → later ≤ℤ last_nano
    → Before (next_by tz d y n) later
    → in_window (utc_window d y tz.std_offset) later ≡ in_window (utc_window d y tz.std_offset) n
next-stays tz d y n later least order asked before =
    elim (lt_tells n (ordered (utc_window d y tz.std_offset)).0) [
      | inl first ↦
          let ahead = first.1 in
          let ends = ordered-order (utc_window d y tz.std_offset) in
          let past = before-told tz d (utc_window d y tz.std_offset) (ordered (utc_window d y tz.std_offset)).0 later
          (omega (arith, signed_arith)) asked
          (subst (λ (o : Option (ℤ × OffsetInfo)). Before o later)
          (cond-true (int_lt n (ordered (utc_window d y tz.std_offset)).0) _ _ first.0) before) in
          ordered-stays n later (utc_window d y tz.std_offset) (inl (ahead, past)) (inl (omega (arith, signed_arith), omega (arith, signed_arith)))
      | inr not_first ↦
          let behind = not_first.1 in
          elim (lt_tells n (ordered (utc_window d y tz.std_offset)).1) [
            | inl second ↦
                let ahead = second.1 in
                let past = before-told tz d (utc_window d y tz.std_offset) (ordered (utc_window d y tz.std_offset)).1 later
                (omega (arith, signed_arith)) asked
                (subst (λ (o : Option (ℤ × OffsetInfo)). Before o later)
                (cond-false (int_lt n (ordered (utc_window d y tz.std_offset)).0) _ _ not_first.0
                ∙ cond-true (int_lt n (ordered (utc_window d y tz.std_offset)).1) _ _ second.0) before) in
                ordered-stays n later (utc_window d y tz.std_offset) (inr (behind, omega (arith, signed_arith))) (inl (ahead, past))
            | inr not_second ↦
                let beyond = not_second.1 in
                ordered-stays n later (utc_window d y tz.std_offset) (inr (behind, omega (arith, signed_arith))) (inr (beyond, omega (arith, signed_arith)))
          ]
    ]

offset-by : (tz : TimeZone) (dst : Option Dst) (n later : ℤ) → pos 0 ≤ℤ n → n ≤ℤ later → later ≤ℤ last_nano → year_of_nanos later ≡ year_of_nanos n
    → Before (match_some dst None (λ d. next_by tz d (year_of_nanos n) n)) later
    → match_some (dst_at_by tz.std_offset dst later) tz.std_offset (λ d. d.offset) ≡ match_some (dst_at_by tz.std_offset dst n) tz.std_offset (λ d. d.offset)
offset-by tz None n later least order asked year before = refl
offset-by tz (Some d) n later least order asked year before =
    let same = next-stays tz d (year_of_nanos n) n later least order asked before in
    rw (year, same) refl

pub offset-stays : (tz : TimeZone) (n later : ℤ) → pos 0 ≤ℤ n → n ≤ℤ later → later ≤ℤ last_nano → year_of_nanos later ≡ year_of_nanos n
    → Before (next_at tz n) later → offset_at tz later ≡ offset_at tz n
offset-stays tz n later least order asked year before = offset-by tz tz.dst n later least order asked year before

-- so from a minute on local time stays as far ahead, up to the change and the end of the year
asked-second : (t : ℕ) → t < last_asked → min t last_asked ≡ t
asked-second t below = omega arith

pub stays-told : (tz : TimeZone) (m u : ℕ) → m * 60 < last_asked → m ≤ u → pos (u * 60) <ℤ year_end (year_at (m * 60))
    → Before (next_at tz (nanos_of_seconds (pos (m * 60)))) (nanos_of_seconds (pos (u * 60)))
    → minutes_ahead (zone_of_rule (tz_view tz)) u ≡ minutes_ahead (zone_of_rule (tz_view tz)) m
stays-told tz m u below order within before =
    let now = asked-second (m * 60) below in
    let t = m * 60 in
    let v = min (u * 60) last_asked in
    let here : int_div_euclid ((offset_at tz (nanos_of_seconds (pos v))).seconds) (pos 60)
    ≡ int_div_euclid ((offset_at tz (nanos_of_seconds (pos t))).seconds) (pos 60) =
    ap (λ o. int_div_euclid (o.seconds) (pos 60))
    (offset-stays tz (nanos_of_seconds (pos t)) (nanos_of_seconds (pos v)) (omega (arith, signed_arith)) (omega (arith, signed_arith))
    (omega (arith, signed_arith))
    (year-nanos v ∙ year-same t v (omega arith) (omega arith) (omega (arith, signed_arith)) ∙ sym (year-nanos t))
    (before-less (next_at tz (nanos_of_seconds (pos t))) (nanos_of_seconds (pos v)) (nanos_of_seconds (pos (u * 60))) (omega (arith, signed_arith)) before)) in
    minutes_ahead-jiff tz u ∙ here
    ∙ sym (minutes_ahead-jiff tz m ∙ ap (λ s. int_div_euclid ((offset_at tz (nanos_of_seconds (pos s))).seconds) (pos 60)) now)
  where
    before-less : (found : Option (ℤ × OffsetInfo)) (a b : ℤ) → a ≤ℤ b → Before found b → Before found a
    before-less None a b less before = before
    before-less (Some p) a b less before = omega (arith, signed_arith)

-- behind the last second that is asked it stays for good
pub stays-last : (zone : Zone) (m change : ℕ) → last_asked ≤ m * 60 → StaysAhead zone m change
stays-last zone m change past u from to =
    let here : min (m * 60) last_asked ≡ last_asked = omega arith in
    let later : min (u * 60) last_asked ≡ last_asked = omega arith in
    minutes_ahead-at zone u ∙ ap (λ s. int_div_euclid (ahead_at zone s) (pos 60)) (later ∙ sym here) ∙ sym (minutes_ahead-at zone m)

-- and up to the next minute in any case
pub stays-one : (zone : Zone) (m : ℕ) (a b : ℕ) → StaysAhead zone m a → b ≤ m + 1 → (c : ℕ) → (c ≡ a) ⊎ (c ≡ b) → StaysAhead zone m c
stays-one zone m a b stays near c (inl same) u from to = stays u from (omega arith)
stays-one zone m a b stays near c (inr same) u from to =
    let here : u ≡ m = omega arith in
    ap (minutes_ahead zone) here

-- what was found at an instant
instant-here : (m : ℕ) (n : ℤ) → m * 60 < last_asked → n ≡ pos (min (m * 60) last_asked * 1_000_000_000) → n ≡ nanos_of_seconds (pos (m * 60))
instant-here m n below at = at ∙ ap (λ s. pos (s * 1_000_000_000)) (asked-second (m * 60) below)

minute-nanos : (u : ℕ) → nanos_of_seconds (pos (u * 60)) ≡ pos (u * 60_000_000_000)
minute-nanos u = ap pos (omega arith)

pub before-some : (tz : TimeZone) (m u : ℕ) (n : ℤ) (t : Transition) → m * 60 < last_asked → n ≡ pos (min (m * 60) last_asked * 1_000_000_000)
    → Some (transition_view t) ≡ next_at tz n → pos (u * 60_000_000_000) <ℤ t.timestamp.nanosecond
    → Before (next_at tz (nanos_of_seconds (pos (m * 60)))) (nanos_of_seconds (pos (u * 60)))
before-some tz m u n t below at found earlier =
    subst (λ (o : Option (ℤ × OffsetInfo)). Before o (nanos_of_seconds (pos (u * 60))))
    (found ∙ ap (next_at tz) (instant-here m n below at))
    (subst (λ (z : ℤ). z <ℤ t.timestamp.nanosecond) (sym (minute-nanos u)) earlier)

pub before-none : (tz : TimeZone) (m u : ℕ) (n : ℤ) → m * 60 < last_asked → n ≡ pos (min (m * 60) last_asked * 1_000_000_000)
    → None ≡ next_at tz n → Before (next_at tz (nanos_of_seconds (pos (m * 60)))) (nanos_of_seconds (pos (u * 60)))
before-none tz m u n below at found =
    subst (λ (o : Option (ℤ × OffsetInfo)). Before o (nanos_of_seconds (pos (u * 60))))
    (found ∙ ap (next_at tz) (instant-here m n below at)) tt
