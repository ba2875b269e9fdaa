-- Daylight saving time begins and stops where it says, and changes nowhere else.
use Rattle.std.specs.Prelude.{int_le, int_lt, Bool, not, ◌↔◌, IsTrue, if◌then◌else◌}
use Rattle.std.proofs.Common.{◌≡◌, ◌≢◌, ℕ, ◌+◌, ◌<◌, ℤ, pos, ◌+ℤ◌, ◌<ℤ◌, ◌≤ℤ◌, ◌⊎◌, ◌&&◌, true, false, inl, inr, refl, sym, ◌∙◌, arith}
use Rattle.std.proofs.lemmas.Bool.{cases_Bool}
use Rattle.jiff_core.proofs.SignedLemmas.{signed_arith}
use Rattle.jiff_tz.specs.PosixRule.{in_window}
use Rattle.zone_rules.specs.Zones.{Daylight}
use Rattle.zone_rules.specs.Daylight.{year_at, year_begin, year_end, change_at, never_stops, is_daylight}
use Rattle.zone_rules.specs.ZonedTime.{last_asked}
use Rattle.zone_rules.proofs.Nanos.{lt_tells, le_tells, lt-is_true, lt-is_false, le-is_true, le-is_false}
use Rattle.zone_rules.proofs.Windows.{fails-first}
use Rattle.zone_rules.proofs.Years.{moment-in_year}

-- where it does not begin with the year, it stops where it says
stops-there : (standard : ℤ) (d : Daylight) (y : ℤ) → year_begin y <ℤ change_at y d.begins standard
    → never_stops standard y (change_at y d.begins standard) (change_at y d.stops d.ahead) ≡ false
stops-there standard d y later =
    fails-first (change_at y d.begins standard) (year_begin y)
    (int_lt (change_at y d.stops d.ahead +ℤ standard) (year_begin y)) (int_le (year_end y) (change_at y d.stops d.ahead +ℤ standard)) later

in-order : (b s n : ℤ) → b ≤ℤ s → IsTrue (in_window (b, s) n) ↔ ((b ≤ℤ n) × (n <ℤ s))
in-order b s n order = rw (le-is_true b s order) (there, back)
  where
    there : IsTrue (int_le b n && int_lt n s) → (b ≤ℤ n) × (n <ℤ s)
    there force = elim (le_tells b n) [
      | inl from ↦ elim (lt_tells n s) [
        | inl to ↦ (from.1, to.1)
        | inr past ↦ absurd (let t = rw (from.0, past.0) at force in cc)
      ]
      | inr before ↦ absurd (let t = rw before.0 at force in cc)
    ]

    back : (b ≤ℤ n) × (n <ℤ s) → IsTrue (int_le b n && int_lt n s)
    back both = rw (le-is_true b n both.0, lt-is_true n s both.1) refl

over-year : (b s n : ℤ) → s <ℤ b → IsTrue (in_window (b, s) n) ↔ ((n <ℤ s) ⊎ (b ≤ℤ n))
over-year b s n order = rw (le-is_false b s order) (there, back)
  where
    there : IsTrue (not (int_le s n && int_lt n b)) → (n <ℤ s) ⊎ (b ≤ℤ n)
    there force = elim (le_tells s n) [
      | inl from ↦ elim (lt_tells n b) [
        | inl to ↦ absurd (let t = rw (from.0, to.0) at force in cc)
        | inr past ↦ inr past.1
      ]
      | inr before ↦ inl before.1
    ]

    shut : (a : Bool) → IsTrue (not (a && false))
    shut true = refl
    shut false = refl

    back : (n <ℤ s) ⊎ (b ≤ℤ n) → IsTrue (not (int_le s n && int_lt n b))
    back (inl before) = rw (le-is_false s n before) refl
    back (inr from) = rw (lt-is_false n b from) (shut (int_le s n))

pub lasts : (standard : ℤ) (d : Daylight) (t : ℕ) → year_begin (year_at t) <ℤ change_at (year_at t) d.begins standard
    → change_at (year_at t) d.begins standard ≤ℤ change_at (year_at t) d.stops d.ahead
    → IsTrue (is_daylight standard d t) ↔ ((change_at (year_at t) d.begins standard ≤ℤ pos t) × (pos t <ℤ change_at (year_at t) d.stops d.ahead))
lasts standard d t later order =
    rw (stops-there standard d (year_at t) later)
    (in-order (change_at (year_at t) d.begins standard) (change_at (year_at t) d.stops d.ahead) (pos t) order)

pub runs-over : (standard : ℤ) (d : Daylight) (t : ℕ) → year_begin (year_at t) <ℤ change_at (year_at t) d.begins standard
    → change_at (year_at t) d.stops d.ahead <ℤ change_at (year_at t) d.begins standard
    → IsTrue (is_daylight standard d t) ↔ ((pos t <ℤ change_at (year_at t) d.stops d.ahead) ⊎ (change_at (year_at t) d.begins standard ≤ℤ pos t))
runs-over standard d t later order =
    rw (stops-there standard d (year_at t) later)
    (over-year (change_at (year_at t) d.begins standard) (change_at (year_at t) d.stops d.ahead) (pos t) order)

-- two numbers are the same or not
same_tells : (a b : ℤ) → (a ≡ b) ⊎ ((a <ℤ b) ⊎ (b <ℤ a))
same_tells a b = elim (lt_tells a b) [
  | inl less ↦ inr (inl less.1)
  | inr most ↦ elim (lt_tells b a) [
    | inl more ↦ inr (inr more.1)
    | inr least ↦
        let low = most.1 in
        let high = least.1 in
        inl (omega (arith, signed_arith))
  ]
]

-- between two seconds of which the later is no end of the window nothing changes
stays : (b s : ℤ) (t : ℕ) → ((pos (t + 1) <ℤ b) ⊎ (b <ℤ pos (t + 1))) → ((pos (t + 1) <ℤ s) ⊎ (s <ℤ pos (t + 1)))
    → in_window (b, s) (pos (t + 1)) ≡ in_window (b, s) (pos t)
stays b s t not_b not_s =
    rw (le-stays b not_b, le-stays s not_s, lt-stays b not_b, lt-stays s not_s) refl
  where
    le-stays : (z : ℤ) → ((pos (t + 1) <ℤ z) ⊎ (z <ℤ pos (t + 1))) → int_le z (pos (t + 1)) ≡ int_le z (pos t)
    le-stays z (inl below) = le-is_false z (pos (t + 1)) below ∙ sym (le-is_false z (pos t) (omega (arith, signed_arith)))
    le-stays z (inr above) = le-is_true z (pos (t + 1)) (omega (arith, signed_arith)) ∙ sym (le-is_true z (pos t) (omega (arith, signed_arith)))

    lt-stays : (z : ℤ) → ((pos (t + 1) <ℤ z) ⊎ (z <ℤ pos (t + 1))) → int_lt (pos (t + 1)) z ≡ int_lt (pos t) z
    lt-stays z (inl below) = lt-is_true (pos (t + 1)) z below ∙ sym (lt-is_true (pos t) z (omega (arith, signed_arith)))
    lt-stays z (inr above) = lt-is_false (pos (t + 1)) z (omega (arith, signed_arith)) ∙ sym (lt-is_false (pos t) z (omega (arith, signed_arith)))

-- so it changes only where it begins or stops
changes-by : (never : Bool) (end b s : ℤ) (t : ℕ) → pos (t + 1) <ℤ end
    → in_window (b, (if never then end else s)) (pos (t + 1)) ≢ in_window (b, (if never then end else s)) (pos t)
    → (pos (t + 1) ≡ b) ⊎ (pos (t + 1) ≡ s)
changes-by never end b s t within differ = elim (same_tells (pos (t + 1)) b) [
  | inl begins ↦ inl begins
  | inr not_b ↦ elim (same_tells (pos (t + 1)) s) [
    | inl ends ↦ inr ends
    | inr not_s ↦ elim (cases_Bool never) [
      | inl goes_on ↦ absurd (differ (rw goes_on (stays b end t not_b (inl within))))
      | inr ends ↦ absurd (differ (rw ends (stays b s t not_b not_s)))
    ]
  ]
]

pub changes : (standard : ℤ) (d : Daylight) (t : ℕ) → t < last_asked → year_at (t + 1) ≡ year_at t
    → is_daylight standard d (t + 1) ≢ is_daylight standard d t
    → (pos (t + 1) ≡ change_at (year_at t) d.begins standard) ⊎ (pos (t + 1) ≡ change_at (year_at t) d.stops d.ahead)
changes standard d t asked same differ =
    let year = year_at t in
    let begins = change_at year d.begins standard in
    let stops = change_at year d.stops d.ahead in
    let within = (rw same at (moment-in_year (t + 1) (omega arith))).1 in
    changes-by (never_stops standard year begins stops) (year_end year) begins stops t within (rw same at differ)
