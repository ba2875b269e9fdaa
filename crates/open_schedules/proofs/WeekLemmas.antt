-- From the minutes of the local week to the windows that end, where local time stays as far ahead of GMT as it is.
use Rattle.std.specs.Prelude.{IfSome, IfNone, Contains, Option, Some, None, List, All}
use Rattle.std.proofs.Common.{◌≡◌, ◌<◌, ◌+◌, ◌-◌, ◌%◌, ℕ, ℤ, true, false, inl, inr}
use Rattle.std.proofs.Common.{sym, ap, ◌∙◌, arith, ltb, not, ◌&&◌}
use Rattle.std.proofs.lemmas.Bool.Decides.{nat_tests}
use Rattle.std.proofs.lemmas.Bool.{cases_Bool, and_parts, and_from, ltb-true, lt-ltb, not-true, not_from_false, false_from_ne_true}
use Rattle.std.proofs.lemmas.List.Elements.{All-contains, All-weaker}
use Rattle.std.proofs.lemmas.List.Folds.{Any-from_list_any, list_any-from_Any}
use Rattle.arc_data.specs.declared.window.Window.{Window}
use Rattle.open_schedules.specs.Kept.{IsWindow}
use Rattle.open_schedules.specs.Minutes.{week_minute, held_at, open_at, end_of, closes_at, IsFound, IsFirstClose, Reaches, Settles}

-- the parts of a minute at which the hours close
pub record Closes (windows : List Window) (ahead : ℤ) (m : ℕ) : Type 0 where
  pub later : 0 < m
  pub before : open_at windows (week_minute ahead (m - 1)) ≡ true
  pub here : open_at windows (week_minute ahead m) ≡ false

closes-parts : (windows : List Window) (ahead : ℤ) (m : ℕ) → closes_at windows ahead m ≡ true → Closes windows ahead m
closes-parts windows ahead m closing =
    let opened = open_at windows (week_minute ahead (m - 1)) in
    let here = open_at windows (week_minute ahead m) in
    let parts = and_parts (ltb 0 m && opened) (not here) closing in
    let front = and_parts (ltb 0 m) opened parts.0 in
    record { later = ltb-true 0 m front.0; before = front.1; here = not-true here parts.1 }

closes-whole : (windows : List Window) (ahead : ℤ) (m : ℕ) → Closes windows ahead m → closes_at windows ahead m ≡ true
closes-whole windows ahead m close =
    let opened = open_at windows (week_minute ahead (m - 1)) in
    let here = open_at windows (week_minute ahead m) in
    and_from (ltb 0 m && opened) (not here)
    (and_from (ltb 0 m) opened (lt-ltb 0 m close.later) close.before)
    (not_from_false here close.here)

-- each minute of the week follows another, and the first the last
week_minute-before : (ahead : ℤ) (m : ℕ) → 0 < m → week_minute ahead m ≡ (week_minute ahead (m - 1) + 1) % 10_080
week_minute-before ahead m later = omega arith

-- a window that holds a minute and not the next ends at that one
end_of-held : (w : Window) (s : ℕ) → IsWindow w → s < 10_080 → held_at s w ≡ true → held_at ((s + 1) % 10_080) w ≡ false
    → end_of w ≡ (s + 1) % 10_080
end_of-held w s is small held past = grind (arith, nat_tests)

-- a window holds the minute before the one that it ends at
held_at-before_end : (w : Window) (s : ℕ) → IsWindow w → s < 10_080 → (s + 1) % 10_080 ≡ end_of w → held_at s w ≡ true
held_at-before_end w s is small ends = grind (arith, nat_tests)

-- one window that holds a minute settles that the hours do
open_at-held : (windows : List Window) (s : ℕ) (w : Window) → Contains windows w → held_at s w ≡ true → open_at windows s ≡ true
open_at-held windows s w among held = list_any-from_Any (held_at s) windows (among.0, w, among.1, among.2, held)

-- where the hours do not hold a minute, no window does
held_at-shut : (windows : List Window) (s : ℕ) (w : Window) → Contains windows w → open_at windows s ≡ false → held_at s w ≡ false
held_at-shut windows s w among shut =
    elim (cases_Bool (held_at s w)) [
      | inl held ↦ let opened = open_at-held windows s w among held in cc
      | inr past ↦ past
    ]

-- where a window ends and none holds, the hours close
pub closes-end : (windows : List Window) (ahead : ℤ) (w : Window) (m : ℕ) → IsWindow w → Contains windows w → 0 < m
    → week_minute ahead m ≡ end_of w → open_at windows (end_of w) ≡ false → closes_at windows ahead m ≡ true
closes-end windows ahead w m is among later ends shut =
    let s = week_minute ahead (m - 1) in
    let held = held_at-before_end w s is (omega arith) (sym (week_minute-before ahead m later) ∙ ends) in
    closes-whole windows ahead m (record {
      later = later;
      before = open_at-held windows s w among held;
      here = ap (open_at windows) ends ∙ shut;
    })

-- where every window is settled, what was found is no later than any minute at which the hours close: the window that held the
-- minute before it ends there
Reaches-settled : (windows : List Window) (ahead : ℤ) (after : ℕ) (found : Option ℕ) → All IsWindow windows
    → All (Settles ahead windows after found) windows → (u : ℕ) → after < u → closes_at windows ahead u ≡ true → Reaches found u
Reaches-settled windows ahead after found valid settled u later closing =
    let close = closes-parts windows ahead u closing in
    let s = week_minute ahead (u - 1) in
    let next = week_minute-before ahead u close.later in
    let held = Any-from_list_any (held_at s) windows close.before in
    let w = held.1 in
    let among : Contains windows w = (held.0, held.2, held.3) in
    let past = held_at-shut windows ((s + 1) % 10_080) w among (ap (open_at windows) (sym next) ∙ close.here) in
    let end = end_of-held w s (All-contains IsWindow windows w valid among) (omega arith) held.4 past ∙ sym next in
    All-contains (Settles ahead windows after found) windows w settled among u later (sym end) (ap (open_at windows) end ∙ close.here)

-- windows stay settled by what is no later
pub Settles-later : (ahead : ℤ) (windows : List Window) (after : ℕ) (old new : Option ℕ) → ((u : ℕ) → Reaches old u → Reaches new u)
    → (xs : List Window) → All (Settles ahead windows after old) xs → All (Settles ahead windows after new) xs
Settles-later ahead windows after old new earlier =
    All-weaker (Settles ahead windows after old) (Settles ahead windows after new)
    (λ w settled u later ends shut. earlier u (settled u later ends shut))

-- so what was found is the first
first-settled : (windows : List Window) (ahead : ℤ) (after t : ℕ) → All IsWindow windows
    → All (Settles ahead windows after (Some t)) windows → IsFound ahead windows after t → IsFirstClose ahead windows after t
first-settled windows ahead after t valid settled found = record {
  closing = found.closing;
  later = found.later;
  first = λ u later below. false_from_ne_true (closes_at windows ahead u)
      (λ closing. absurd (omega (arith, Reaches-settled windows ahead after (Some t) valid settled u later closing)));
}

pub some-settled : (windows : List Window) (ahead : ℤ) (after : ℕ) (found : Option ℕ) → All IsWindow windows
    → All (Settles ahead windows after found) windows → IfSome found (IsFound ahead windows after)
    → IfSome found (IsFirstClose ahead windows after)
some-settled windows ahead after None valid settled found = found
some-settled windows ahead after (Some t) valid settled found = first-settled windows ahead after t valid settled found

-- and where nothing was found there is none
pub none-settled : (windows : List Window) (ahead : ℤ) (after : ℕ) (found : Option ℕ) → All IsWindow windows
    → All (Settles ahead windows after found) windows → IfNone found ((u : ℕ) → after < u → closes_at windows ahead u ≡ false)
none-settled windows ahead after None valid settled =
    λ u later. false_from_ne_true (closes_at windows ahead u) (Reaches-settled windows ahead after None valid settled u later)
none-settled windows ahead after (Some t) valid settled = tt
