-- What the fate of an event tells, and what the marks of a panel keep.
use Rattle.std.proofs.Common.{◌≡◌, ◌≤◌, ◌<◌, ◌+◌, ◌⊎◌, ℕ, List, [], ◌∷◌, length, Bool, true, false, cond, refl, sym, subst, true≢false, inl, inr, arith}
use Rattle.std.specs.Prelude.{Option, Some, None, nat_lt, ◌==◌}
use Rattle.std.specs.List.{AllByRecursion}
use Rattle.std.specs.Option.{option_map_or}
use Rattle.std.proofs.lemmas.Option.{none-some, same_Some}
use Rattle.std.proofs.lemmas.Bool.{ltb-true, eqb-false}
use Rattle.panel_rules.specs.declared.Fate.{Fate}
use Rattle.panel_rules.specs.declared.Fate.TheVariants.{Waiting, InFlight, Acked, GivenUp}
use Rattle.panel_rules.specs.declared.Report.{Report}
use Rattle.panel_rules.specs.Marks.{Mark, steps, copies, first_copy, is_acked, is_late, fate, is_waiting, is_in_flight, numbered}
use Rattle.panel_laws.proofs.Finds.{any_gives}

-- what came of an event, by when the first copy of its message was sent
abbrev fate_by : ℕ → List Mark → Option ℕ → Fate
fate_by n ms first = option_map_or (λ t. cond (is_acked n ms) Acked (cond (is_late ms t) GivenUp InFlight)) first Waiting

-- a message in flight was sent, is not acknowledged, and is not late
pub record IsFlying (n : ℕ) (ms : List Mark) : Type 0 where
  pub first : ℕ
  pub sent : first_copy n ms ≡ Some first
  pub unacked : is_acked n ms ≡ false
  pub soon : is_late ms first ≡ false

flying_of : (n : ℕ) (ms : List Mark) (first : ℕ) (acked late : Bool) → first_copy n ms ≡ Some first → is_acked n ms ≡ acked
    → is_late ms first ≡ late → is_in_flight (cond acked Acked (cond late GivenUp InFlight)) ≡ true → IsFlying n ms
flying_of n ms first true late sent a l is = absurd (true≢false (sym is))
flying_of n ms first false true sent a l is = absurd (true≢false (sym is))
flying_of n ms first false false sent a l is = record { first = first; sent = sent; unacked = a; soon = l }

flying_by : (n : ℕ) (ms : List Mark) (o : Option ℕ) → first_copy n ms ≡ o → is_in_flight (fate_by n ms o) ≡ true → IsFlying n ms
flying_by n ms None sent is = absurd (true≢false (sym is))
flying_by n ms (Some first) sent is = flying_of n ms first (is_acked n ms) (is_late ms first) sent refl refl is

pub flying : (n : ℕ) (ms : List Mark) → is_in_flight (fate ms n) ≡ true → IsFlying n ms
flying n ms is = flying_by n ms (first_copy n ms) refl is

-- one that was sent and is not in flight is acknowledged or late
landed_of : (acked late : Bool) → is_in_flight (cond acked Acked (cond late GivenUp InFlight)) ≡ false → (acked ≡ true) ⊎ (late ≡ true)
landed_of true late is = inl refl
landed_of false true is = inr refl
landed_of false false is = absurd (true≢false is)

landed_by : (n : ℕ) (ms : List Mark) (first : ℕ) (o : Option ℕ) → o ≡ Some first → is_in_flight (fate_by n ms o) ≡ false
    → (is_acked n ms ≡ true) ⊎ (is_late ms first ≡ true)
landed_by n ms first None sent is = absurd (none-some first sent)
landed_by n ms first (Some f) sent is =
    subst (λ (t : ℕ). (is_acked n ms ≡ true) ⊎ (is_late ms t ≡ true)) (same_Some f first sent) (landed_of (is_acked n ms) (is_late ms f) is)

pub landed : (n : ℕ) (ms : List Mark) (first : ℕ) → first_copy n ms ≡ Some first → is_in_flight (fate ms n) ≡ false
    → (is_acked n ms ≡ true) ⊎ (is_late ms first ≡ true)
landed n ms first sent is = landed_by n ms first (first_copy n ms) sent is

-- one that waits was not sent
waits_of : (acked late : Bool) → is_waiting (cond acked Acked (cond late GivenUp InFlight)) ≡ true → ⊥
waits_of true late is = true≢false (sym is)
waits_of false true is = true≢false (sym is)
waits_of false false is = true≢false (sym is)

waits_by : (n : ℕ) (ms : List Mark) (o : Option ℕ) → is_waiting (fate_by n ms o) ≡ true → o ≡ None
waits_by n ms None is = refl
waits_by n ms (Some first) is = absurd (waits_of (is_acked n ms) (is_late ms first) is)

pub waits : (n : ℕ) (ms : List Mark) → is_waiting (fate ms n) ≡ true → first_copy n ms ≡ None
waits n ms is = waits_by n ms (first_copy n ms) is

-- one that was not sent waits
pub unsent : (n : ℕ) (ms : List Mark) → copies n ms ≡ [] → is_waiting (fate ms n) ≡ true
unsent n ms none = rw none refl

-- one that is acknowledged, by its fate
acked_of : (acked late : Bool) → cond acked Acked (cond late GivenUp InFlight) ≡ Acked → acked ≡ true
acked_of true late is = refl
acked_of false true is = cc
acked_of false false is = cc

acked_by : (n : ℕ) (ms : List Mark) (o : Option ℕ) → fate_by n ms o ≡ Acked → is_acked n ms ≡ true
acked_by n ms None is = cc
acked_by n ms (Some first) is = acked_of (is_acked n ms) (is_late ms first) is

pub acked : (n : ℕ) (ms : List Mark) → fate ms n ≡ Acked → is_acked n ms ≡ true
acked n ms is = acked_by n ms (first_copy n ms) is

-- Steps.

-- no step is after this moment
abbrev pub AreUpTo : ℕ → List Mark → Type 0
AreUpTo now ms = AllByRecursion (λ t. t ≤ now) (steps ms)

-- what is late was sent more than 240 seconds before the last step
pub late : (ms : List Mark) (first now : ℕ) → AreUpTo now ms → is_late ms first ≡ true → first + 240 < now
late ms first now upto is =
    any_gives (λ t. nat_lt (first + 240) t) (λ t. t ≤ now) (first + 240 < now)
    (λ t test below. omega (arith, ltb-true (first + 240) t test, below)) (steps ms) upto is

-- What events report.

-- an event that was taken
pub record IsTaken (n : ℕ) (reports : List Report) : Type 0 where
  pub report : Report
  pub is : numbered n reports ≡ Some report

taken_step : (n : ℕ) (r : Report) (reports : List Report) (b : Bool) → (n == length reports + 1) ≡ b → n ≤ length reports + 1
    → (n ≤ length reports → IsTaken n reports) → IsTaken n (r ∷ reports)
taken_step n r reports true is most more = record { report = r; is = rw is refl }
taken_step n r reports false is most more =
    let t = more (omega (arith, eqb-false n (length reports + 1) is, most)) in record { report = t.report; is = rw is t.is }

pub taken_is : (n : ℕ) (reports : List Report) → 1 ≤ n → n ≤ length reports → IsTaken n reports
taken_is n [] some most = absurd (omega (arith, some, most))
taken_is n (r ∷ reports) some most =
    taken_step n r reports (n == length reports + 1) refl (omega (arith, most)) (λ below. taken_is n reports some below)
