-- The acts of each open incident are of its steps, no two of one step.
use Rattle.std.proofs.Common.{◌≡◌, ℕ, zero, suc, List, [], ◌∷◌, ◌++◌, take, Bool, true, false, cond, Option, Some, None, refl, sym, ap, ◌∙◌, subst}
use Rattle.std.specs.Prelude.{◌||◌, ◌&&◌, ◌==◌, not, slice_get, slice_index_or, option_and_then}
use Rattle.std.specs.List.{find, list_any}
use Rattle.std.proofs.lemmas.Bool.{false≢true, eqb-true}
use Rattle.arc_data.specs.Incidents.{Each, Ascends}
use Rattle.arc_data.specs.Steps.{same_step, same_step_equiv}
use Rattle.arc_data.specs.declared.incident.Incident.{Incident}
use Rattle.arc_data.specs.declared.step.Acted.{Acted}
use Rattle.arc_data.specs.declared.step.Step.{Step}
use Rattle.arc_data.specs.declared.step.Step.TheVariants.{Note}
use Rattle.alarm_rules.specs.Plans.{is_call, was_done, was_reached, is_met, is_unmet, places, remaining, expected_step}
use Rattle.centre_rules.specs.Summary.{Summary}
use Rattle.centre_rules.specs.Marks.{Mark, Carries, Acts, lapse}
use Rattle.centre_rules.specs.Cases.{incidents, opened}
use Rattle.centre_rules.specs.Standing.{stands_at, standing}
use Rattle.centre_rules.specs.Tables.{table_after}
use Rattle.centre_rules.specs.Desks.{numbered}
use Rattle.centre_rules.proofs.Steps.{incidents_begin, incidents_step, opened_step}
use Rattle.centre_rules.proofs.Stood.{standing_of, stood_found}
use Rattle.centre_rules.proofs.Tables.{ascends_table, all_found}
use Rattle.summary_rules.specs.Lists.{Every}
use Rattle.summary_rules.specs.Conditions.{AreActsOf}
use Rattle.summary_rules.specs.Laws.{HasActs, ActsStay}
use Rattle.summary_rules.proofs.Everies.{every_append, every_weaker}
use Rattle.summary_rules.proofs.Moments.{NewIs, every_table}
use Rattle.summary_rules.proofs.Pairs.{every_both, two_more}
use Rattle.summary_rules.proofs.Fine.{IsFine, IsActedAt}
use Rattle.summary_rules.proofs.Keeping.{kept}

-- The step that is expected is one of the steps, and no act is of it.

find_passes : (test : ℕ → Bool) (xs : List ℕ) (x : ℕ) → find test xs ≡ Some x → test x ≡ true
find_passes test [] x e = absurd (cc)
find_passes test (y ∷ ys) x e = by (test y) refl e (find_passes test ys x)
  where
    by : (b : Bool) → test y ≡ b → cond b (Some y) (find test ys) ≡ Some x → (find test ys ≡ Some x → test x ≡ true) → test x ≡ true
    by true passed is rest = let same : y ≡ x = cc in ap test (sym same) ∙ passed
    by false failed is rest = rest is

or_right : (b c : Bool) → c ≡ true → (b || c) ≡ true
or_right true c e = refl
or_right false c e = e

or_left : (b c : Bool) → b ≡ true → (b || c) ≡ true
or_left true c e = refl
or_left false c e = absurd (false≢true e)

among : (steps : List Step) (place : ℕ) (s : Step) → slice_get steps place ≡ Some s → list_any (same_step s) steps ≡ true
among [] place s e = absurd (cc)
among (x ∷ steps) zero s e =
    let same : x ≡ s = cc in
    or_left (same_step s x) (list_any (same_step s) steps) (ap (same_step s) same ∙ same_step_equiv.refl s)
among (x ∷ steps) (suc place) s e = or_right (same_step s x) (list_any (same_step s) steps) (among steps place s e)

at_place : (steps : List Step) (place : ℕ) (s d : Step) → slice_get steps place ≡ Some s → slice_index_or steps place d ≡ s
at_place [] place s d e = absurd (cc)
at_place (x ∷ steps) zero s d e = cc
at_place (x ∷ steps) (suc place) s d e = at_place steps place s d e

not_true : (b : Bool) → not b ≡ true → b ≡ false
not_true true e = absurd (false≢true e)
not_true false e = refl

or_none : (b c : Bool) → (b || c) ≡ false → b ≡ false
or_none true c e = absurd (false≢true (sym e))
or_none false c e = refl

-- what is known of the step that is expected
record IsExpected (steps : List Step) (acts : List Acted) (s : Step) : Type 0 where
  there : list_any (same_step s) steps ≡ true
  undone : was_done acts s ≡ false

expected_at : (steps : List Step) (acts : List Acted) (s : Step) (o : Option ℕ) → remaining steps acts ≡ o → option_and_then (slice_get steps) o ≡ Some s → IsExpected steps acts s
expected_at steps acts s None e f = absurd (cc)
expected_at steps acts s (Some place) e f =
    let unmet = find_passes (is_unmet steps acts) (places steps) place e in
    let step_is = at_place steps place s Note f in
    let met : is_met acts (take place steps) s ≡ false =
    ap (is_met acts (take place steps)) (sym step_is) ∙ not_true (is_met acts (take place steps) (slice_index_or steps place Note)) unmet in
    record { there = among steps place s f; undone = or_none (was_done acts s) (is_call s && list_any (was_reached acts) (take place steps)) met }

expected_is : (steps : List Step) (acts : List Acted) (s : Step) → expected_step steps acts ≡ Some s → IsExpected steps acts s
expected_is steps acts s e = expected_at steps acts s (remaining steps acts) refl e

none_done : (acts : List Acted) (s : Step) → was_done acts s ≡ false → Every (λ a. same_step a.step s ≡ false) acts
none_done [] s e = tt
none_done (a ∷ acts) s e = by (same_step a.step s) refl e (none_done acts s)
  where
    by : (b : Bool) → same_step a.step s ≡ b → (b || was_done acts s) ≡ false → (was_done acts s ≡ false → Every (λ a. same_step a.step s ≡ false) acts)
        → Every (λ a. same_step a.step s ≡ false) (a ∷ acts)
    by true same is rest = absurd (false≢true (sym is))
    by false differs is rest = (differs, rest is)

-- An act more.

any_same : (a s : Step) → same_step a s ≡ true → (steps : List Step) → list_any (same_step a) steps ≡ list_any (same_step s) steps
any_same a s e [] = refl
any_same a s e (x ∷ steps) =
    let one : same_step a x ≡ same_step s x = same_step_equiv.congr a s x e in
    λ i. one i || any_same a s e steps i

differs_from : (a s x : Step) → same_step a s ≡ true → same_step x s ≡ false → same_step x a ≡ false
differs_from a s x e f = same_step_equiv.symm x a ∙ same_step_equiv.congr a s x e ∙ same_step_equiv.symm s x ∙ f

act_more : (i : Incident) (acted : Acted) (s : Step) → HasActs i → expected_step i.steps i.acts ≡ Some s → same_step acted.step s ≡ true → AreActsOf i.steps (i.acts ++ acted ∷ [])
act_more i acted s w expected same =
    let known = expected_is i.steps i.acts s expected in
    record {
      among = every_append (λ (a : Acted). list_any (same_step a.step) i.steps ≡ true) i.acts (acted ∷ []) w.among (any_same acted.step s same i.steps ∙ known.there, tt);
      apart = two_more (λ (a other : Acted). same_step a.step other.step ≡ false) i.acts acted w.apart
          (every_weaker (λ (a : Acted). same_step a.step s ≡ false) (λ (a : Acted). same_step a.step acted.step ≡ false)
          (λ a p. differs_from acted.step s a.step same p) i.acts (none_done i.acts s known.undone));
    }

each_every : (P : Incident → Type 0) (is : List Incident) → Each P is → Every P is
each_every P [] w = tt
each_every P (i ∷ is) w = (w.0, each_every P is w.1)

-- an incident with what is found under its number
record FoundHas (all : List Incident) (i : Incident) : Type 0 where
  acts : HasActs i
  found : numbered i.number all ≡ Some i

act_if : (seconds : Option ℕ) (all : List Incident) (at number : ℕ) (acted : Acted) (i : Incident) (b : Bool) → IsActedAt at number acted (standing_of seconds at all)
    → FoundHas all i → (i.number == number) ≡ b → AreActsOf i.steps (cond b (i.acts ++ acted ∷ []) i.acts)
act_if seconds all at number acted i true fine w e =
    let stood = stood_found seconds at number all fine.incident fine.found in
    let same : Some stood.incident ≡ Some i = sym stood.found ∙ ap (λ n. numbered n all) (sym (eqb-true i.number number e)) ∙ w.found in
    let one : stood.incident ≡ i = cc in
    let is : fine.incident ≡ stands_at seconds at i = stood.same ∙ ap (stands_at seconds at) one in
    act_more i acted fine.awaited w.acts (subst (λ (j : Incident). expected_step j.steps j.acts ≡ Some fine.awaited) is fine.expected) fine.same
act_if seconds all at number acted i false fine w e = w.acts

new_acts : (m : Mark) (count : ℕ) (is : List Incident) → NewIs HasActs m count is
new_acts (Carries x) count is = λ e. record { among = tt; apart = tt }
new_acts m count is = tt

acts_table : (seconds : Option ℕ) (m : Mark) (at count : ℕ) (is : List Incident) → IsFine (standing_of seconds at is) at m → Ascends 0 is count → Every HasActs is → Every HasActs (table_after m count is)
acts_table seconds (Acts number acted) at count is fine a w =
    every_table (FoundHas is) HasActs (Acts number acted) count is
    (every_both HasActs (λ i. numbered i.number is ≡ Some i) (FoundHas is) (λ i p q. record { acts = p; found = q }) is w (each_every (λ i. numbered i.number is ≡ Some i) is (all_found 0 is count a)))
    tt (λ i p. act_if seconds is at number acted i (i.number == number) fine p refl)
acts_table seconds m at count is fine a w = every_table HasActs HasActs m count is w (new_acts m count is) (λ i p. p)

-- Over a history.

record AreKept (s : Summary) (ms : List Mark) (at : ℕ) : Type 0 where
  numbers : Ascends 0 (incidents s ms) (opened s ms)
  each : Every HasActs (incidents s ms)

one_more : (s : Summary) (ms : List Mark) (at : ℕ) (m : Mark) → IsFine (standing s ms at) at m → AreKept s ms at → AreKept s (m ∷ ms) at
one_more s ms at m fine w = record {
  numbers = rw (incidents_step s m ms, opened_step s m ms) (ascends_table m (opened s ms) (incidents s ms) w.numbers);
  each = subst (Every HasActs) (sym (incidents_step s m ms)) (acts_table (lapse s ms) m at (opened s ms) (incidents s ms) fine w.numbers w.each);
}

pub acts_stay : ActsStay
acts_stay s h numbers w legal =
    (kept {J = AreKept s} s (record { later = λ ms low at le k. record { numbers = k.numbers; each = k.each }; mark = one_more s })
    (record { numbers = rw (incidents_begin s) numbers; each = subst (Every HasActs) (sym (incidents_begin s)) w }) h legal).each
