-- Where no step is expected, each is met.
use Rattle.std.proofs.Common.{◌≡◌, ◌<◌, ◌≤◌, ℕ, zero, suc, ◌+◌, List, length, get_or, Bool, true, false, cond, refl, sym, ap, ◌∙◌, Option, Some, None, arith, inl, inr}
use Rattle.std.specs.Prelude.{◌⊎◌, not, take, option_and_then, slice_get}
use Rattle.std.specs.List.{find, range_with_len}
use Rattle.std.proofs.Math.Nat.{eq-or-lt_of_le}
use Rattle.std.proofs.lemmas.Option.{slice_get-get_or}
use Rattle.arc_data.specs.declared.step.Acted.{Acted}
use Rattle.arc_data.specs.declared.step.Step.{Step}
use Rattle.arc_data.specs.declared.step.Step.TheVariants.{Note}
use Rattle.alarm_rules.specs.Plans.{is_met, is_unmet, expected_step}
use Rattle.centre_laws.specs.Closings.{MeetAll}

not_false : (b : Bool) → not b ≡ false → b ≡ true
not_false true e = refl
not_false false e = cc

module _ (steps : List Step) (acts : List Acted) where
  -- the first step from a place on that is not met
  abbrev first_from : ℕ → ℕ → Option Step
  first_from from more = option_and_then (slice_get steps) (find (is_unmet steps acts) (range_with_len from more))

  step_at : (b : Bool) (from more place : ℕ) → is_unmet steps acts from ≡ b → from < length steps → (from ≡ place) ⊎ (from < place)
      → (from + 1 ≤ place → first_from (from + 1) more ≡ None → is_unmet steps acts place ≡ false)
      → option_and_then (slice_get steps) (cond b (Some from) (find (is_unmet steps acts) (range_with_len (from + 1) more))) ≡ None
      → is_unmet steps acts place ≡ false
  step_at false from more place met lt (inl same) rest e = ap (is_unmet steps acts) (sym same) ∙ met
  step_at false from more place met lt (inr later) rest e = rest (omega arith) e
  step_at true from more place met lt w rest e = let some = slice_get-get_or steps from Note lt in cc

  none_from : (more from place : ℕ) → from + more ≡ length steps → from ≤ place → place < length steps → first_from from more ≡ None → is_unmet steps acts place ≡ false
  none_from zero from place e le lt none = absurd (omega (arith, e))
  none_from (suc more) from place e le lt none =
      step_at (is_unmet steps acts from) from more place refl (omega (arith, e)) (eq-or-lt_of_le le)
      (λ next rest. none_from more (from + 1) place (omega (arith, e)) next lt rest) none

pub meet_all : (steps : List Step) (acts : List Acted) → expected_step steps acts ≡ None → MeetAll acts steps
meet_all steps acts none place lt =
    not_false (is_met acts (take place steps) (get_or steps place Note)) (none_from steps acts (length steps) 0 place (omega arith) (omega arith) lt none)
