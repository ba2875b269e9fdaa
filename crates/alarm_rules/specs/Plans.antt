-- The steps of a plan, and which of them are met.
use Rattle.std.specs.Prelude.{ℕ, ◌&&◌, ◌||◌, List, [], ◌∷◌, Bool, not, Option, option_and_then}
use Rattle.std.specs.Prelude.{length, map, take, slice_get, slice_index_or}
use Rattle.std.specs.List.{filter, find, flat_map, list_any, range_with_len}
pub use Rattle.arc_data.specs.Steps.{is_call, is_reached, fits}
use Rattle.arc_data.specs.Steps.{same_step}
use Rattle.arc_data.specs.declared.plan.Planned.{Planned}
use Rattle.arc_data.specs.declared.plan.PlanWord.{PlanWord}
use Rattle.arc_data.specs.declared.plan.PlanWord.TheVariants.{Premises as CallPremises, Holders, Police as SendPolice}
use Rattle.arc_data.specs.declared.plan.PlanWord.TheVariants.{Fire as SendFire, Ambulance as SendAmbulance}
use Rattle.arc_data.specs.declared.plan.PlanWord.TheVariants.{Guard as SendGuard, Note as WriteNote}
use Rattle.arc_data.specs.declared.step.Acted.{Acted}
use Rattle.arc_data.specs.declared.step.Step.{Step}
use Rattle.arc_data.specs.declared.step.Step.TheVariants.{Premises, Holder, Police, Fire, Ambulance, Guard, Note}

-- Plans.

-- one call for each keyholder, from the first on
abbrev pub calls_of_holders : ℕ → List Step
calls_of_holders holders = map Holder (range_with_len 1 holders)

-- the steps of a word, for an account with so many keyholders
abbrev pub steps_of_word : ℕ → PlanWord → List Step
steps_of_word holders CallPremises = Premises ∷ []
steps_of_word holders Holders = calls_of_holders holders
steps_of_word holders SendPolice = Police ∷ []
steps_of_word holders SendFire = Fire ∷ []
steps_of_word holders SendAmbulance = Ambulance ∷ []
steps_of_word holders SendGuard = Guard ∷ []
steps_of_word holders WriteNote = Note ∷ []

-- a word with the mark `@closed` counts only outside open hours
abbrev pub is_counted : Bool → Planned → Bool
is_counted in_hours planned = not (planned.closed && in_hours)

-- the steps of the words of a plan at a moment in or outside open hours, for an account with so many keyholders
unfoldable pub steps_in : Bool → ℕ → List Planned → List Step
steps_in in_hours holders words = flat_map (λ p. steps_of_word holders p.word) (filter (is_counted in_hours) words)

-- Which steps are met.

-- the step is recorded
abbrev pub was_done : List Acted → Step → Bool
was_done acts step = list_any (λ a. same_step a.step step) acts

-- the step is a call that is recorded as reached
abbrev pub was_reached : List Acted → Step → Bool
was_reached acts step = is_call step && list_any (λ a. same_step a.step step && is_reached a.outcome) acts

-- a step that stands after these earlier ones is met where it is recorded, or where it is a call and an earlier call is
-- recorded as reached
abbrev pub is_met : List Acted → List Step → Step → Bool
is_met acts earlier step = was_done acts step || (is_call step && list_any (was_reached acts) earlier)

-- the step at a place of the list of steps is not met
abbrev pub is_unmet : List Step → List Acted → ℕ → Bool
is_unmet steps acts place = not (is_met acts (take place steps) (slice_index_or steps place Note))

-- the places of the steps, in order
abbrev pub places : List Step → List ℕ
places steps = range_with_len 0 (length steps)

-- the places of the steps that are not met
unfoldable pub unmet : List Step → List Acted → List ℕ
unmet steps acts = filter (is_unmet steps acts) (places steps)

-- the place of the first step that is not met
abbrev pub remaining : List Step → List Acted → Option ℕ
remaining steps acts = find (is_unmet steps acts) (places steps)

-- the first step that is not met: the one that is expected next
abbrev pub expected_step : List Step → List Acted → Option Step
expected_step steps acts = option_and_then (slice_get steps) (remaining steps acts)

-- how many steps are not met
abbrev pub left : List Step → List Acted → ℕ
left steps acts = length (unmet steps acts)
