-- Steps told apart, and which outcome fits which step.
use Rattle.std.specs.Prelude.{ℕ, Bool, true, false, not, if◌then◌else◌, nat_eq, ◌+◌}
use Rattle.std.specs.Cmp.{IsEquivalence, on_equiv, nat_eq_equiv}
use Rattle.arc_data.specs.Digits.{is_between}
use Rattle.arc_data.specs.declared.step.Outcome.{Outcome}
use Rattle.arc_data.specs.declared.step.Outcome.TheVariants.{Reached, Done}
use Rattle.arc_data.specs.declared.step.Step.{Step}
use Rattle.arc_data.specs.declared.step.Step.TheVariants.{Premises, Holder, Police, Fire, Ambulance, Guard, Note}

-- a number of its own for each step
abbrev pub step_place : Step → ℕ
step_place Premises = 0
step_place Police = 1
step_place Fire = 2
step_place Ambulance = 3
step_place Guard = 4
step_place Note = 5
step_place (Holder number) = number + 6

-- whether two steps are the same
abbrev pub same_step : Step → Step → Bool
same_step a b = nat_eq (step_place a) (step_place b)

pub same_step_equiv : IsEquivalence same_step
same_step_equiv = on_equiv step_place nat_eq_equiv

-- keyholders are numbered from 1 to 4
abbrev pub is_step : Step → Bool
is_step (Holder number) = is_between 1 4 number
is_step other = true

-- the steps that are calls: of the premises and of keyholders
abbrev pub is_call : Step → Bool
is_call Premises = true
is_call (Holder number) = true
is_call other = false

abbrev pub is_reached : Outcome → Bool
is_reached Reached = true
is_reached other = false

abbrev pub is_done : Outcome → Bool
is_done Done = true
is_done other = false

-- calls are recorded as reached or unanswered, all other steps as done
abbrev pub fits : Step → Outcome → Bool
fits step outcome = if is_call step then not (is_done outcome) else is_done outcome
