-- How steps, outcomes, codes and numbers are written at a desk.
use Rattle.std.specs.Prelude.{ℕ, ◌++◌, List, [], ◌∷◌, Option, codes, decimal}
use Rattle.std.specs.List.{find}
use Rattle.std.specs.Str.{bytes_eq}
use Rattle.alarm_rules.specs.SetupWords.{number_between}
use Rattle.arc_data.specs.declared.event.CloseCode.{CloseCode}
use Rattle.arc_data.specs.declared.event.CloseCode.TheVariants.{Real, False, Test}
use Rattle.arc_data.specs.declared.step.Outcome.{Outcome}
use Rattle.arc_data.specs.declared.step.Outcome.TheVariants.{Reached, NoAnswer, Done}
use Rattle.arc_data.specs.declared.step.Step.{Step}
use Rattle.arc_data.specs.declared.step.Step.TheVariants.{Premises, Holder, Police, Fire, Ambulance, Guard, Note}

abbrev pub step_name : Step → List ℕ
step_name Premises = codes "premises"
step_name (Holder number) = codes "holder" ++ decimal number
step_name Police = codes "police"
step_name Fire = codes "fire"
step_name Ambulance = codes "ambulance"
step_name Guard = codes "guard"
step_name Note = codes "note"

abbrev pub outcome_name : Outcome → List ℕ
outcome_name Reached = codes "reached"
outcome_name NoAnswer = codes "noanswer"
outcome_name Done = codes "done"

abbrev pub code_name : CloseCode → List ℕ
code_name Real = codes "real"
code_name False = codes "false"
code_name Test = codes "test"

abbrev pub all_steps : List Step
all_steps = Premises ∷ Holder 1 ∷ Holder 2 ∷ Holder 3 ∷ Holder 4 ∷ Police ∷ Fire ∷ Ambulance ∷ Guard ∷ Note ∷ []

-- what a word names

abbrev pub step_named : List ℕ → Option Step
step_named word = find (λ step. bytes_eq word (step_name step)) all_steps

abbrev pub outcome_named : List ℕ → Option Outcome
outcome_named word = find (λ outcome. bytes_eq word (outcome_name outcome)) (Reached ∷ NoAnswer ∷ Done ∷ [])

abbrev pub code_named : List ℕ → Option CloseCode
code_named word = find (λ code. bytes_eq word (code_name code)) (Real ∷ False ∷ Test ∷ [])

-- the number of an incident: decimal, without leading zeros, from 1 to the last one of 8 bytes
abbrev pub number_spelled : List ℕ → Option ℕ
number_spelled word = number_between 1 18_446_744_073_709_551_615 word
