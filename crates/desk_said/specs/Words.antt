-- Words of a desk's answers.
use Rattle.std.specs.Prelude.{ℕ, List, [], Bool, true, false, if◌then◌else◌, Option, Some, None, codes}
use Rattle.std.specs.Option.{option_map}
use Rattle.std.specs.Str.{bytes_eq}
use Rattle.alarm_rules.specs.SetupWords.{number_between, word_that}
use Rattle.arc_data.specs.Digits.{is_name}
use Rattle.arc_data.specs.declared.step.Step.{Step}
use Rattle.desk_wire.specs.Names.{step_named}

-- a count or a moment: decimal, without leading zeros, from 0 to the last number of 8 bytes
abbrev pub count_spelled : List ℕ → Option ℕ
count_spelled word = number_between 0 18_446_744_073_709_551_615 word

-- what stands for nobody or nothing, or else what the word reads as
abbrev pub or_none : {A : Type 0} → List ℕ → (List ℕ → Option A) → List ℕ → Option (Option A)
or_none {A} nobody read word = if bytes_eq word nobody then Some None else option_map Some (read word)

-- a step, or `none`
abbrev pub step_or_none : List ℕ → Option (Option Step)
step_or_none word = or_none (codes "none") step_named word

-- an operator, or what stands for nobody
abbrev pub holder_or : List ℕ → List ℕ → Option (Option (List ℕ))
holder_or nobody word = or_none nobody (word_that is_name) word

-- the name of a line, or what stands for none
abbrev pub line_or_dash : List ℕ → Option (List ℕ)
line_or_dash word = if bytes_eq word (codes "-") then Some [] else word_that is_name word

-- `yes` or `no`
abbrev pub yes_or_no : List ℕ → Option Bool
yes_or_no word = if bytes_eq word (codes "yes") then Some true else if bytes_eq word (codes "no") then Some false else None
