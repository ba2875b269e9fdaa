-- Which command a line of a desk spells.
use Rattle.std.specs.Prelude.{ℕ, if◌then◌else◌, List, [], ◌∷◌, Option, Some, None, codes}
use Rattle.std.specs.Option.{option_map}
use Rattle.std.specs.Str.{bytes_eq}
use Rattle.alarm_rules.specs.SetupLines.{words_of, after, is_nil, provided}
use Rattle.alarm_rules.specs.SetupWords.{word_that, is_pin}
use Rattle.arc_data.specs.Digits.{is_name}
use Rattle.arc_data.specs.Steps.{fits}
use Rattle.desk_wire.specs.Names.{step_named, outcome_named, code_named, number_spelled}
use Rattle.desk_wire.specs.declared.command.Command.{Command}
use Rattle.desk_wire.specs.declared.command.Command.TheVariants.{Login, Quit, Next, Claim, Act, Release, Close, Show, List as Rows}

-- Lines, by the words behind the first one.

-- `login NAME PIN`
abbrev pub login_line : List (List ℕ) → Option Command
login_line (word ∷ digits ∷ []) = after (word_that is_name word) (λ name. option_map (Login name) (word_that is_pin digits))
login_line other = None

-- `quit`, `next`, `list`
abbrev pub alone : Command → List (List ℕ) → Option Command
alone command words = provided (is_nil words) command

-- `claim NUMBER`, `release NUMBER`, `show NUMBER`
abbrev pub one_number : List (List ℕ) → Option ℕ
one_number (word ∷ []) = number_spelled word
one_number other = None

-- `act NUMBER STEP OUTCOME`, where the outcome fits the step
abbrev pub act_line : List (List ℕ) → Option Command
act_line (digits ∷ of_step ∷ of_outcome ∷ []) =
    after (number_spelled digits) (λ number.
    after (step_named of_step) (λ step.
    after (outcome_named of_outcome) (λ outcome.
    provided (fits step outcome) (Act number step outcome))))
act_line other = None

-- `close NUMBER CODE`
abbrev pub close_line : List (List ℕ) → Option Command
close_line (digits ∷ name ∷ []) = after (number_spelled digits) (λ number. option_map (Close number) (code_named name))
close_line other = None

abbrev pub command_of_words : List (List ℕ) → Option Command
command_of_words [] = None
command_of_words (word ∷ words) =
    if bytes_eq word (codes "login") then login_line words
    else if bytes_eq word (codes "quit") then alone Quit words
    else if bytes_eq word (codes "next") then alone Next words
    else if bytes_eq word (codes "claim") then option_map Claim (one_number words)
    else if bytes_eq word (codes "act") then act_line words
    else if bytes_eq word (codes "release") then option_map Release (one_number words)
    else if bytes_eq word (codes "close") then close_line words
    else if bytes_eq word (codes "show") then option_map Show (one_number words)
    else if bytes_eq word (codes "list") then alone Rows words
    else None

-- The command that a line, without its end, spells. One space stands between two words.
unfoldable pub command_of : List ℕ → Option Command
command_of line = command_of_words (words_of line)
