-- How commands are spelled, and that this is what is read.
use Rattle.std.specs.Prelude.{◌≡◌, ◌≤◌, ◌<◌, ◌++◌, ◌^◌, ℕ, List, true, Some, codes, decimal}
use Rattle.alarm_rules.specs.SetupWords.{is_pin}
use Rattle.arc_data.specs.Digits.{is_name}
use Rattle.arc_data.specs.Steps.{is_step, fits}
use Rattle.arc_data.specs.declared.step.Outcome.{Outcome}
use Rattle.arc_data.specs.declared.step.Step.{Step}
use Rattle.desk_wire.specs.Commands.{command_of}
use Rattle.desk_wire.specs.Names.{step_name, outcome_name, code_name}
use Rattle.desk_wire.specs.declared.command.Command.{Command}
use Rattle.desk_wire.specs.declared.command.Command.TheVariants.{Login, Quit, Next, Claim, Act, Release, Close, Show, List as Rows}

abbrev pub spelling : Command → List ℕ
spelling (Login name pin) = codes "login " ++ name ++ codes " " ++ pin
spelling Quit = codes "quit"
spelling Next = codes "next"
spelling (Claim number) = codes "claim " ++ decimal number
spelling (Act number step outcome) = codes "act " ++ decimal number ++ codes " " ++ step_name step ++ codes " " ++ outcome_name outcome
spelling (Release number) = codes "release " ++ decimal number
spelling (Close number code) = codes "close " ++ decimal number ++ codes " " ++ code_name code
spelling (Show number) = codes "show " ++ decimal number
spelling Rows = codes "list"

-- the number of an incident: from 1 on, in 8 bytes
pub record IsTyped (number : ℕ) : Type 0 where
  pub some : 1 ≤ number
  pub fits : number < 2 ^ 64

pub record IsLogin (name pin : List ℕ) : Type 0 where
  pub named : is_name name ≡ true
  pub digits : is_pin pin ≡ true

pub record IsAct (number : ℕ) (step : Step) (outcome : Outcome) : Type 0 where
  pub numbered : IsTyped number
  pub known : is_step step ≡ true
  pub fitting : fits step outcome ≡ true

-- the parts of a command are in their ranges
abbrev pub IsCommand : Command → Type 0
IsCommand (Login name pin) = IsLogin name pin
IsCommand Quit = Unit {0}
IsCommand Next = Unit {0}
IsCommand (Claim number) = IsTyped number
IsCommand (Act number step outcome) = IsAct number step outcome
IsCommand (Release number) = IsTyped number
IsCommand (Close number code) = IsTyped number
IsCommand (Show number) = IsTyped number
IsCommand Rows = Unit {0}

-- what is read is spelled so, and its parts are in their ranges
pub record IsRead (line : List ℕ) (command : Command) : Type 0 where
  pub spelled : line ≡ spelling command
  pub ranges : IsCommand command

abbrev pub ReadIsSpelled : Type 0
ReadIsSpelled = (line : List ℕ) (command : Command) → command_of line ≡ Some command → IsRead line command

abbrev pub SpelledIsRead : Type 0
SpelledIsRead = (command : Command) → IsCommand command → command_of (spelling command) ≡ Some command
