-- Events whose fields are in their ranges.
use Rattle.std.specs.Prelude.{◌≡◌, ◌<◌, ◌≤◌, ◌^◌, ℕ, List, Bool, true, Option, length}
use Rattle.std.specs.Option.{option_map_or}
use Rattle.arc_data.specs.Digits.{is_run, is_hex, is_capital_hex, is_name, AreBytes}
use Rattle.arc_data.specs.Steps.{is_step, fits}
use Rattle.arc_data.specs.declared.event.Event.{Event}
use Rattle.arc_data.specs.declared.event.Event.TheVariants.{Adopt, Message as Sent, Beat}
use Rattle.arc_data.specs.declared.event.Event.TheVariants.{Claim, Next, Act, Release, Close, Show}
use Rattle.arc_data.specs.declared.event.Message.{Message}
use Rattle.arc_data.specs.declared.step.Outcome.{Outcome}
use Rattle.arc_data.specs.declared.step.Step.{Step}

-- no `R` field, or 1 to 6 hexadecimal digits
abbrev pub is_receiver : Option (List ℕ) → Bool
is_receiver digits = option_map_or (is_run is_hex 1 6) digits true

-- a message: an account of 3 to 16 hexadecimal digits in capitals, an `R` field or none, an `L` field, a sequence of four
-- digits, and at most 4,095 bytes
pub record IsMessage (m : Message) : Type 0 where
  pub account : is_run is_capital_hex 3 16 m.account ≡ true
  pub receiver : is_receiver m.receiver ≡ true
  pub line : is_run is_hex 1 6 m.line ≡ true
  pub sequence : m.seq ≤ 9999
  pub size : length m.content ≤ 4095
  pub bytes : AreBytes m.content

-- a message, and the name of the line by which it came
pub record IsSent (m : Message) (via : List ℕ) : Type 0 where
  pub message : IsMessage m
  pub line_name : is_name via ≡ true

-- a setup text: at most 4,194,304 bytes
pub record IsText (text : List ℕ) : Type 0 where
  pub size : length text ≤ 4194304
  pub bytes : AreBytes text

-- a number of an incident fits 8 bytes
abbrev pub IsNumber : ℕ → Type 0
IsNumber number = number < 2 ^ 64

-- an operator and the number of an incident
pub record IsOrder (operator : List ℕ) (number : ℕ) : Type 0 where
  pub operator_name : is_name operator ≡ true
  pub number_fits : IsNumber number

-- an act besides: a step, and an outcome that fits it
pub record IsAct (operator : List ℕ) (number : ℕ) (step : Step) (outcome : Outcome) : Type 0 where
  pub order : IsOrder operator number
  pub known_step : is_step step ≡ true
  pub outcome_fits : fits step outcome ≡ true

-- the fields of an event are in their ranges
abbrev pub IsWellFormed : Event → Type 0
IsWellFormed (Adopt text) = IsText text
IsWellFormed (Sent m via) = IsSent m via
IsWellFormed (Beat account) = is_run is_capital_hex 3 16 account ≡ true
IsWellFormed (Claim operator number) = IsOrder operator number
IsWellFormed (Next operator) = is_name operator ≡ true
IsWellFormed (Act operator number step outcome) = IsAct operator number step outcome
IsWellFormed (Release operator number) = IsOrder operator number
IsWellFormed (Close operator number code) = IsOrder operator number
IsWellFormed (Show number) = IsNumber number
IsWellFormed other = Unit {0}
