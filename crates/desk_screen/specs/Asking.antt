-- Which command a key asks for.
use Rattle.std.specs.Prelude.{ℕ, ◌==◌, List, Bool, ◌&&◌, Option, Some, None, is_none, if◌then◌else◌}
use Rattle.std.specs.Option.{option_map, option_or}
use Rattle.alarm_rules.specs.SetupLines.{after, is_nil, provided}
use Rattle.alarm_rules.specs.SetupWords.{is_pin, word_that}
use Rattle.arc_data.specs.Steps.{fits}
use Rattle.arc_data.specs.declared.event.CloseCode.{CloseCode}
use Rattle.arc_data.specs.declared.event.CloseCode.TheVariants.{Real, False, Test}
use Rattle.arc_data.specs.declared.step.Outcome.{Outcome}
use Rattle.arc_data.specs.declared.step.Outcome.TheVariants.{Reached, NoAnswer, Done}
use Rattle.desk_wire.specs.Names.{number_spelled}
use Rattle.desk_wire.specs.declared.command.Command.{Command}
use Rattle.desk_wire.specs.declared.command.Command.TheVariants.{Login, Next, Claim, Act, Release, Close, Show}
use Rattle.desk_screen.specs.Orders.{typed_of}
use Rattle.desk_screen.specs.Owning.{own_number}
use Rattle.desk_screen.specs.Series.{first_in, kind_of}
use Rattle.desk_screen.specs.Typing.{is_enter}
use Rattle.desk_screen.specs.declared.order.Order.{Order}
use Rattle.desk_screen.specs.declared.own.Due.{Due}
use Rattle.desk_screen.specs.declared.own.Due.TheVariants.{Untold, AllMet, Ahead}
use Rattle.desk_screen.specs.declared.own.Own.{Own}

-- a key asks for nothing without a connection, and while another command of the operator's waits for its turn or its answer
abbrev pub may_ask : Bool → Option Order → Option Command → Bool
may_ask connected way wish = connected && (is_none (typed_of way) && is_none wish)

-- the enter behind a PIN
abbrev pub login_key : Option (List ℕ) → List ℕ → ℕ → Option Command
login_key None typed key = None
login_key (Some name) typed key = if is_enter key then option_map (Login name) (word_that is_pin typed) else None

-- `r` reached, `a` no answer, `d` done
abbrev pub outcome_of : ℕ → Option Outcome
outcome_of key = if key == 114 then Some Reached else if key == 97 then Some NoAnswer else if key == 100 then Some Done else None

-- the outcome of the step that is expected, where it fits
abbrev pub act_at : ℕ → Due → Outcome → Option Command
act_at number Untold outcome = None
act_at number AllMet outcome = None
act_at number (Ahead step) outcome = provided (fits step outcome) (Act number step outcome)

abbrev pub acted : Option Own → Outcome → Option Command
acted None outcome = None
acted (Some own) outcome = act_at own.number own.due outcome

-- `R` real, `F` false, `T` test
abbrev pub code_of : ℕ → Option CloseCode
code_of key = if key == 82 then Some Real else if key == 70 then Some False else if key == 84 then Some Test else None

-- a closing is confirmed: the key before this one says the code
abbrev pub closed_by : Option ℕ → Option Own → Option Command
closed_by last own = after (own_number own) (λ number. after last (λ key. option_map (Close number) (code_of key)))

-- the number that was typed, or else that of the own incident
abbrev pub number_meant : List ℕ → Option Own → Option ℕ
number_meant typed own = if is_nil typed then own_number own else number_spelled typed

-- at work: `n` next, `c` claim, `s` show, `l` release, `y` close, an outcome, or the first command of a series
abbrev pub work_key : Option Own → Option ℕ → List ℕ → ℕ → Option Command
work_key own last typed key =
    if key == 110 then Some Next
    else if key == 99 then option_map Claim (number_spelled typed)
    else if key == 115 then option_map Show (number_meant typed own)
    else if key == 108 then option_map Release (own_number own)
    else if key == 121 then closed_by last own
    else option_or (after (outcome_of key) (acted own)) (after (kind_of key) (first_in own))

abbrev pub key_asks : Option (List ℕ) → Option Own → Option ℕ → List ℕ → Option (List ℕ) → ℕ → Option Command
key_asks None own last typed name key = login_key name typed key
key_asks (Some user) own last typed name key = work_key own last typed key
