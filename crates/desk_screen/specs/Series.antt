-- A series: the steps of an incident that one key records, one behind another.
use Rattle.std.specs.Prelude.{ℕ, ◌+◌, ◌==◌, ◌&&◌, [], ◌∷◌, Bool, true, false, not, Option, Some, None, is_some, min, nat_lt, if◌then◌else◌}
use Rattle.std.specs.Option.{option_map, option_or}
use Rattle.alarm_rules.specs.SetupLines.{after, provided}
use Rattle.arc_data.specs.Steps.{is_call, is_reached}
use Rattle.arc_data.specs.declared.step.Outcome.{Outcome}
use Rattle.arc_data.specs.declared.step.Outcome.TheVariants.{Reached, NoAnswer, Done}
use Rattle.arc_data.specs.declared.step.Step.{Step}
use Rattle.arc_data.specs.declared.step.Step.TheVariants.{Premises, Holder, Police, Fire, Ambulance, Guard, Note}
use Rattle.desk_wire.specs.declared.command.Command.{Command}
use Rattle.desk_wire.specs.declared.command.Command.TheVariants.{Act}
use Rattle.desk_said.specs.declared.said.Said.{Said}
use Rattle.desk_said.specs.declared.said.Said.TheVariants.{Listed, Recorded, Shown}
use Rattle.desk_screen.specs.Inputs.{Input, Key, Answer, Second, Made, Lost, Sitting, news}
use Rattle.desk_screen.specs.Orders.{typed_of, way, wish}
use Rattle.desk_screen.specs.Owning.{own, own_number, same_number}
use Rattle.desk_screen.specs.declared.own.Due.{Due}
use Rattle.desk_screen.specs.declared.own.Due.TheVariants.{Untold, AllMet, Ahead}
use Rattle.desk_screen.specs.declared.own.Own.{Own}
use Rattle.desk_screen.specs.declared.series.Kind.{Kind}
use Rattle.desk_screen.specs.declared.series.Kind.TheVariants.{Tasks, Unanswered, Reaching}
use Rattle.desk_screen.specs.declared.series.Series.{Series}

-- The keys of series: `D` each task is done, `A` no keyholder answered, and `u` `i` `o` `p` the keyholder 1, 2, 3, 4 was reached and
-- those before him did not answer.
abbrev pub kind_of : ℕ → Option Kind
kind_of key =
    if key == 68 then Some Tasks
    else if key == 65 then Some Unanswered
    else if key == 117 then Some (Reaching 1)
    else if key == 105 then Some (Reaching 2)
    else if key == 111 then Some (Reaching 3)
    else if key == 112 then Some (Reaching 4)
    else None

-- the keyholder whom a step calls
abbrev pub holder_of : Step → Option ℕ
holder_of Premises = None
holder_of (Holder number) = Some number
holder_of Police = None
holder_of Fire = None
holder_of Ambulance = None
holder_of Guard = None
holder_of Note = None

-- the call of a keyholder, where this one was reached: no other one is called behind him
abbrev pub call_of : ℕ → ℕ → Option Outcome
call_of reached number = if nat_lt number reached then Some NoAnswer else if number == reached then Some Reached else None

-- What a series records of a step. It records nothing of a step that is none of its own, and goes no further there.
abbrev pub outcome_in : Kind → Step → Option Outcome
outcome_in Tasks step = provided (not (is_call step)) Done
outcome_in Unanswered step = option_map (λ number. NoAnswer) (holder_of step)
outcome_in (Reaching reached) step = after (holder_of step) (call_of reached)

-- the command that records the step which is expected, where it is one of the series
abbrev pub act_in : ℕ → Kind → Due → Option Command
act_in number kind Untold = None
act_in number kind AllMet = None
act_in number kind (Ahead step) = option_map (Act number step) (outcome_in kind step)

abbrev pub first_in : Option Own → Kind → Option Command
first_in None kind = None
first_in (Some own) kind = act_in own.number kind own.due

abbrev pub act_of : ℕ → Kind → Option Own → Option Command
act_of number kind None = None
act_of number kind (Some own) = if own.number == number then act_in number kind own.due else None

-- what an answer is to an incident
abbrev pub shows : Said → ℕ → Bool
shows (Shown view) number = view.number == number
shows other number = false

abbrev pub records : Said → ℕ → Bool
records (Recorded incident left) number = incident == number
records other number = false

abbrev pub is_list : Said → Bool
is_list (Listed total rows) = true
is_list other = false

-- The next command of a series that goes on: an answer shows its incident, the operator's own, and the step that is expected there.
abbrev pub next_in : Said → Option Own → Option Series → Option Command
next_in said own None = None
next_in said own (Some x) = if x.is_on && shows said x.number then act_of x.number x.kind own else None

-- behind a command that records anything but a reached call a series goes on
abbrev pub leads_on : Option Command → Bool
leads_on (Some (Act number step outcome)) = not (is_reached outcome)
leads_on other = false

-- An answer within a series of an incident: to a command, that it is recorded; or one behind which the next step is asked for; or, where
-- the first command is still to be sent, a list.
abbrev pub keeps : Said → Option Command → Option Command → Option Command → ℕ → Bool
keeps said (Some command) asked wish number = records said number
keeps said None (Some next) wish number = leads_on (Some next)
keeps said None None wish number = is_some wish && is_list said

abbrev pub is_own : Option Own → ℕ → Bool
is_own own number = same_number (Some number) (own_number own)

-- how many steps were recorded, in 8 bytes
abbrev pub counted : Said → Option Command → Series → ℕ
counted said way x = if is_some way && records said x.number then min (x.recorded + 1) 18_446_744_073_709_551_615 else x.recorded

abbrev pub begun_by : Kind → Option Command → Option Series
begun_by kind (Some (Act number step outcome)) =
    Some (record { kind = kind; number = number; recorded = 0; is_on = not (is_reached outcome) })
begun_by kind other = None

-- another key ends a series, and one more takes away what is told of it
abbrev pub stopped : Option Series → Option Series
stopped None = None
stopped (Some x) = if x.is_on then Some (record { kind = x.kind; number = x.number; recorded = x.recorded; is_on = false }) else None

abbrev pub broken_off : Option Series → Option Series
broken_off series =
    option_map (λ x. record { kind = x.kind; number = x.number; recorded = x.recorded; is_on = false }) series

abbrev pub heard_in : Said → Option Command → Option Command → Option Command → Option Own → Option Series → Option Series
heard_in said way asked wish own series =
    option_map (λ x. record {
      kind = x.kind;
      number = x.number;
      recorded = counted said way x;
      is_on = x.is_on && (is_own own x.number && keeps said way asked wish x.number);
    }) series

abbrev pub series_after : Input → Said → Option Command → Option Command → Option Command → Option Own → Option Series → Option Series
series_after (Key key) said way asked wish own before = option_or (after (kind_of key) (λ kind. begun_by kind asked)) (stopped before)
series_after (Answer line) said way asked wish own before = heard_in said way asked wish own before
series_after Second said way asked wish own before = before
series_after Made said way asked wish own before = broken_off before
series_after Lost said way asked wish own before = broken_off before

-- The series that the newest key began, or that it ended: what it records, of which incident, how many steps were recorded, and whether
-- it goes on.
unfoldable pub series : Sitting → Option Series
series [] = None
series (t ∷ s) = series_after t.input (news t.input (way s)) (typed_of (way s)) t.asked (wish s) (own (t ∷ s)) (series s)
