-- Which incident is the operator's own, and which step is expected, as the desk told it last.
use Rattle.std.specs.Prelude.{ℕ, ◌==◌, List, [], ◌∷◌, Bool, true, false, Option, Some, None, if◌then◌else◌}
use Rattle.std.specs.List.{find, list_any}
use Rattle.std.specs.Option.{option_map}
use Rattle.std.specs.Str.{bytes_eq}
use Rattle.alarm_rules.specs.SetupLines.{after}
use Rattle.arc_data.specs.declared.listing.Row.{Row}
use Rattle.arc_data.specs.declared.listing.View.{View}
use Rattle.arc_data.specs.declared.step.Step.{Step}
use Rattle.desk_wire.specs.declared.command.Command.{Command}
use Rattle.desk_wire.specs.declared.command.Command.TheVariants.{Act, Close}
use Rattle.desk_said.specs.declared.said.Said.{Said}
use Rattle.desk_said.specs.declared.said.Said.TheVariants.{Welcome, Claimed, BusyWith, NotOpen}
use Rattle.desk_said.specs.declared.said.Said.TheVariants.{NotYours, Expected, Missing, Recorded, Released, Closed, Listed, Shown}
use Rattle.desk_screen.specs.Inputs.{Input, Sitting, is_break, news}
use Rattle.desk_screen.specs.Orders.{way, typed_of, user}
use Rattle.desk_screen.specs.declared.order.Order.{Order}
use Rattle.desk_screen.specs.declared.own.Due.{Due}
use Rattle.desk_screen.specs.declared.own.Due.TheVariants.{Untold, AllMet, Ahead}
use Rattle.desk_screen.specs.declared.own.Own.{Own}

-- the step that comes first, or that each is met
abbrev pub due_of : Option Step → Due
due_of None = AllMet
due_of (Some step) = Ahead step

abbrev pub own_number : Option Own → Option ℕ
own_number own = option_map (λ o. o.number) own

-- the number of an own incident whose step the desk has still to tell
abbrev pub untold_at : ℕ → Due → Option ℕ
untold_at number Untold = Some number
untold_at number AllMet = None
untold_at number (Ahead step) = None

abbrev pub untold_number : Option Own → Option ℕ
untold_number None = None
untold_number (Some own) = untold_at own.number own.due

-- an incident of which only the number was told
abbrev pub mere : ℕ → Own
mere number = record { number = number; due = Untold; view = None }

abbrev pub with_due : Due → Option Own → Option Own
with_due due own = option_map (λ o. record { number = o.number; due = due; view = o.view }) own

-- it is no longer the operator's, where it has this number
abbrev pub dropped : ℕ → Option Own → Option Own
dropped number None = None
dropped number (Some own) = if own.number == number then None else Some own

abbrev pub is_held_by : Option (List ℕ) → Option (List ℕ) → Bool
is_held_by None holder = false
is_held_by (Some name) None = false
is_held_by (Some name) (Some holder) = bytes_eq holder name

-- the own incident, as it is shown
abbrev pub viewed : Option (List ℕ) → View → Option Own
viewed user view =
    if is_held_by user view.holder then Some (record { number = view.number; due = due_of view.expected; view = Some view }) else None

abbrev pub seen : Option (List ℕ) → View → Option Own → Option Own
seen user view None = None
seen user view (Some own) = if own.number == view.number then viewed user view else Some own

-- a list shows that this incident is the operator's
abbrev pub kept : ℕ → Option Own → Option Own
kept number None = Some (mere number)
kept number (Some own) = if own.number == number then Some own else Some (mere number)

-- a list shows none that is: the own one is no longer that, where it stands there
abbrev pub lost_in : List Row → Option Own → Option Own
lost_in rows None = None
lost_in rows (Some own) = if list_any (λ r. r.number == own.number) rows then None else Some own

abbrev pub held_in : List Row → Option Row → Option Own → Option Own
held_in rows None before = lost_in rows before
held_in rows (Some row) before = kept row.number before

abbrev pub same_number : Option ℕ → Option ℕ → Bool
same_number None None = true
same_number None (Some other) = false
same_number (Some number) None = false
same_number (Some number) (Some other) = number == other

-- the incident that a command on the way works on, of whose steps its answer may tell
abbrev pub number_of : Command → Option ℕ
number_of (Act number step outcome) = Some number
number_of (Close number code) = Some number
number_of other = None

abbrev pub worked_on : Option Order → Option ℕ
worked_on way = after (typed_of way) number_of

-- what is told of the steps of the incident with this number, where that is the own one
abbrev pub told_at : Option ℕ → Due → Option Own → Option Own
told_at number due own = if same_number number (own_number own) then with_due due own else own

-- the incident was shown as this operator's
abbrev pub is_shown_by : List ℕ → Option View → Bool
is_shown_by name None = false
is_shown_by name (Some view) = is_held_by (Some name) view.holder

-- Whoever logs in goes on with the own incident only where it was shown last as his, and its step has to be told again.
abbrev pub owned_by : List ℕ → Option Own → Option Own
owned_by name None = None
owned_by name (Some own) =
    if is_shown_by name own.view then Some (record { number = own.number; due = Untold; view = own.view }) else None

-- what an answer makes of it, to a command that works on an incident, or on none
abbrev pub own_told : Said → Option ℕ → Option (List ℕ) → Option Own → Option Own
own_told (Welcome name) about user before = owned_by name before
own_told (Claimed number class account) about user before = Some (mere number)
own_told (BusyWith number) about user before = Some (mere number)
own_told (Recorded number left) about user before = told_at (Some number) Untold before
own_told (Expected step) about user before = told_at about (due_of step) before
own_told (Missing step) about user before = told_at about (Ahead step) before
own_told (Released number) about user before = dropped number before
own_told (Closed number) about user before = dropped number before
own_told (NotOpen number) about user before = dropped number before
own_told (NotYours number) about user before = dropped number before
own_told (Shown view) about user before = seen user view before
own_told (Listed total rows) about user before = held_in rows (find (λ r. is_held_by user r.holder) rows) before
own_told other about user before = before

abbrev pub own_after : Input → Said → Option ℕ → Option (List ℕ) → Option Own → Option Own
own_after input said about user before = if is_break input then with_due Untold before else own_told said about user before

-- The operator's own incident as the screen shows it. Where a connection is lost or made, its step has to be told again.
unfoldable pub own : Sitting → Option Own
own [] = None
own (t ∷ s) = own_after t.input (news t.input (way s)) (worked_on (way s)) (user s) (own s)
