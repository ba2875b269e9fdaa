-- What operators are answered, from the open incidents.
use Rattle.std.specs.Prelude.{ℕ, List, [], ◌∷◌, ◌++◌, ◌==◌, ◌&&◌, ◌||◌, Bool, false, if◌then◌else◌, map, take, length}
use Rattle.std.specs.Prelude.{Option, Some, None, is_none, nat_lt}
use Rattle.std.specs.List.{filter, find}
use Rattle.std.specs.Option.{option_map_or}
use Rattle.std.specs.Str.{bytes_eq}
use Rattle.arc_data.specs.Classes.{priority_of}
use Rattle.arc_data.specs.Steps.{same_step}
use Rattle.arc_data.specs.declared.reply.Reply.{Reply}
use Rattle.arc_data.specs.declared.reply.Reply.TheVariants.{Claimed, Recorded, Released, Closed, Shown, Listed, NotOpen, HeldBy}
use Rattle.arc_data.specs.declared.reply.Reply.TheVariants.{BusyWith, NotYours, Expected, Missing, NoneWaiting}
use Rattle.arc_data.specs.declared.listing.Row.{Row}
use Rattle.arc_data.specs.declared.listing.View.{View}
use Rattle.arc_data.specs.declared.step.Acted.{Acted}
use Rattle.arc_data.specs.declared.step.Step.{Step}
use Rattle.alarm_rules.specs.Plans.{expected_step, left}
use Rattle.centre_rules.specs.Limits.{rows_listed}
use Rattle.centre_rules.specs.Cases.{Incident, has_number}

-- Which incident.

abbrev pub numbered : ℕ → List Incident → Option Incident
numbered number is = find (has_number number) is

abbrev pub is_holder : List ℕ → Option (List ℕ) → Bool
is_holder operator holder = option_map_or (λ x. bytes_eq x operator) holder false

-- the operator holds the incident
abbrev pub holds : List ℕ → Incident → Bool
holds operator i = is_holder operator i.holder

abbrev pub held_by : List ℕ → List Incident → Option Incident
held_by operator is = find (holds operator) is

abbrev pub is_free : Incident → Bool
is_free i = is_none i.holder

-- by (priority, number)
abbrev pub is_before : Incident → Incident → Bool
is_before i j =
    nat_lt (priority_of i.class) (priority_of j.class)
    || ((priority_of i.class == priority_of j.class) && nat_lt i.number j.number)

abbrev pub lesser : Incident → Option Incident → Option Incident
lesser i None = Some i
lesser i (Some j) = if is_before j i then Some j else Some i

abbrev pub least : List Incident → Option Incident
least [] = None
least (i ∷ is) = lesser i (least is)

-- the least of those that nobody holds
abbrev pub best : List Incident → Option Incident
best is = least (filter is_free is)

-- Claims.

abbrev pub claimed : Incident → Reply
claimed i = Claimed i.number i.class i.account

-- where the operator holds an incident already, it is busy with that one
abbrev pub claim_unless : Option Incident → Incident → Reply
claim_unless held i = option_map_or (λ j. BusyWith j.number) held (claimed i)

abbrev pub claim_from : List ℕ → List Incident → Incident → Option (List ℕ) → Reply
claim_from operator is i None = claim_unless (held_by operator is) i
claim_from operator is i (Some x) = if bytes_eq x operator then claim_unless (held_by operator is) i else HeldBy x

-- not open; held by another; the operator holds an incident, this one included; else it is held
abbrev pub on_claim : List ℕ → ℕ → List Incident → Reply
on_claim operator number is = option_map_or (λ i. claim_from operator is i i.holder) (numbered number is) (NotOpen number)

-- the operator holds an incident; none waits; else the best is held
abbrev pub on_next : List ℕ → List Incident → Reply
on_next operator is = option_map_or (λ j. BusyWith j.number) (held_by operator is) (option_map_or claimed (best is) NoneWaiting)

-- What is asked of an incident that the operator holds.

-- not open; not held by the operator; else what is answered of it
abbrev pub if_held : List ℕ → ℕ → Option Incident → (Incident → Reply) → Reply
if_held operator number None reply = NotOpen number
if_held operator number (Some i) reply = if holds operator i then reply i else NotYours number

-- where it is the first step that is not met, how many are not met after it
abbrev pub act_when : Acted → Incident → Option Step → Reply
act_when acted i None = Expected None
act_when acted i (Some step) =
    if same_step acted.step step then Recorded i.number (left i.steps (i.acts ++ acted ∷ [])) else Expected (Some step)

-- not the expected step; else it is recorded
abbrev pub on_act : Acted → ℕ → List Incident → Reply
on_act acted number is = if_held acted.operator number (numbered number is) (λ i. act_when acted i (expected_step i.steps i.acts))

-- the hold ends
abbrev pub on_release : List ℕ → ℕ → List Incident → Reply
on_release operator number is = if_held operator number (numbered number is) (λ i. Released number)

-- a step is not met; else it is closed
abbrev pub on_close : List ℕ → ℕ → List Incident → Reply
on_close operator number is =
    if_held operator number (numbered number is) (λ i. option_map_or Missing (expected_step i.steps i.acts) (Closed number))

-- What is shown.

abbrev pub view_of : Incident → View
view_of i = record {
  number = i.number;
  class = i.class;
  account = i.account;
  code = i.code;
  at = i.at;
  signals = i.signals;
  restored = i.restored;
  holder = i.holder;
  expected = expected_step i.steps i.acts;
  via = i.via;
}

abbrev pub on_show : ℕ → List Incident → Reply
on_show number is = option_map_or (λ i. Shown (view_of i)) (numbered number is) (NotOpen number)

abbrev pub inserted : Incident → List Incident → List Incident
inserted i [] = i ∷ []
inserted i (j ∷ js) = if is_before i j then i ∷ j ∷ js else j ∷ inserted i js

abbrev pub sorted : List Incident → List Incident
sorted [] = []
sorted (i ∷ is) = inserted i (sorted is)

abbrev pub row_of : Incident → Row
row_of i = record { number = i.number; class = i.class; account = i.account; holder = i.holder }

-- how many are open, and the first 16, those that are held among them
abbrev pub on_list : List Incident → Reply
on_list is = Listed (record { total = length is; rows = map row_of (take rows_listed (sorted is)) })
