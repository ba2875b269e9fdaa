-- What a record was, in fields for other programs. Each field but the last ends with a tab: what it was, the operator, the number of the
-- incident, its class, the account, the moment at which it was opened, details, what else a message tells, and the line by which it came.
use Rattle.std.specs.Prelude.{ℕ, ◌++◌, List, [], ◌∷◌, map, take, drop, length, codes, decimal, Option, Some, None}
use Rattle.std.specs.List.{flat_map, find}
use Rattle.arc_data.specs.Classes.{name_of}
use Rattle.arc_data.specs.Incidents.{has_number}
use Rattle.arc_data.specs.declared.event.Event.{Event}
use Rattle.arc_data.specs.declared.event.Event.TheVariants.{Adopt, Start, Message as Sent, Beat, Tick, Claim, Next, Act}
use Rattle.arc_data.specs.declared.event.Event.TheVariants.{Release, Close, Show, List as Rows}
use Rattle.arc_data.specs.declared.event.Token.{Token}
use Rattle.arc_data.specs.declared.event.Token.TheVariants.{SiaDcs, AdmCid}
use Rattle.arc_data.specs.declared.incident.Carried.{Carried}
use Rattle.arc_data.specs.declared.incident.Incident.{Incident}
use Rattle.arc_data.specs.declared.reply.Reply.{Reply}
use Rattle.arc_data.specs.declared.reply.Reply.TheVariants.{Claimed}
use Rattle.desk_wire.specs.Names.{step_name, outcome_name, code_name}
use Rattle.book_lines.specs.Lines.{kind_name, printed}

abbrev pub tab : List ℕ
tab = 9 ∷ []

-- up to the details, of a record that is no operator's
abbrev pub own_fields : List ℕ → List ℕ → List ℕ
own_fields what account = what ++ tab ++ tab ++ tab ++ tab ++ account ++ tab ++ tab

-- the class, the account and the moment of an incident
abbrev pub incident_fields : Option Incident → List ℕ
incident_fields None = tab ++ tab ++ tab
incident_fields (Some i) = name_of i.class ++ tab ++ i.account ++ tab ++ decimal i.at ++ tab

-- up to the details, of what an operator did with the incident of a number
abbrev pub order_fields : List ℕ → List ℕ → ℕ → List Incident → List ℕ
order_fields what operator number before =
    what ++ tab ++ operator ++ tab ++ decimal number ++ tab ++ incident_fields (find (has_number number) before)

abbrev pub got_fields : List ℕ → Reply → List Incident → List ℕ
got_fields operator (Claimed number class account) before = order_fields (codes "next") operator number before
got_fields operator reply before = own_fields (codes "next") []

-- a signal of a message: class, kind and code
abbrev pub signal_field : Carried → List ℕ
signal_field x = name_of x.signal.class ++ codes " " ++ kind_name x.signal.kind ++ codes " " ++ x.signal.code ++ codes ";"

-- a signal that a tick raised: class and account
abbrev pub raised_field : Carried → List ℕ
raised_field x = name_of x.signal.class ++ codes " " ++ x.account ++ codes ";"

-- group and zone, or SIA data as they were sent
abbrev pub data_field : Token → List ℕ → List ℕ
data_field AdmCid content = take 2 (drop 5 content) ++ codes " " ++ take 3 (drop 8 content)
data_field SiaDcs content = map printed content

unfoldable pub fields_of : List Incident → List Carried → Event → Reply → List ℕ
fields_of before carried (Adopt text) reply = own_fields (codes "adopt") [] ++ decimal (length text) ++ tab ++ tab
fields_of before carried Start reply = own_fields (codes "start") [] ++ tab ++ tab
fields_of before carried (Sent m via) reply =
    own_fields (codes "message") m.account ++ flat_map signal_field carried ++ tab ++ data_field m.token m.content ++ tab ++ via
fields_of before carried (Beat account) reply = own_fields (codes "heartbeat") account ++ tab ++ tab
fields_of before carried Tick reply = own_fields (codes "tick") [] ++ flat_map raised_field carried ++ tab ++ tab
fields_of before carried (Claim operator number) reply = order_fields (codes "claim") operator number before ++ tab ++ tab
fields_of before carried (Next operator) reply = got_fields operator reply before ++ tab ++ tab
fields_of before carried (Act operator number step outcome) reply =
    order_fields (codes "act") operator number before ++ step_name step ++ codes " " ++ outcome_name outcome ++ tab ++ tab
fields_of before carried (Release operator number) reply = order_fields (codes "release") operator number before ++ tab ++ tab
fields_of before carried (Close operator number code) reply =
    order_fields (codes "close") operator number before ++ code_name code ++ tab ++ tab
fields_of before carried (Show number) reply = []
fields_of before carried Rows reply = []
