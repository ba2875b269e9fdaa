-- Which records a book is asked for: by the incidents that were open before a record, and those behind it.
use Rattle.std.specs.Prelude.{ℕ, ◌==◌, ◌&&◌, ◌||◌, List, Bool, true, false, nat_le, is_some, Option, Some, None}
use Rattle.std.specs.List.{find, list_any}
use Rattle.std.specs.Str.{bytes_eq}
use Rattle.arc_data.specs.Incidents.{has_number, is_of}
use Rattle.arc_data.specs.declared.event.Event.{Event}
use Rattle.arc_data.specs.declared.event.Event.TheVariants.{Adopt, Start, Message as Sent, Beat, Tick, Claim, Next, Act}
use Rattle.arc_data.specs.declared.event.Event.TheVariants.{Release, Close, Show, List as Rows}
use Rattle.arc_data.specs.declared.incident.Carried.{Carried}
use Rattle.arc_data.specs.declared.incident.Incident.{Incident}
use Rattle.arc_data.specs.declared.reply.Reply.{Reply}
use Rattle.arc_data.specs.declared.reply.Reply.TheVariants.{Claimed}
use Rattle.centre_rules.specs.Cases.{is_new, is_restore}
use Rattle.book_lines.specs.Clocks.{reaches, within}
use Rattle.book_lines.specs.declared.choice.Verdict.{Verdict}
use Rattle.book_lines.specs.declared.choice.Verdict.TheVariants.{Told, LeftOut, Opens}
use Rattle.book_lines.specs.declared.clock.Clock.{Clock}
use Rattle.book_lines.specs.declared.options.Options.{Options}
use Rattle.book_lines.specs.declared.options.Place.{Place}
use Rattle.book_lines.specs.declared.options.Place.TheVariants.{Number, Moment}

-- from a record on, or from what the clock shows on; all where no place is given
abbrev pub is_since : Clock → Option Place → ℕ → ℕ → Bool
is_since clock None number at = true
is_since clock (Some (Number first)) number at = nat_le first number
is_since clock (Some (Moment first)) number at = reaches clock first at

-- up to a record, that one included, or up to what the clock shows
abbrev pub is_until : Clock → Option Place → ℕ → ℕ → Bool
is_until clock None number at = true
is_until clock (Some (Number last)) number at = nat_le number last
is_until clock (Some (Moment last)) number at = within clock last at

-- The account: that of a message or a heartbeat, of a signal that a tick raised, or of the incident that an operator is about.

abbrev pub has_account : List ℕ → Option Incident → Bool
has_account account None = false
has_account account (Some i) = bytes_eq i.account account

abbrev pub is_claimed_of : List ℕ → Reply → Bool
is_claimed_of account (Claimed number class of) = bytes_eq of account
is_claimed_of account reply = false

abbrev pub is_raised_of : List ℕ → Carried → Bool
is_raised_of account x = bytes_eq x.account account

abbrev pub concerns : List ℕ → List Incident → List Carried → Event → Reply → Bool
concerns account before carried (Adopt text) reply = false
concerns account before carried Start reply = false
concerns account before carried (Sent m via) reply = bytes_eq m.account account
concerns account before carried (Beat of) reply = bytes_eq of account
concerns account before carried Tick reply = list_any (is_raised_of account) carried
concerns account before carried (Claim operator number) reply = has_account account (find (has_number number) before)
concerns account before carried (Next operator) reply = is_claimed_of account reply
concerns account before carried (Act operator number step outcome) reply = has_account account (find (has_number number) before)
concerns account before carried (Release operator number) reply = has_account account (find (has_number number) before)
concerns account before carried (Close operator number code) reply = has_account account (find (has_number number) before)
concerns account before carried (Show number) reply = false
concerns account before carried Rows reply = false

abbrev pub is_of_account : Option (List ℕ) → List Incident → List Carried → Event → Reply → Bool
is_of_account None before carried event reply = true
is_of_account (Some account) before carried event reply = concerns account before carried event reply

-- The operator who did it.

abbrev pub is_by : List ℕ → Event → Bool
is_by name (Adopt text) = false
is_by name Start = false
is_by name (Sent m via) = false
is_by name (Beat account) = false
is_by name Tick = false
is_by name (Claim operator number) = bytes_eq operator name
is_by name (Next operator) = bytes_eq operator name
is_by name (Act operator number step outcome) = bytes_eq operator name
is_by name (Release operator number) = bytes_eq operator name
is_by name (Close operator number code) = bytes_eq operator name
is_by name (Show number) = false
is_by name Rows = false

abbrev pub is_of_operator : Option (List ℕ) → Event → Bool
is_of_operator None event = true
is_of_operator (Some name) event = is_by name event

-- The incident: what an operator does with it, and the signals that belong to it.

-- a New, Again or Restore signal of its account and class
abbrev pub attaches : Incident → Carried → Bool
attaches i x = is_of x.account x.signal.class i && (is_new x.signal.kind || is_restore x.signal.kind)

-- such a signal of an incident that was open before; one that was not was opened by the record where it is open behind it
abbrev pub signalled : ℕ → Option Incident → List Incident → List Carried → Bool
signalled number None behind carried = is_some (find (has_number number) behind)
signalled number (Some i) behind carried = list_any (attaches i) carried

abbrev pub is_signalled : ℕ → List Incident → List Incident → List Carried → Bool
is_signalled number before behind carried = signalled number (find (has_number number) before) behind carried

abbrev pub is_claimed : ℕ → Reply → Bool
is_claimed wanted (Claimed number class account) = number == wanted
is_claimed wanted reply = false

abbrev pub regards : ℕ → List Incident → List Incident → List Carried → Event → Reply → Bool
regards wanted before behind carried (Adopt text) reply = false
regards wanted before behind carried Start reply = false
regards wanted before behind carried (Sent m via) reply = is_signalled wanted before behind carried
regards wanted before behind carried (Beat account) reply = false
regards wanted before behind carried Tick reply = is_signalled wanted before behind carried
regards wanted before behind carried (Claim operator number) reply = number == wanted
regards wanted before behind carried (Next operator) reply = is_claimed wanted reply
regards wanted before behind carried (Act operator number step outcome) reply = number == wanted
regards wanted before behind carried (Release operator number) reply = number == wanted
regards wanted before behind carried (Close operator number code) reply = number == wanted
regards wanted before behind carried (Show number) reply = false
regards wanted before behind carried Rows reply = false

abbrev pub is_of_incident : Option ℕ → List Incident → List Incident → List Carried → Event → Reply → Bool
is_of_incident None before behind carried event reply = true
is_of_incident (Some wanted) before behind carried event reply = regards wanted before behind carried event reply

-- all that the options ask for, but for the incident, holds of the record of a number, made at a moment
abbrev pub is_asked : Options → List Incident → List Carried → ℕ → ℕ → Event → Reply → Bool
is_asked o before carried number at event reply =
    is_since o.clock o.since number at && is_until o.clock o.until number at && is_of_account o.account before carried event reply
    && is_of_operator o.operator event

-- The record is what the options ask for: each of them holds of it.
abbrev pub chosen : Options → List Incident → List Incident → List Carried → ℕ → ℕ → Event → Reply → Bool
chosen o before behind carried number at event reply =
    is_asked o before carried number at event reply && is_of_incident o.incident before behind carried event reply

-- what a verdict says, once it is known which incidents are open behind the record
abbrev pub decided : Verdict → List Incident → Bool
decided Told behind = true
decided LeftOut behind = false
decided (Opens number) behind = is_some (find (has_number number) behind)
