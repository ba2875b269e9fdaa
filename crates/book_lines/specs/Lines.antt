-- What a record was, in words.
use Rattle.std.specs.Prelude.{ℕ, ◌++◌, List, [], if◌then◌else◌, map, take, drop, length, codes, decimal}
use Rattle.std.specs.Prelude.{Option, Some, None}
use Rattle.std.specs.List.{flat_map, find}
use Rattle.arc_data.specs.Classes.{name_of}
use Rattle.arc_data.specs.Digits.{is_between}
use Rattle.arc_data.specs.Incidents.{has_number}
use Rattle.arc_data.specs.declared.event.Event.{Event}
use Rattle.arc_data.specs.declared.event.Event.TheVariants.{Adopt, Start, Message as Sent, Beat, Tick, Claim, Next, Act}
use Rattle.arc_data.specs.declared.event.Event.TheVariants.{Release, Close, Show, List as Rows}
use Rattle.arc_data.specs.declared.event.Message.{Message}
use Rattle.arc_data.specs.declared.event.Token.{Token}
use Rattle.arc_data.specs.declared.event.Token.TheVariants.{SiaDcs, AdmCid}
use Rattle.arc_data.specs.declared.incident.Carried.{Carried}
use Rattle.arc_data.specs.declared.incident.Incident.{Incident}
use Rattle.arc_data.specs.declared.reply.Reply.{Reply}
use Rattle.arc_data.specs.declared.reply.Reply.TheVariants.{Claimed}
use Rattle.arc_data.specs.declared.signal.Class.{Class}
use Rattle.arc_data.specs.declared.signal.Kind.{Kind}
use Rattle.arc_data.specs.declared.signal.Kind.TheVariants.{New, Again, Restore, Opening, Closing, LogOnly}
use Rattle.desk_wire.specs.Names.{step_name, outcome_name, code_name}

abbrev pub kind_name : Kind → List ℕ
kind_name New = codes "new"
kind_name Again = codes "again"
kind_name Restore = codes "restore"
kind_name Opening = codes "opening"
kind_name Closing = codes "closing"
kind_name LogOnly = codes "log"

-- a byte that is seen when it is printed, or a space, and a question mark in the place of any other
abbrev pub printed : ℕ → ℕ
printed b = if is_between 32 126 b then b else 63

-- a signal of a message: its class, its kind and its code
abbrev pub signal_text : Carried → List ℕ
signal_text x = codes " " ++ name_of x.signal.class ++ codes " " ++ kind_name x.signal.kind ++ codes " " ++ x.signal.code

-- what else a content tells: the group and the zone of Contact ID data, and SIA data as they were sent
abbrev pub content_text : Token → List ℕ → List ℕ
content_text AdmCid content = codes " group " ++ take 2 (drop 5 content) ++ codes " zone " ++ take 3 (drop 8 content)
content_text SiaDcs content = codes " data " ++ map printed content

-- a message, with its signals, the line by which it came, and what else its content tells
abbrev pub message_text : Message → List ℕ → List Carried → List ℕ
message_text m via carried =
    codes "message " ++ m.account ++ flat_map signal_text carried ++ codes " via " ++ via ++ content_text m.token m.content

-- a signal that a tick raised: its class, and the account
abbrev pub raised_text : Carried → List ℕ
raised_text x = codes " " ++ name_of x.signal.class ++ codes " " ++ x.account

-- the class and the account of an incident
abbrev pub about_text : Class → List ℕ → List ℕ
about_text class account = codes ": " ++ name_of class ++ codes " " ++ account

abbrev pub about : Option Incident → List ℕ
about None = []
about (Some i) = about_text i.class i.account

-- what operators do with the incident of a number

abbrev pub order_text : List ℕ → List ℕ → ℕ → List ℕ
order_text operator verb number = operator ++ verb ++ decimal number

-- the number, the class and the account of the incident that an operator got
abbrev pub got_text : List ℕ → Reply → List ℕ
got_text operator (Claimed number class account) = order_text operator (codes " gets ") number ++ about_text class account
got_text operator reply = operator

-- An entry in words, by the incidents that were open before it and the signals that it carries. Entries that are never recorded have none.
unfoldable pub words_of : List Incident → List Carried → Event → Reply → List ℕ
words_of open_before carried (Adopt text) reply = codes "adopt " ++ decimal (length text) ++ codes " bytes"
words_of open_before carried Start reply = codes "start"
words_of open_before carried (Sent m via) reply = message_text m via carried
words_of open_before carried (Beat account) reply = codes "heartbeat " ++ account
words_of open_before carried Tick reply = codes "tick" ++ flat_map raised_text carried
words_of open_before carried (Claim operator number) reply =
    order_text operator (codes " claims ") number ++ about (find (has_number number) open_before)
words_of open_before carried (Next operator) reply = got_text operator reply
words_of open_before carried (Act operator number step outcome) reply =
    order_text operator (codes " acts on ") number ++ codes ": " ++ step_name step ++ codes " " ++ outcome_name outcome
words_of open_before carried (Release operator number) reply = order_text operator (codes " releases ") number
words_of open_before carried (Close operator number code) reply =
    order_text operator (codes " closes ") number ++ codes " as " ++ code_name code ++ about (find (has_number number) open_before)
words_of open_before carried (Show number) reply = []
words_of open_before carried Rows reply = []
