-- What the centre answers to an event after a history.
use Rattle.std.specs.Prelude.{◌≡◌, ◌≤◌, ◌+◌, ◌==◌, ◌&&◌, ℕ, List, [], ◌∷◌, Bool, true, false, take, length}
use Rattle.std.specs.Prelude.{Option, is_ok, nat_le}
use Rattle.std.specs.List.{find}
use Rattle.std.specs.Option.{option_eq, option_map, option_map_or}
use Rattle.std.specs.Str.{bytes_eq}
use Rattle.arc_data.specs.WellFormed.{IsWellFormed}
use Rattle.arc_data.specs.declared.event.Event.{Event}
use Rattle.arc_data.specs.declared.event.Event.TheVariants.{Adopt, Start, Message as Sent, Beat, Tick, Claim, Next, Act as Do}
use Rattle.arc_data.specs.declared.event.Event.TheVariants.{Release, Close, Show, List as Rows}
use Rattle.arc_data.specs.declared.event.Message.{Message}
use Rattle.arc_data.specs.declared.reply.Reply.{Reply}
use Rattle.arc_data.specs.declared.reply.Reply.TheVariants.{Adopted, Started, Taken, Repeat, Heard, Raised, Unknown}
use Rattle.arc_data.specs.declared.event.Token.{Token}
use Rattle.arc_data.specs.declared.event.Token.TheVariants.{SiaDcs, AdmCid}
use Rattle.alarm_rules.specs.Setups.{Setup, setup_of, has_account, has_operator}
use Rattle.alarm_rules.specs.Signals.{has_signals}
use Rattle.centre_rules.specs.Limits.{messages_kept, repeat_seconds}
use Rattle.centre_rules.specs.Summary.{Summary, Past}
use Rattle.centre_rules.specs.Marks.{Mark, force, messages}
use Rattle.centre_rules.specs.Standing.{standing}
use Rattle.centre_rules.specs.Carrying.{raised}
use Rattle.centre_rules.specs.History.{Entry, last, marks, acted_by}
use Rattle.centre_rules.specs.Desks.{on_claim, on_next, on_act, on_release, on_close, on_show, on_list}

-- before the first Adopt every account and every operator is lacking

abbrev pub knows_account : Option Setup → List ℕ → Bool
knows_account in_force account = option_map_or (λ setup. has_account setup account) in_force false

abbrev pub knows_operator : Option Setup → List ℕ → Bool
knows_operator in_force name = option_map_or (λ setup. has_operator setup name) in_force false

-- Repeats.

abbrev pub same_token : Token → Token → Bool
same_token SiaDcs SiaDcs = true
same_token AdmCid AdmCid = true
same_token one other = false

-- they agree in `R` field, `L` field, sequence, token and content
abbrev pub same_message : Message → Message → Bool
same_message a b =
    option_eq bytes_eq a.receiver b.receiver && bytes_eq a.line b.line && (a.seq == b.seq) && same_token a.token b.token
    && bytes_eq a.content b.content

-- the recorded message makes this one, at this moment, a repeat: they agree, and it is at most 300 seconds older
abbrev pub repeats : Message → ℕ → Past → Bool
repeats m at p = same_message p.message m && nat_le at (p.at + repeat_seconds)

-- the last 32 recorded messages of an account, the newest first
abbrev pub recent : Summary → List Mark → List ℕ → List Past
recent s ms account = take messages_kept (messages s ms account)

-- the moment of the newest of them that makes the message a repeat
abbrev pub repeat_of : Summary → List Mark → Message → ℕ → Option ℕ
repeat_of s ms m at = option_map (λ p. p.at) (find (repeats m at) (recent s ms m.account))

abbrev pub taken_or : Option ℕ → Reply
taken_or first = option_map_or Repeat first Taken

-- Answers.

abbrev pub if_known : Bool → Reply → Reply
if_known true reply = reply
if_known false reply = Unknown

-- the reply to an event at a moment; operators are answered from the open incidents as they stand then
abbrev pub answer_over : Summary → List Mark → Event → ℕ → Reply
answer_over s ms (Adopt text) at = if_known (is_ok (setup_of text)) Adopted
answer_over s ms Start at = Started
answer_over s ms (Sent m via) at =
    if_known (knows_account (force s ms) m.account && has_signals m.token m.content) (taken_or (repeat_of s ms m at))
answer_over s ms (Beat account) at = if_known (knows_account (force s ms) account) Heard
answer_over s ms Tick at = Raised (length (raised s ms at))
answer_over s ms (Claim operator number) at =
    if_known (knows_operator (force s ms) operator) (on_claim operator number (standing s ms at))
answer_over s ms (Next operator) at = if_known (knows_operator (force s ms) operator) (on_next operator (standing s ms at))
answer_over s ms (Do operator number step outcome) at =
    if_known (knows_operator (force s ms) operator) (on_act (acted_by operator step outcome at) number (standing s ms at))
answer_over s ms (Release operator number) at =
    if_known (knows_operator (force s ms) operator) (on_release operator number (standing s ms at))
answer_over s ms (Close operator number code) at =
    if_known (knows_operator (force s ms) operator) (on_close operator number (standing s ms at))
answer_over s ms (Show number) at = on_show number (standing s ms at)
answer_over s ms Rows at = on_list (standing s ms at)

abbrev pub answer : Summary → List Entry → Event → ℕ → Reply
answer s h e at = answer_over s (marks s h) e at

-- what each entry of a legal history is, after the entries before it: its event is well formed, its reply is the answer,
-- and its moment is at least that of the last recorded entry
pub record IsNext (s : Summary) (h : List Entry) (e : Entry) : Type 0 where
  pub event : IsWellFormed e.event
  pub reply : e.reply ≡ answer s h e.event e.at
  pub late : last s h ≤ e.at

abbrev pub IsLegal : Summary → List Entry → Type 0
IsLegal s [] = Unit {0}
IsLegal s (e ∷ h) = IsNext s h e × IsLegal s h
