-- What a session over a mailbox did, by its end.
use Rattle.std.specs.Prelude.{◌≡◌, ◌<◌, ◌≤◌, ◌++◌, ℕ, List, [], ◌∷◌, true, Result, Ok, Err}
use Rattle.std.specs.Prelude.{map, reverse, length, flat_map}
use Rattle.std.specs.Io.KnownBytes.{append_known}
use Rattle.alarm_rules.specs.Setups.{meaning}
use Rattle.arc_doors.specs.Mails.{HasNoMail, TakesMail, append_replies}
use Rattle.arc_io.specs.Added.{Added}
use Rattle.arc_io.specs.Causes.{Rose}
use Rattle.arc_io.specs.Seen.{PortSeen}
use Rattle.centre_core.specs.Halls.{HallSeen, DiskGoesOn}
use Rattle.centre_rules.specs.Summary.{Summary}
use Rattle.centre_rules.specs.History.{Entry}
use Rattle.centre_rules.specs.Answers.{IsLegal}
use Rattle.dc09_frame.specs.Frames.{bodies}
use Rattle.session_rules.specs.Turns.{pieces_of, entries_of, text_of, readings_of, noise_of}
use Rattle.session_rules.specs.Sessions.{Ending, answered, IsEnd, IsShownFor}
use Rattle.line_session.specs.Turns.{Turn, line_turns, AreTurns}
use Rattle.line_session.specs.Sessions.{line_rules}
use Rattle.udp_line.specs.Datagrams.{has_bytes, sent_for, udp_name, IsHalt}
use Rattle.udp_line.specs.declared.mail_end.MailEnd.{MailEnd}
use Rattle.udp_line.specs.declared.mail_end.MailEnd.TheVariants.{Quota, Ended, ReadFault, WriteFault, Stopped}

-- A datagram: the bytes that were given of it, and the turns of the line that was fed with them. Each datagram has a line of its own.
pub record Datagram : Type 0 where
  pub bytes : List ℕ
  pub turns : List Turn

-- the datagrams that go back for these: the text that the line of each answers, and none where that is empty
abbrev pub replies_to : List Datagram → List (List ℕ)
replies_to ds = sent_for (map (λ d. text_of line_turns d.turns) ds)

-- all turns of these, in order
abbrev pub turns_of : List Datagram → List Turn
turns_of ds = flat_map (λ d. d.turns) ds

-- what a session over a mailbox added to what that tells: replies, readings and bytes of noise
pub record MailAdded : Type 0 where
  pub replies : List (List ℕ)
  pub readings : List ℕ
  pub noise : List ℕ

-- each datagram was answered: the whole pieces of its bytes are those of its turns
pub record AnswersEach (ds : List Datagram) (a : MailAdded) : Type 0 where
  pub whole : map (λ d. bodies d.bytes) ds ≡ map (λ d. pieces_of line_turns d.turns) ds
  pub replies : a.replies ≡ replies_to ds
  pub readings : a.readings ≡ readings_of line_turns (turns_of ds)
  pub noise : a.noise ≡ noise_of line_turns (turns_of ds)

-- Why no reply was sent of a datagram whose line ended so, with this text: the line was stopped, or wanted memory; or all was answered,
-- with a byte at least, and sending that failed.
abbrev pub IsUnsent : MailEnd → Ending → List ℕ → Type 0
IsUnsent (Stopped stop) end text = IsHalt stop end
IsUnsent why end text = (end ≡ answered) × (has_bytes text ≡ true)

-- Each datagram was answered but the last, of which no reply was sent. Its turns are those up to there.
pub record LacksLast (why : MailEnd) (b : Summary) (hall hall' : HallSeen) (x : List Entry) (ds : List Datagram) (a : MailAdded)
    : Type 0 where
  pub front : List Datagram
  pub before : MailAdded
  pub sent : AnswersEach front before
  pub last : Datagram
  pub split : ds ≡ front ++ last ∷ []
  pub end : Ending
  pub behind : List Turn
  pub line : Added
  pub left : List (List ℕ)
  pub taken : bodies last.bytes ≡ pieces_of line_turns last.turns ++ left
  pub ended : IsEnd line_turns (line_rules udp_name b hall hall') end x last.turns behind line left
  pub halt : IsUnsent why end line.text
  pub none_behind : behind ≡ []
  pub added : a ≡ record before { readings = before.readings ++ line.readings; noise = before.noise ++ line.noise }

-- what an end says of the history behind the session, of the datagrams and of what was added
abbrev pub IsMailEnd : MailEnd → Summary → HallSeen → HallSeen → List Entry → List Datagram → MailAdded → Type 0
IsMailEnd WriteFault b hall hall' x ds a = LacksLast WriteFault b hall hall' x ds a
IsMailEnd (Stopped stop) b hall hall' x ds a = LacksLast (Stopped stop) b hall hall' x ds a
IsMailEnd end b hall hall' x ds a = AnswersEach ds a

-- no line of it was stopped
abbrev pub IsUnhalted : MailEnd → Type 0
IsUnhalted (Stopped stop) = ⊥
IsUnhalted end = Unit {0}

-- From a history on, a session over datagrams of which these bytes were given: the history for which the hall stands at its end, to
-- which the caller's own part grew by just the turns' entries, and what it added to what the mailbox tells. What was so of the hall's
-- disk and the history before is so behind it; and a hall that was not down is not, unless a line was stopped.
pub record ServesMail (end : MailEnd) (given : List (List ℕ)) (b : Summary) (h : List Entry) (hall hall' : HallSeen) (p p' : PortSeen)
    : Type 0 where
  pub datagrams : List Datagram
  pub history : List Entry
  pub added : MailAdded
  pub bytes : given ≡ map (λ d. d.bytes) datagrams
  pub each : AreTurns udp_name b (meaning hall.text) hall.caller h history (turns_of datagrams)
  pub holds : hall'.stands b history
  pub legal : IsLegal b history
  pub own : hall'.own history ≡ reverse (entries_of line_turns (turns_of datagrams)) ++ hall.own h
  pub disk : DiskGoesOn b hall hall' h history
  pub up : IsUnhalted end → hall.up → hall'.up
  pub told : p' ≡ record p {
    read_faults = p'.read_faults;
    write_faults = p'.write_faults;
    readings = append_known p.readings added.readings;
    noise = append_known p.noise added.noise;
    datagrams = p'.datagrams;
    replies = append_replies p.replies added.replies;
  }
  pub ended : IsMailEnd end b hall hall' history datagrams added

-- Why a session over a mailbox ended, of how many datagrams: as many were asked for; no more came; none could be received; a reply was
-- not sent; or a stop.
abbrev pub HasEnded : MailEnd → ℕ → ℕ → PortSeen → PortSeen → Type 0
HasEnded Quota count n p p' = n ≡ count
HasEnded Ended count n p p' = (n < count) × HasNoMail p'.datagrams
HasEnded ReadFault count n p p' = (n < count) × Rose p.read_faults p'.read_faults
HasEnded WriteFault count n p p' = (n ≤ count) × Rose p.write_faults p'.write_faults
HasEnded (Stopped stop) count n p p' = n ≤ count

-- The next datagrams left were received, of which these bytes were given, and it ended for its cause.
pub record ReceivesMail (end : MailEnd) (count : ℕ) (given : List (List ℕ)) (p p' : PortSeen) : Type 0 where
  pub taken : TakesMail given p.datagrams p'.datagrams
  pub cause : HasEnded end count (length given) p p'

-- a stop has its cause, whatever is known of the hall's history
abbrev pub ShowsStop : Result (Unit {0}) MailEnd → HallSeen → Type 0
ShowsStop (Ok done) hall = Unit {0}
ShowsStop (Err Quota) hall = Unit {0}
ShowsStop (Err Ended) hall = Unit {0}
ShowsStop (Err ReadFault) hall = Unit {0}
ShowsStop (Err WriteFault) hall = Unit {0}
ShowsStop (Err (Stopped stop)) hall = IsShownFor hall stop
