-- What reporting an event to a hall does, and sending its acknowledgement.
use Rattle.std.specs.Prelude.{◌≡◌, ◌≢◌, ℕ, List, true, Result, Ok, Err}
use Rattle.arc_data.specs.WellFormed.{IsWellFormed}
use Rattle.arc_data.specs.declared.event.Event.{Event}
use Rattle.arc_data.specs.declared.event.Event.TheVariants.{Message as Sent, Beat as Heartbeat}
use Rattle.arc_data.specs.declared.reply.Reply.TheVariants.{Unknown}
use Rattle.arc_io.specs.Seen.{PortSeen}
use Rattle.arc_io.specs.Told.{Puts, after_noise}
use Rattle.alarm_rules.specs.Setups.{Setup, meaning, has_account}
use Rattle.centre_core.specs.Halls.{HallSeen, TookEvent, LeftEvent}
use Rattle.centre_core.specs.Runs.{IsSubmitted}
use Rattle.centre_rules.specs.Summary.{Summary}
use Rattle.centre_rules.specs.History.{Entry, IsMoment}
use Rattle.dc09_frame.specs.Headers.{IsHeader}
use Rattle.dc09_frame.specs.declared.header.Header.{Header}
use Rattle.dc09_message.specs.Verdicts.{IsSealedAsKeyed, IsReadable}
use Rattle.line_session.specs.Turns.{IsAck}
use Rattle.line_session.specs.declared.line_end.LineEnd.{LineEnd}
use Rattle.line_session.specs.declared.line_end.LineEnd.TheVariants.{InputEnded, ReadFault, WriteFault, Spent, Stopped}
use Rattle.line_session.specs.declared.report.Report.{Report}

-- the setup has the event's account, and where it is a message, its content has signals
abbrev pub IsKnownEvent : Setup → Event → Type 0
IsKnownEvent setup (Sent m via) = IsReadable setup m
IsKnownEvent setup (Heartbeat account) = has_account setup account ≡ true
IsKnownEvent setup other = ⊥

-- what may be reported under a setup
pub record IsReport (setup : Setup) (r : Report) : Type 0 where
  pub submitted : IsSubmitted r.event
  pub formed : IsWellFormed r.event
  pub known : IsKnownEvent setup r.event
  pub header : IsHeader r.header
  pub reading : IsMoment r.reading
  pub keyed : IsSealedAsKeyed setup r.header

-- the acknowledgement of a header at a reading was sent, after its noise was taken
pub record SendsAck (end : Result (Unit {0}) LineEnd) (setup : Setup) (h : Header) (reading : ℕ) (p p' : PortSeen) : Type 0 where
  pub taken : List ℕ
  pub reply : List ℕ
  pub ack : IsAck setup h reading taken reply
  pub put : Puts (after_noise taken p) p' end reply

-- the hall took the event, which was not answered Unknown, and then the acknowledgement was sent
pub record Reported (end : Result (Unit {0}) LineEnd) (b : Summary) (h : List Entry) (hall hall' : HallSeen) (r : Report) (p p' : PortSeen)
    : Type 0 where
  pub took : TookEvent b hall hall' h r.event r.reading
  pub known : took.entry.reply ≢ Unknown
  pub sends : SendsAck end (meaning hall.text) r.header r.reading p p'

-- What reporting an event to a hall did, by its end. After a stop nothing was done to the port.
abbrev pub Reports : Result (Unit {0}) LineEnd → Summary → List Entry → HallSeen → HallSeen → Report → PortSeen → PortSeen → Type 0
Reports (Ok done) b h hall hall' r p p' = Reported (Ok tt) b h hall hall' r p p'
Reports (Err WriteFault) b h hall hall' r p p' = Reported (Err WriteFault) b h hall hall' r p p'
Reports (Err (Stopped stop)) b h hall hall' r p p' = LeftEvent stop b hall hall' h r.event r.reading × (p' ≡ p)
Reports (Err InputEnded) b h hall hall' r p p' = ⊥
Reports (Err ReadFault) b h hall hall' r p p' = ⊥
Reports (Err Spent) b h hall hall' r p p' = ⊥
