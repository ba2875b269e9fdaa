-- Frames that took their readings and wait for their answers, and what is due for them.
use Rattle.std.specs.Prelude.{◌≡◌, ◌≤◌, ◌+◌, ℕ, List, [], ◌∷◌, ◌++◌, Result, Ok, Err, IfSome, map, length}
use Rattle.std.specs.List.{AllZip, flat_map}
use Rattle.std.specs.Option.{option_to_list}
use Rattle.arc_io.specs.Seen.{PortSeen}
use Rattle.arc_io.specs.Told.{Puts}
use Rattle.alarm_rules.specs.Setups.{Setup}
use Rattle.centre_core.specs.Batches.{MayBeSubmitted}
use Rattle.centre_core.specs.declared.batch.Submission.{Submission}
use Rattle.centre_rules.specs.History.{IsMoment}
use Rattle.civil_time.specs.Stamp.{stamp}
use Rattle.dc09_frame.specs.Frames.{frame_of}
use Rattle.dc09_frame.specs.Headers.{IsHeader, echo_body, nak_body}
use Rattle.dc09_frame.specs.declared.header.Echo.TheVariants.{Duh as DuhWord}
use Rattle.dc09_message.specs.Verdicts.{verdict_of, IsSealedAsKeyed, IsGood, IsKeyed, IsKnown}
use Rattle.dc09_message.specs.declared.outcome.Verdict.{Verdict}
use Rattle.dc09_message.specs.declared.outcome.Verdict.TheVariants as Told
use Rattle.line_session.specs.Replies.{SendsAck, IsKnownEvent}
use Rattle.line_session.specs.Turns.{event_of}
use Rattle.line_session.specs.declared.due.Due.{Due}
use Rattle.line_session.specs.declared.due.Due.TheVariants.{Silence, Nak, Duh, Ack}
use Rattle.line_session.specs.declared.due.Judged.{Judged}
use Rattle.line_session.specs.declared.line_end.LineEnd.{LineEnd}
use Rattle.line_session.specs.declared.waiting.Waiting.{Waiting}

-- a whole piece that took its reading of the clock and has no turn yet
pub record Asked : Type 0 where
  pub body : List ℕ
  pub reading : ℕ

abbrev pub bodies_in : List Asked → List (List ℕ)
bodies_in asked = map (λ a. a.body) asked

abbrev pub readings_in : List Asked → List ℕ
readings_in asked = map (λ a. a.reading) asked

-- what is due for a verdict at a reading
abbrev pub IsDueFor : Verdict → ℕ → Due → Type 0
IsDueFor Told.Silence reading due = due ≡ Silence
IsDueFor Told.Nak reading due = (account : List ℕ) × (due ≡ Nak account reading)
IsDueFor (Told.Duh header why) reading due = due ≡ Duh header why
IsDueFor (Told.Beat header account) reading due = due ≡ Ack header reading
IsDueFor (Told.Numbered header m) reading due = due ≡ Ack header reading

-- What a verdict has is well formed, sealed exactly where its account has a key, and known to a centre of the setup.
pub record IsSound (setup : Setup) (v : Verdict) : Type 0 where
  pub good : IsGood v
  pub keyed : IsKeyed setup v
  pub known : IsKnown setup v

abbrev pub IsDueOf : Setup → Asked → Due → Type 0
IsDueOf setup a due = IsDueFor (verdict_of setup a.reading a.body) a.reading due × IsSound setup (verdict_of setup a.reading a.body)

-- a piece was judged, on a line of this name
pub record IsJudged (name : List ℕ) (setup : Setup) (body : List ℕ) (reading : ℕ) (j : Judged) : Type 0 where
  pub due : IsDueOf setup (record { body = body; reading = reading }) j.due
  pub event : j.event ≡ event_of name (verdict_of setup reading body)
  pub at : j.reading ≡ reading

-- what is submitted of a piece, on a line of this name
abbrev pub calls_of : List ℕ → Setup → Asked → List Submission
calls_of name setup a =
    map (λ event. record { event = event; clock = a.reading }) (option_to_list (event_of name (verdict_of setup a.reading a.body)))

-- just these pieces wait
pub record AreWaiting (name : List ℕ) (setup : Setup) (asked : List Asked) (w : Waiting) : Type 0 where
  pub dues : AllZip (IsDueOf setup) asked w.dues.items
  pub calls : w.batch ≡ flat_map (calls_of name setup) asked

-- one more piece waits: what is due for it, and its event where it reports one
pub record HasPut (old new : Waiting) (j : Judged) : Type 0 where
  pub dues : new.dues.items ≡ old.dues.items ++ j.due ∷ []
  pub calls : new.batch ≡ old.batch ++ map (λ event. record { event = event; clock = j.reading }) (option_to_list j.event)

-- it is an acknowledgement
abbrev pub IsAckDue : Due → Type 0
IsAckDue (Ack header reading) = Unit {0}
IsAckDue due = ⊥

-- What is due can be sent under a setup: an acknowledged message is sealed exactly where its account has a key.
abbrev pub IsDueUnder : Setup → Due → Type 0
IsDueUnder setup (Ack header reading) = IsHeader header × IsMoment reading × IsSealedAsKeyed setup header
IsDueUnder setup (Nak account reading) = IsMoment reading
IsDueUnder setup (Duh header why) = IsHeader header
IsDueUnder setup Silence = Unit {0}

-- the readings of acknowledgements
abbrev pub acks_in : Due → List ℕ
acks_in (Ack header reading) = reading ∷ []
acks_in due = []

-- What was judged can be sent under a setup, and its event, where it has one, can be submitted and is acknowledged.
pub record MayBePut (setup : Setup) (j : Judged) : Type 0 where
  pub due : IsDueUnder setup j.due
  pub event : IfSome j.event
      (λ event. MayBeSubmitted (record { event = event; clock = j.reading }) × IsKnownEvent setup event × IsAckDue j.due)

-- nothing more is due, or what is due first is an acknowledgement, and none is left to be sent
abbrev pub IsReached : ℕ → List Due → Type 0
IsReached left [] = Unit {0}
IsReached left (due ∷ dues) = (left ≡ 0) × IsAckDue due

-- what is due was sent
abbrev pub SendsDue : Result (Unit {0}) LineEnd → Setup → Due → PortSeen → PortSeen → Type 0
SendsDue end setup Silence p p' = (end ≡ Ok tt) × (p' ≡ p)
SendsDue end setup (Nak account reading) p p' = Puts p p' end (frame_of (nak_body (stamp reading)))
SendsDue end setup (Duh header why) p p' = Puts p p' end (frame_of (echo_body DuhWord header))
SendsDue end setup (Ack header reading) p p' = SendsAck end setup header reading p p'

-- these were sent, one after another
abbrev pub AreSent : Setup → List Due → PortSeen → PortSeen → Type 0
AreSent setup [] p p' = p' ≡ p
AreSent setup (due ∷ dues) p p' = (mid : PortSeen) × SendsDue (Ok tt) setup due p mid × AreSent setup dues mid p'

-- Of what was due, that at the front was sent, with so many acknowledgements at most, up to one behind them; or the write of the last one
-- failed.
abbrev pub SendsDues : Result (Unit {0}) LineEnd → Setup → ℕ → List Due → List Due → PortSeen → PortSeen → Type 0
SendsDues (Ok done) setup count old new p p' =
    (sent : List Due) × (left : ℕ) × (old ≡ sent ++ new) × (count ≡ length (flat_map acks_in sent) + left) × IsReached left new
    × AreSent setup sent p p'
SendsDues (Err end) setup count old new p p' =
    (sent : List Due) × (last : Due) × (mid : PortSeen) × (old ≡ sent ++ last ∷ new)
    × (length (flat_map acks_in (sent ++ last ∷ [])) ≤ count)
    × AreSent setup sent p mid × SendsDue (Err end) setup last mid p'
