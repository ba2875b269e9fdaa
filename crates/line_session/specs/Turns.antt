-- The turns of a line session: one for each whole piece of the bytes read.
use Rattle.std.specs.Prelude.{◌≡◌, ◌≢◌, ℕ, List, [], ◌∷◌, Bool, true, false, Option, Some, None, length}
use Rattle.arc_data.specs.Digits.{capitals}
use Rattle.arc_data.specs.declared.event.Event.{Event}
use Rattle.arc_data.specs.declared.event.Event.TheVariants.{Message as Sent, Beat as Heartbeat}
use Rattle.arc_data.specs.declared.reply.Reply.TheVariants.{Unknown}
use Rattle.alarm_rules.specs.Setups.{Setup, key_of}
use Rattle.centre_rules.specs.Summary.{Summary}
use Rattle.centre_rules.specs.History.{Entry, Extends, moment_after}
use Rattle.civil_time.specs.Stamp.{stamp}
use Rattle.dc09_crypt.specs.Sealed.{sealed_ack_body}
use Rattle.dc09_frame.specs.Frames.{frame_of}
use Rattle.dc09_frame.specs.Headers.{echo_body, nak_body}
use Rattle.dc09_frame.specs.declared.header.Echo.TheVariants.{Ack, Duh as DuhWord}
use Rattle.dc09_frame.specs.declared.header.Header.{Header}
use Rattle.dc09_message.specs.Verdicts.{verdict_of}
use Rattle.dc09_message.specs.declared.outcome.Verdict.{Verdict}
use Rattle.dc09_message.specs.declared.outcome.Verdict.TheVariants.{Silence, Nak, Duh, Beat, Numbered}
use Rattle.session_rules.specs.Turns.{Kind}

-- one whole piece: its body, the reading of the clock that it took, the noise that it took, its entry where it has one, and
-- the reply
pub record Turn : Type 0 where
  pub body : List ℕ
  pub reading : ℕ
  pub noise : List ℕ
  pub entry : Option Entry
  pub reply : List ℕ

-- as a kind of turn
abbrev pub line_turns : Kind Turn
line_turns = record {
  asked = λ t. t.body;
  adds = λ t. record { text = t.reply; readings = t.reading ∷ []; noise = t.noise };
  entry = λ t. t.entry;
}

-- what a line of this name submits of a verdict: of a numbered message it, with the name
abbrev pub event_of : List ℕ → Verdict → Option Event
event_of name (Beat header account) = Some (Heartbeat account)
event_of name (Numbered header m) = Some (Sent m name)
event_of name verdict = None

-- The acknowledgement of a message with this header, at a reading: of a plain one its echo, which takes no noise; of a sealed
-- one it is sealed under the account's key, with the stamp of the reading and ten bytes of noise.
abbrev pub IsAckBy : Bool → Option (List ℕ) → Header → ℕ → List ℕ → List ℕ → Type 0
IsAckBy false key h reading noise reply = (noise ≡ []) × (reply ≡ frame_of (echo_body Ack h))
IsAckBy true key h reading noise reply =
    (k : List ℕ) × (key ≡ Some k) × (length noise ≡ 10) × (reply ≡ frame_of (sealed_ack_body k h (stamp reading) noise))

abbrev pub IsAck : Setup → Header → ℕ → List ℕ → List ℕ → Type 0
IsAck setup h reading noise reply = IsAckBy h.sealed (key_of setup (capitals h.account)) h reading noise reply

-- From the history h on, to x: entries of others; the turn takes no entry and no noise, and gives this reply.
pub record TakesNothing (h x : List Entry) (t : Turn) (text : List ℕ) : Type 0 where
  pub extends : Extends h x
  pub entry : t.entry ≡ None
  pub noise : t.noise ≡ []
  pub reply : t.reply ≡ text

-- From the history h on, to x: other entries, and then the turn's entry. It is the caller's, of this event, at the moment that
-- the turn's reading has there; the centre answered it by another reply than Unknown; and the turn gives the acknowledgement.
pub record TakesEntry (b : Summary) (setup : Setup) (caller : ℕ) (h x : List Entry) (t : Turn) (header : Header) (event : Event)
    : Type 0 where
  pub before : List Entry
  pub entry : Entry
  pub extends : Extends h before
  pub is : x ≡ entry ∷ before
  pub taken : t.entry ≡ Some entry
  pub by : entry.caller ≡ caller
  pub of : entry.event ≡ event
  pub at : entry.at ≡ moment_after b before t.reading
  pub known : entry.reply ≢ Unknown
  pub reply : IsAck setup header t.reading t.noise t.reply

-- The turn of each verdict on a line of this name, from the history h on, to x: silence gives nothing; NAK gives its frame with the stamp
-- of the reading; DUH gives its frame; a heartbeat and a numbered message take an entry and give their acknowledgement.
abbrev pub IsAnswered : List ℕ → Summary → Setup → ℕ → List Entry → List Entry → Turn → Verdict → Type 0
IsAnswered name b setup caller h x t Silence = TakesNothing h x t []
IsAnswered name b setup caller h x t Nak = TakesNothing h x t (frame_of (nak_body (stamp t.reading)))
IsAnswered name b setup caller h x t (Duh header why) = TakesNothing h x t (frame_of (echo_body DuhWord header))
IsAnswered name b setup caller h x t (Beat header account) = TakesEntry b setup caller h x t header (Heartbeat account)
IsAnswered name b setup caller h x t (Numbered header m) = TakesEntry b setup caller h x t header (Sent m name)

-- From h on, to x: the turns of a line of this name stand behind one another, with entries of others between them. Each is that of its
-- body's verdict under the setup, at its reading.
abbrev pub AreTurns : List ℕ → Summary → Setup → ℕ → List Entry → List Entry → List Turn → Type 0
AreTurns name b setup caller h x [] = Extends h x
AreTurns name b setup caller h x (t ∷ ts) =
    (mid : List Entry) × IsAnswered name b setup caller h mid t (verdict_of setup t.reading t.body) × AreTurns name b setup caller mid x ts
