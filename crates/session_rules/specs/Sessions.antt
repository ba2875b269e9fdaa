-- What a session of any kind did, by how it ended.
use Rattle.std.specs.Prelude.{◌≡◌, ◌<◌, ◌⊎◌, ◌++◌, ℕ, List, [], ◌∷◌, reverse, take, length}
use Rattle.arc_data.specs.declared.event.Event.{Event}
use Rattle.arc_io.specs.Added.{Added, Adds}
use Rattle.arc_io.specs.Seen.{PortSeen}
use Rattle.centre_core.specs.Halls.{HallSeen, DiskGoesOn}
use Rattle.centre_core.specs.declared.hall.Stop.{Stop}
use Rattle.centre_core.specs.declared.hall.Stop.TheVariants.{Memory}
use Rattle.centre_rules.specs.Summary.{Summary}
use Rattle.centre_rules.specs.History.{Entry}
use Rattle.centre_rules.specs.Answers.{IsLegal}
use Rattle.session_rules.specs.Reading.{IsNotAhead}
use Rattle.session_rules.specs.Turns.{Kind, Rules, pieces_of, entries_of, text_of, readings_of, noise_of, added_by}

-- How a session ended: all that was asked was answered; a write failed within a reply; or there was a stop.
pub data Ending : Type 0 where
  answered : Ending
  cut_off : Ending
  stopped : Stop → Ending

-- every piece has its turn and its reply, and no more was added than theirs
pub record AnswersAll {T : Type 0} (kind : Kind T) (turns behind : List T) (a : Added) (rest : List (List ℕ)) : Type 0 where
  pub added : a ≡ added_by kind turns
  pub none_behind : behind ≡ []
  pub none_left : rest ≡ []

-- A write failed within the reply of a turn: a front of it was written that lacks a byte at least. Its entry stands, and so do
-- those of the turns behind it, which took their readings, but no noise, and have no reply.
pub record IsCutOff {T : Type 0} (kind : Kind T) (turns behind : List T) (a : Added) : Type 0 where
  pub front : List T
  pub last : T
  pub count : ℕ
  pub split : turns ≡ front ++ last ∷ behind
  pub short : count < length (kind.adds last).text
  pub added : a ≡ record {
    text = text_of kind front ++ take count (kind.adds last).text;
    readings = readings_of kind turns;
    noise = noise_of kind (front ++ last ∷ []);
  }

-- The next piece took its reading, but was stopped: it has no turn and no reply. The turns behind those that were answered took
-- their readings, but no noise, and have no reply.
pub record IsStopped {T : Type 0} (kind : Kind T) (IsCause : List ℕ → ℕ → Type 0) (turns behind : List T) (a : Added)
    (rest : List (List ℕ)) : Type 0 where
  pub front : List T
  pub piece : List ℕ
  pub more : List (List ℕ)
  pub reading : ℕ
  pub split : turns ≡ front ++ behind
  pub next : rest ≡ piece ∷ more
  pub added : a ≡ record (added_by kind front) { readings = readings_of kind turns ++ reading ∷ [] }
  pub cause : IsCause piece reading

-- The end of a session, of the history behind it, its turns, those among them that are recorded and not answered, what it added, and
-- the pieces that have no turn.
abbrev pub IsEnd : {T : Type 0} → Kind T → Rules T → Ending → List Entry → List T → List T → Added → List (List ℕ) → Type 0
IsEnd kind rules answered x turns behind a rest = AnswersAll kind turns behind a rest
IsEnd kind rules cut_off x turns behind a rest = IsCutOff kind turns behind a
IsEnd kind rules (stopped stop) x turns behind a rest = IsStopped kind (rules.is_cause x stop) turns behind a rest

-- a session that was not stopped
abbrev pub IsUnstopped : Ending → Type 0
IsUnstopped (stopped stop) = ⊥
IsUnstopped end = Unit {0}

-- What a session met: a hall and a port, as they were at its beginning, and as they were at its end.
pub record Change : Type 1 where
  pub hall : HallSeen
  pub hall' : HallSeen
  pub port : PortSeen
  pub port' : PortSeen

abbrev pub changed : HallSeen → HallSeen → PortSeen → PortSeen → Change
changed hall hall' p p' = record { hall = hall; hall' = hall'; port = p; port' = p' }

-- The way of a session through a history: from which on it went, to which, and the entries that it made, the earliest first.
pub record Way : Type 0 where
  pub from : List Entry
  pub to : List Entry
  pub made : List Entry

-- from this history on there is a way of which this holds
abbrev pub Goes : List Entry → (Way → Type 0) → Type 0
Goes h holds = (to : List Entry) × (made : List Entry) × holds (record { from = h; to = to; made = made })

-- From a history on, a session over these pieces: the history for which the hall stands at its end, to which the caller's own part grew
-- by just the turns' entries, and what it added to the port. What was so of the hall's disk and the history before is so behind it; and
-- a hall that was not down is not, unless it stopped.
pub record IsSession {T : Type 0} (kind : Kind T) (rules : Rules T) (end : Ending) (b : Summary) (pieces : List (List ℕ)) (h : List Entry)
    (c : Change) : Type 0 where
  pub turns : List T
  pub behind : List T
  pub history : List Entry
  pub added : Added
  pub left : List (List ℕ)
  pub taken : pieces ≡ pieces_of kind turns ++ left
  pub each : rules.are_turns h history turns
  pub holds : c.hall'.stands b history
  pub legal : IsLegal b history
  pub own : c.hall'.own history ≡ reverse (entries_of kind turns) ++ c.hall.own h
  pub disk : DiskGoesOn b c.hall c.hall' h history
  pub up : IsUnstopped end → c.hall.up → c.hall'.up
  pub adds : Adds c.port c.port' added
  pub ended : IsEnd kind rules end history turns behind added left
  pub unanswered : rules.may_be_behind behind

-- a hall shows a stop for some event at some reading; or memory was wanted
abbrev pub IsShownFor : HallSeen → Stop → Type 0
IsShownFor hall stop = (stop ≡ Memory) ⊎ ((event : Event) × (reading : ℕ) × hall.shows stop event reading)

-- a stop has its cause, whatever is known of the hall's history
abbrev pub HasShown : HallSeen → Ending → Type 0
HasShown hall (stopped stop) = IsShownFor hall stop
HasShown hall end = Unit {0}

-- Completeness: how much of the bytes read was answered, which have these pieces. Where neither a write failed nor a stop came, every
-- piece has its turn. Else all pieces but those that end in the last bytes read have one that was answered: no input can foresee those
-- ends, so one that reads further ahead than this, or reads on after them, is none. The replies of the turns that were answered make up
-- the text, but for the part of one that was cut off.
abbrev pub IsComplete :
    {T : Type 0} → Kind T → (List ℕ → List (List ℕ)) → Ending → List ℕ → List (List ℕ) → List T → List T → List ℕ → Type 0
IsComplete {T} kind cut answered read pieces turns behind text = (pieces ≡ pieces_of kind turns) × (text ≡ text_of kind turns)
IsComplete {T} kind cut cut_off read pieces turns behind text =
    (front : List T) × (last : T) × (part : List ℕ) × (turns ≡ front ++ last ∷ behind) × (text ≡ text_of kind front ++ part)
    × IsNotAhead cut read (pieces_of kind front)
IsComplete {T} kind cut (stopped stop) read pieces turns behind text =
    (front : List T) × (turns ≡ front ++ behind) × (text ≡ text_of kind front) × IsNotAhead cut read (pieces_of kind front)
