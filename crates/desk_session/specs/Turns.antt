-- The turns of a desk session: one for each line that was typed.
use Rattle.std.specs.Prelude.{◌≡◌, ◌≢◌, ℕ, List, [], ◌∷◌, Option, Some, None}
use Rattle.std.specs.Option.{option_to_list}
use Rattle.arc_data.specs.declared.event.Event.{Event}
use Rattle.arc_data.specs.declared.reply.Reply.TheVariants.{Unknown}
use Rattle.alarm_rules.specs.Setups.{Setup}
use Rattle.centre_rules.specs.Summary.{Summary}
use Rattle.centre_rules.specs.History.{Entry, Extends, moment_after}
use Rattle.desk_wire.specs.Replies.{line_of}
use Rattle.session_rules.specs.Turns.{Kind}
use Rattle.desk_session.specs.Events.{command_in, acts_after, event_of, text_of}

-- one line: what was typed; the reading of the clock and the entry, where an event was submitted; and the line that was printed
pub record Turn : Type 0 where
  pub line : List ℕ
  pub reading : Option ℕ
  pub entry : Option Entry
  pub reply : List ℕ

-- as a kind of turn
abbrev pub desk_turns : Kind Turn
desk_turns = record {
  asked = λ t. t.line;
  adds = λ t. record { text = t.reply; readings = option_to_list t.reading; noise = [] };
  entry = λ t. t.entry;
}

-- From the history h on, to x: entries of others; the turn takes no reading and no entry, and prints this line.
pub record TakesNothing (h x : List Entry) (t : Turn) (text : List ℕ) : Type 0 where
  pub extends : Extends h x
  pub reading : t.reading ≡ None
  pub entry : t.entry ≡ None
  pub reply : t.reply ≡ text

-- From the history h on, to x: other entries, and then the turn's entry. It is the caller's, of this event, at the moment that
-- the turn's reading has there; the centre answered it by another reply than Unknown; and the line of that reply is printed.
pub record TakesEntry (b : Summary) (caller : ℕ) (h x : List Entry) (t : Turn) (event : Event) : Type 0 where
  pub before : List Entry
  pub moment : ℕ
  pub made : Entry
  pub extends : Extends h before
  pub is : x ≡ made ∷ before
  pub reading : t.reading ≡ Some moment
  pub entry : t.entry ≡ Some made
  pub by : made.caller ≡ caller
  pub of : made.event ≡ event
  pub at : made.at ≡ moment_after b before moment
  pub known : made.reply ≢ Unknown
  pub reply : t.reply ≡ line_of made.reply

-- the turn of a line that submits this event, or nothing and is answered by this text
abbrev pub IsAnswered : Summary → ℕ → List Entry → List Entry → Turn → Option Event → List ℕ → Type 0
IsAnswered b caller h x t None text = TakesNothing h x t text
IsAnswered b caller h x t (Some event) text = TakesEntry b caller h x t event

-- the turn is that of its line, of a session that acts for this operator or for nobody
abbrev pub IsTurn : Summary → Setup → ℕ → Option (List ℕ) → List Entry → List Entry → Turn → Type 0
IsTurn b setup caller operator h x t =
    IsAnswered b caller h x t (event_of operator (command_in t.line)) (text_of setup (command_in t.line))

-- From h on, to x: the turns stand behind one another, with entries of others between them.
abbrev pub AreTurns : Summary → Setup → ℕ → Option (List ℕ) → List Entry → List Entry → List Turn → Type 0
AreTurns b setup caller operator h x [] = Extends h x
AreTurns b setup caller operator h x (t ∷ ts) =
    (mid : List Entry) × IsTurn b setup caller operator h mid t
    × AreTurns b setup caller (acts_after setup operator (command_in t.line)) mid x ts
