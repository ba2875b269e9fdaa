-- What a line's state keeps of the bytes that it took, and what a session over a port did.
use Rattle.std.specs.Prelude.{◌≡◌, ◌<◌, ◌≤◌, ◌↔◌, ◌++◌, ℕ, List, true, Result, Ok, Err, length}
use Rattle.std.specs.Io.KnownBytes.{prepend_known, IsAtEnd}
use Rattle.alarm_rules.specs.Setups.{meaning}
use Rattle.arc_io.specs.Causes.{Rose}
use Rattle.arc_io.specs.Seen.{PortSeen}
use Rattle.centre_rules.specs.Summary.{Summary}
use Rattle.centre_rules.specs.History.{Entry}
use Rattle.dc09_frame.specs.Cutting.{CutterValue, WasFed}
use Rattle.dc09_frame.specs.Frames.{bodies}
use Rattle.session_rules.specs.Inputs.{input_limit}
use Rattle.session_rules.specs.Sessions.{Change, IsComplete, Way}
use Rattle.session_rules.specs.Turns.{entries_of}
use Rattle.line_session.specs.Completeness.{AreAcknowledged}
use Rattle.line_session.specs.Sessions.{IsLine, ending_of}
use Rattle.line_session.specs.Turns.{line_turns}
use Rattle.line_session.specs.declared.line_end.LineEnd.{LineEnd}
use Rattle.line_session.specs.declared.line_end.LineEnd.TheVariants.{InputEnded, ReadFault, WriteFault, Spent, Stopped}

-- what a line's state keeps: its name, its cutter, and how many bytes it took
pub record LineValue : Type 0 where
  pub name : List ℕ
  pub cutter : CutterValue
  pub count : ℕ

-- the state is that of a line of this name, and took this stream, which is shorter than the limit
pub record TookStream (name stream : List ℕ) (s : LineValue) : Type 0 where
  pub named : s.name ≡ name
  pub fed : WasFed stream s.cutter
  pub count : s.count ≡ length stream
  pub short : length stream < input_limit

-- What is left of a state that took a piece behind a stream, by what it answered. Of one that answered an end nothing is left.
abbrev pub IsTaken : List ℕ → Result (Unit {0}) LineEnd → List ℕ → List ℕ → LineValue → Type 0
IsTaken name (Ok done) stream piece s = TookStream name (stream ++ piece) s
IsTaken name (Err InputEnded) stream piece s = ⊥
IsTaken name (Err ReadFault) stream piece s = ⊥
IsTaken name (Err WriteFault) stream piece s = Unit {0}
IsTaken name (Err Spent) stream piece s = input_limit ≤ length (stream ++ piece)
IsTaken name (Err (Stopped stop)) stream piece s = Unit {0}

-- A session of a line of this name over the whole pieces that these bytes end behind a stream.
pub record ServesBytes (name : List ℕ) (end : Result (Unit {0}) LineEnd) (stream bytes : List ℕ) (b : Summary) (h : List Entry)
    (c : Change) : Type 0 where
  pub whole : List (List ℕ)
  pub ended : bodies (stream ++ bytes) ≡ bodies stream ++ whole
  pub session : IsLine name (ending_of end) b whole h c

-- Why a session over a port ended, of the bytes that it read: the input ended; a read failed; a write failed; 2^40 bytes were
-- read; or the hall stopped.
abbrev pub HasEnded : LineEnd → List ℕ → PortSeen → PortSeen → Type 0
HasEnded InputEnded read p p' = IsAtEnd p'.left × (length read < input_limit)
HasEnded ReadFault read p p' = Rose p.read_faults p'.read_faults × (length read < input_limit)
HasEnded WriteFault read p p' = Rose p.write_faults p'.write_faults × (length read ≤ input_limit)
HasEnded Spent read p p' = length read ≡ input_limit
HasEnded (Stopped stop) read p p' = length read ≤ input_limit

-- These bytes were read of the port, and it ended for its cause. A read has met the input's end exactly where that is the cause.
pub record ReadsLine (end : LineEnd) (read : List ℕ) (p p' : PortSeen) : Type 0 where
  pub taken : p.left ≡ prepend_known read p'.left
  pub out : (p'.ended ≡ true) ↔ (end ≡ InputEnded)
  pub cause : HasEnded end read p p'

-- A session of a line of this name over a port that read these bytes, on this way: a session over all their whole pieces.
pub record ServesLine (name : List ℕ) (end : LineEnd) (read : List ℕ) (b : Summary) (w : Way) (c : Change) : Type 0 where
  pub session : IsLine name (ending_of (Err end)) b (bodies read) w.from c
  pub to : w.to ≡ session.history
  pub made : w.made ≡ entries_of line_turns session.turns
  pub complete : IsComplete line_turns bodies (ending_of (Err end)) read (bodies read) session.turns session.behind session.added.text
  pub acknowledged : AreAcknowledged (meaning c.hall.text) session.turns
