-- What a desk's state keeps of the bytes that it took, and what a session over a port did.
use Rattle.std.specs.Prelude.{◌≡◌, ◌<◌, ◌≤◌, ◌++◌, ℕ, List, true, false, Option, None, Result, Ok, Err, length}
use Rattle.std.specs.Io.KnownBytes.{prepend_known, IsAtEnd}
use Rattle.std.specs.Str.Lines.{lines}
use Rattle.alarm_rules.specs.Setups.{Setup, meaning}
use Rattle.arc_io.specs.Causes.{Rose}
use Rattle.arc_io.specs.Seen.{PortSeen}
use Rattle.arc_text.specs.LineCutting.{LineCutterValue, WasFed}
use Rattle.arc_text.specs.Lines.{ended_lines}
use Rattle.centre_core.specs.Halls.{HallSeen}
use Rattle.centre_rules.specs.Summary.{Summary}
use Rattle.centre_rules.specs.History.{Entry}
use Rattle.session_rules.specs.Inputs.{input_limit, in_limit}
use Rattle.session_rules.specs.Reading.{lines_read}
use Rattle.session_rules.specs.Sessions.{changed, IsComplete, Way}
use Rattle.session_rules.specs.Turns.{entries_of}
use Rattle.desk_session.specs.Events.{acts_over, quits, up_to_quit}
use Rattle.desk_session.specs.Sessions.{IsDesk, ending_of}
use Rattle.desk_session.specs.Turns.{desk_turns}
use Rattle.desk_session.specs.declared.desk_end.DeskEnd.{DeskEnd}
use Rattle.desk_session.specs.declared.desk_end.DeskEnd.TheVariants.{Quit, InputEnded, ReadFault, WriteFault, Spent, Stopped}

-- the lines of a stream that a line feed ends, up to a `quit`
abbrev pub typed_lines : List ℕ → List (List ℕ)
typed_lines stream = up_to_quit (ended_lines stream)

-- what a desk's state keeps: its cutter, for whom it acts, and how many bytes it took
pub record DeskValue : Type 0 where
  pub cutter : LineCutterValue
  pub operator : Option (List ℕ)
  pub count : ℕ

-- Under a setup these are the cutter and the operator of a desk that took this stream: it has no `quit`, and the desk acts for who
-- logged in last.
pub record HasTaken (setup : Setup) (stream : List ℕ) (cutter : LineCutterValue) (operator : Option (List ℕ)) : Type 0 where
  pub fed : WasFed stream cutter
  pub goes_on : quits (ended_lines stream) ≡ false
  pub acts : operator ≡ acts_over setup None (ended_lines stream)

-- the state took this stream, which is shorter than the limit
pub record TookStream (setup : Setup) (stream : List ℕ) (s : DeskValue) : Type 0 where
  pub taken : HasTaken setup stream s.cutter s.operator
  pub count : s.count ≡ length stream
  pub short : length stream < input_limit

-- What is left of a desk that took bytes behind a stream, by what it answered. Of one that answered an end nothing is left.
abbrev pub IsFed : Result (Unit {0}) DeskEnd → Setup → List ℕ → LineCutterValue → Option (List ℕ) → Type 0
IsFed (Ok done) setup stream cutter operator = HasTaken setup stream cutter operator
IsFed (Err Quit) setup stream cutter operator = quits (ended_lines stream) ≡ true
IsFed (Err InputEnded) setup stream cutter operator = ⊥
IsFed (Err ReadFault) setup stream cutter operator = ⊥
IsFed (Err WriteFault) setup stream cutter operator = Unit {0}
IsFed (Err Spent) setup stream cutter operator = ⊥
IsFed (Err (Stopped stop)) setup stream cutter operator = Unit {0}

-- and of a state that took a piece
abbrev pub IsTaken : Result (Unit {0}) DeskEnd → Setup → List ℕ → List ℕ → DeskValue → Type 0
IsTaken (Ok done) setup stream piece s = TookStream setup (stream ++ piece) s
IsTaken (Err Quit) setup stream piece s = quits (ended_lines (stream ++ in_limit stream piece)) ≡ true
IsTaken (Err InputEnded) setup stream piece s = ⊥
IsTaken (Err ReadFault) setup stream piece s = ⊥
IsTaken (Err WriteFault) setup stream piece s = Unit {0}
IsTaken (Err Spent) setup stream piece s =
    (input_limit ≤ length (stream ++ piece)) × (quits (ended_lines (stream ++ in_limit stream piece)) ≡ false)
IsTaken (Err (Stopped stop)) setup stream piece s = Unit {0}

-- why a desk ended whose input ended behind a stream
abbrev pub IsFinished : DeskEnd → List ℕ → Type 0
IsFinished Quit stream = quits (lines stream) ≡ true
IsFinished InputEnded stream = quits (lines stream) ≡ false
IsFinished ReadFault stream = ⊥
IsFinished WriteFault stream = Unit {0}
IsFinished Spent stream = ⊥
IsFinished (Stopped stop) stream = Unit {0}

-- A session over the lines up to a `quit` that came behind others.
pub record ServesLines (end : Result (Unit {0}) DeskEnd) (before after : List (List ℕ)) (b : Summary) (h : List Entry)
    (hall hall' : HallSeen) (p p' : PortSeen) : Type 0 where
  pub more : List (List ℕ)
  pub came : up_to_quit after ≡ up_to_quit before ++ more
  pub desk : IsDesk (ending_of end) b (acts_over (meaning hall.text) None before) more h (changed hall hall' p p')

-- over those that these bytes end behind a stream
abbrev pub ServesBytes :
    Result (Unit {0}) DeskEnd → List ℕ → List ℕ → Summary → List Entry → HallSeen → HallSeen → PortSeen → PortSeen → Type 0
ServesBytes end stream bytes b h hall hall' p p' = ServesLines end (ended_lines stream) (ended_lines (stream ++ bytes)) b h hall hall' p p'

-- a `quit` was read, within the last bytes, at most 4,096 of them
pub record QuitsInTime (read : List ℕ) : Type 0 where
  pub front : List ℕ
  pub last : List ℕ
  pub parts : read ≡ front ++ last
  pub short : length last ≤ 4096
  pub before : quits (ended_lines front) ≡ false

-- Why a session over a port ended, of the bytes that it read: a `quit` was answered; the input ended; a read failed; a write failed;
-- 2^40 bytes were read; or the hall stopped.
abbrev pub HasEnded : DeskEnd → List ℕ → PortSeen → PortSeen → Type 0
HasEnded Quit read p p' = (quits (lines_read p'.ended read) ≡ true) × QuitsInTime read × (length read ≤ input_limit)
HasEnded InputEnded read p p' = (p'.ended ≡ true) × (quits (lines read) ≡ false) × (length read < input_limit)
HasEnded ReadFault read p p' =
    Rose p.read_faults p'.read_faults × (p'.ended ≡ false) × (quits (ended_lines read) ≡ false) × (length read < input_limit)
HasEnded WriteFault read p p' = Rose p.write_faults p'.write_faults × (length read ≤ input_limit)
HasEnded Spent read p p' = (p'.ended ≡ false) × (quits (ended_lines read) ≡ false) × (length read ≡ input_limit)
HasEnded (Stopped stop) read p p' = length read ≤ input_limit

-- These bytes were read of the port, and it ended for its cause. Where a read has met the input's end, that is all of it.
pub record ReadsDesk (end : DeskEnd) (read : List ℕ) (p p' : PortSeen) : Type 0 where
  pub taken : p.left ≡ prepend_known read p'.left
  pub out : p'.ended ≡ true → IsAtEnd p'.left
  pub cause : HasEnded end read p p'

-- A desk session over a port that read these bytes, on this way: a session over all their lines up to a `quit`, which acts for nobody at
-- first.
pub record ServesDesk (end : DeskEnd) (read : List ℕ) (b : Summary) (w : Way) (hall hall' : HallSeen) (p p' : PortSeen) : Type 0 where
  pub desk : IsDesk (ending_of (Err end)) b None (up_to_quit (lines_read p'.ended read)) w.from (changed hall hall' p p')
  pub to : w.to ≡ desk.session.history
  pub made : w.made ≡ entries_of desk_turns desk.session.turns
  pub complete : IsComplete desk_turns typed_lines (ending_of (Err end)) read (up_to_quit (lines_read p'.ended read))
      desk.session.turns desk.session.behind desk.session.added.text
