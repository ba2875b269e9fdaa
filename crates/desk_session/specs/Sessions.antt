-- What a desk session over lines did, by its end.
use Rattle.std.specs.Prelude.{◌≡◌, ℕ, List, [], Option, Some, Result, Ok, Err}
use Rattle.arc_data.specs.declared.event.Event.{Event}
use Rattle.alarm_rules.specs.Setups.{meaning}
use Rattle.centre_core.specs.Halls.{HallSeen, IsStopOf}
use Rattle.centre_core.specs.declared.hall.Stop.{Stop}
use Rattle.centre_rules.specs.Summary.{Summary}
use Rattle.centre_rules.specs.History.{Entry}
use Rattle.session_rules.specs.Turns.{Rules, pieces_of}
use Rattle.session_rules.specs.Sessions.{Ending, answered, cut_off, stopped, Change, IsSession}
use Rattle.desk_session.specs.Events.{command_in, acts_over, event_of}
use Rattle.desk_session.specs.Turns.{Turn, desk_turns, AreTurns}
use Rattle.desk_session.specs.declared.desk_end.DeskEnd.{DeskEnd}
use Rattle.desk_session.specs.declared.desk_end.DeskEnd.TheVariants.{Quit, InputEnded, ReadFault, WriteFault, Spent, Stopped}

-- whether all was answered
abbrev pub ending_of : Result (Unit {0}) DeskEnd → Ending
ending_of (Err WriteFault) = cut_off
ending_of (Err (Stopped stop)) = stopped stop
ending_of end = answered

-- the hall stopped the event of the line, behind a history, of a session that acts for this operator
abbrev pub HasStopped : Option (List ℕ) → Summary → HallSeen → HallSeen → List Entry → Stop → List ℕ → ℕ → Type 0
HasStopped operator b hall hall' x stop line reading =
    (event : Event) × (event_of operator (command_in line) ≡ Some event) × IsStopOf b hall hall' x stop event reading

-- The rules of a desk session that acts for one operator (or for nobody) at first and for another at last: its turns, why it
-- stops, and that no turn is recorded behind the last that was answered.
abbrev pub desk_rules : Summary → HallSeen → HallSeen → Option (List ℕ) → Option (List ℕ) → Rules Turn
desk_rules b hall hall' first last = record {
  are_turns = λ h x ts.
      AreTurns b (meaning hall.text) hall.caller first h x ts × (acts_over (meaning hall.text) first (pieces_of desk_turns ts) ≡ last);
  is_cause = HasStopped last b hall hall';
  may_be_behind = λ behind. behind ≡ [];
}

-- A session over lines, from a history on, that acts for this operator (or for nobody) at first.
pub record IsDesk (end : Ending) (b : Summary) (first : Option (List ℕ)) (lines : List (List ℕ)) (h : List Entry) (c : Change)
    : Type 0 where
  pub last : Option (List ℕ)
  pub session : IsSession desk_turns (desk_rules b c.hall c.hall' first last) end b lines h c

-- all was answered, or there was a `quit`, a failed write or a stop
abbrev pub IsCutShort : Result (Unit {0}) DeskEnd → Type 0
IsCutShort (Ok done) = Unit {0}
IsCutShort (Err Quit) = Unit {0}
IsCutShort (Err InputEnded) = ⊥
IsCutShort (Err ReadFault) = ⊥
IsCutShort (Err Spent) = ⊥
IsCutShort (Err WriteFault) = Unit {0}
IsCutShort (Err (Stopped stop)) = Unit {0}

-- an end that bytes which are handed in can come to: nothing is read of a source
abbrev pub ReadsNothing : Result (Unit {0}) DeskEnd → Type 0
ReadsNothing (Ok done) = Unit {0}
ReadsNothing (Err Quit) = Unit {0}
ReadsNothing (Err InputEnded) = ⊥
ReadsNothing (Err ReadFault) = ⊥
ReadsNothing (Err Spent) = Unit {0}
ReadsNothing (Err WriteFault) = Unit {0}
ReadsNothing (Err (Stopped stop)) = Unit {0}

-- an end that an input which has ended can come to
abbrev pub IsOver : DeskEnd → Type 0
IsOver Quit = Unit {0}
IsOver InputEnded = Unit {0}
IsOver ReadFault = ⊥
IsOver WriteFault = Unit {0}
IsOver Spent = ⊥
IsOver (Stopped stop) = Unit {0}
