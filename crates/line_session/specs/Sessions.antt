-- What a line session over whole pieces did, by its end.
use Rattle.std.specs.Prelude.{◌≡◌, ◌⊎◌, ℕ, List, [], Some, Result, Ok, Err}
use Rattle.arc_data.specs.declared.event.Event.{Event}
use Rattle.alarm_rules.specs.Setups.{meaning}
use Rattle.centre_core.specs.Halls.{HallSeen, IsStopOf}
use Rattle.centre_core.specs.declared.hall.Stop.{Stop}
use Rattle.centre_core.specs.declared.hall.Stop.TheVariants.{Memory}
use Rattle.centre_rules.specs.Summary.{Summary}
use Rattle.centre_rules.specs.History.{Entry}
use Rattle.dc09_message.specs.Verdicts.{verdict_of, TakesMemory}
use Rattle.session_rules.specs.Turns.{Rules}
use Rattle.session_rules.specs.Sessions.{Change, Ending, answered, cut_off, stopped, IsSession}
use Rattle.line_session.specs.Turns.{Turn, line_turns, event_of, AreTurns}
use Rattle.line_session.specs.declared.line_end.LineEnd.{LineEnd}
use Rattle.line_session.specs.declared.line_end.LineEnd.TheVariants.{InputEnded, ReadFault, WriteFault, Spent, Stopped}

-- whether all was answered
abbrev pub ending_of : Result (Unit {0}) LineEnd → Ending
ending_of (Err WriteFault) = cut_off
ending_of (Err (Stopped stop)) = stopped stop
ending_of end = answered

-- on a line of this name the hall stopped the event of the piece's verdict, behind a history; or memory was wanted for a numbered message
abbrev pub HasStopped : List ℕ → Summary → HallSeen → HallSeen → List Entry → Stop → List ℕ → ℕ → Type 0
HasStopped name b hall hall' x stop body reading =
    let told = verdict_of (meaning hall.text) reading body in
    ((stop ≡ Memory) × TakesMemory told)
    ⊎ ((event : Event) × (event_of name told ≡ Some event) × IsStopOf b hall hall' x stop event reading)

-- The rules of a session of a line of this name: its turns, why it stops, and that no turn is recorded behind the last that was answered.
abbrev pub line_rules : List ℕ → Summary → HallSeen → HallSeen → Rules Turn
line_rules name b hall hall' = record {
  are_turns = AreTurns name b (meaning hall.text) hall.caller;
  is_cause = HasStopped name b hall hall';
  may_be_behind = λ behind. behind ≡ [];
}

-- A session of a line of this name over whole pieces of these bodies, from a history on.
abbrev pub IsLine : List ℕ → Ending → Summary → List (List ℕ) → List Entry → Change → Type 0
IsLine name end b bodies h c = IsSession line_turns (line_rules name b c.hall c.hall') end b bodies h c

-- all was answered, or a write failed, or the hall stopped
abbrev pub IsCutShort : Result (Unit {0}) LineEnd → Type 0
IsCutShort (Ok done) = Unit {0}
IsCutShort (Err InputEnded) = ⊥
IsCutShort (Err ReadFault) = ⊥
IsCutShort (Err Spent) = ⊥
IsCutShort (Err WriteFault) = Unit {0}
IsCutShort (Err (Stopped stop)) = Unit {0}

-- an end that bytes which are handed in can come to: nothing is read of a source
abbrev pub ReadsNothing : Result (Unit {0}) LineEnd → Type 0
ReadsNothing (Ok done) = Unit {0}
ReadsNothing (Err InputEnded) = ⊥
ReadsNothing (Err ReadFault) = ⊥
ReadsNothing (Err Spent) = Unit {0}
ReadsNothing (Err WriteFault) = Unit {0}
ReadsNothing (Err (Stopped stop)) = Unit {0}
