-- What one session over a hall and a port did, by its kind and its end.
use Rattle.std.specs.Prelude.{ℕ, List, Bool, true, Option, Some, None, MatchOption}
use Rattle.arc_io.specs.Seen.{PortSeen}
use Rattle.centre_core.specs.Halls.{HallSeen}
use Rattle.centre_rules.specs.Summary.{Summary}
use Rattle.desk_session.specs.Desks.{ReadsDesk, ServesDesk}
use Rattle.desk_session.specs.declared.desk_end.DeskEnd.{DeskEnd}
use Rattle.desk_session.specs.declared.desk_end.DeskEnd.TheVariants as Desk
use Rattle.line_session.specs.Groups.{ServesGroup}
use Rattle.line_session.specs.Lines.{ReadsLine, ServesLine}
use Rattle.line_session.specs.declared.line_end.LineEnd.{LineEnd}
use Rattle.line_session.specs.declared.line_end.LineEnd.TheVariants as Line
use Rattle.session_rules.specs.Sessions.{Change, IsShownFor, Way}
use Rattle.arc_serving.specs.declared.session.SessionEnd.{SessionEnd}
use Rattle.arc_serving.specs.declared.session.SessionEnd.TheVariants.{Quit, InputEnded, ReadFault, WriteFault, Spent, Stopped}
use Rattle.arc_serving.specs.declared.side.Side.{Side}
use Rattle.arc_serving.specs.declared.side.Side.TheVariants.{Lines, Desks}

-- An end as that of a line, which has no `quit`; and as that of a desk.

abbrev pub line_end : SessionEnd → Option LineEnd
line_end Quit = None
line_end InputEnded = Some Line.InputEnded
line_end ReadFault = Some Line.ReadFault
line_end WriteFault = Some Line.WriteFault
line_end Spent = Some Line.Spent
line_end (Stopped stop) = Some (Line.Stopped stop)

abbrev pub desk_end : SessionEnd → DeskEnd
desk_end Quit = Desk.Quit
desk_end InputEnded = Desk.InputEnded
desk_end ReadFault = Desk.ReadFault
desk_end WriteFault = Desk.WriteFault
desk_end Spent = Desk.Spent
desk_end (Stopped stop) = Desk.Stopped stop

-- These bytes were read of the port, and the session ended for its cause.
abbrev pub Reads : Side → SessionEnd → List ℕ → PortSeen → PortSeen → Type 0
Reads Lines end read p p' = MatchOption (line_end end) ⊥ (λ e. ReadsLine e read p p')
Reads Desks end read p p' = ReadsDesk (desk_end end) read p p'

-- On its way over b it answered what was read, over a hall and a port as they were and as they are, a line under this name.
abbrev pub Serves : Side → List ℕ → SessionEnd → List ℕ → Summary → Way → Change → Type 0
Serves Lines name end read b w c = MatchOption (line_end end) ⊥ (λ e. ServesLine name e read b w c)
Serves Desks name end read b w c = ServesDesk (desk_end end) read b w c.hall c.hall' c.port c.port'

-- The same at a gate: of one with groups, a line's frames that stand complete in one piece are taken together.
abbrev pub ServesBy : Bool → Side → List ℕ → SessionEnd → List ℕ → Summary → Way → Change → Type 0
ServesBy true Lines name end read b w c = MatchOption (line_end end) ⊥ (λ e. ServesGroup name e read b w c)
ServesBy groups side name end read b w c = Serves side name end read b w c

-- a session that a stop ended: the hall showed it for some event, or memory was wanted, whatever is known of the hall's history
abbrev pub ShowsEnd : SessionEnd → HallSeen → Type 0
ShowsEnd (Stopped stop) hall = IsShownFor hall stop
ShowsEnd end hall = Unit {0}
