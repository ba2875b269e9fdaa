-- All callers beside each other, until all have ended.
use Rattle.std.specs.Prelude.{◌≡◌, ℕ, List}
use Rattle.std.specs.List.{AllZip}
use Rattle.arc_doors.specs.Doors.{DoorSeen}
use Rattle.arc_serving.specs.declared.side.Side.TheVariants.{Lines, Desks}
use Rattle.arc_serving.specs.Ticks.{WorksTicks}
use Rattle.line_gate.specs.Passes.{PassSeen, IsLater}
use Rattle.line_gate.specs.Terms.{Terms}
use Rattle.arc_serving.specs.Jobs.{JobSeen, IsJobDone, HasTaken, AreUnseated, worked_in}
use Rattle.arc_serving.specs.Seen.{StationSeen, CameSeen}

-- The first pass took in those of the jobs of both sides, whose doors stand in their places.
pub record UnseatsBoth (first last : PassSeen) (lines desks : List JobSeen) (left_lines left_desks line_doors desk_doors : List DoorSeen)
    : Type 0 where
  pub later : IsLater first last
  pub lines_over : AreUnseated last lines left_lines line_doors
  pub desks_over : AreUnseated last desks left_desks desk_doors

-- All jobs were done and the ticker ran, then the first pass took in those of all.
pub record ServesSeated (t : Terms) (sessions : ℕ) (first last : PassSeen) (lines desks : List JobSeen) (ticker : PassSeen)
    (left after : StationSeen) (came : CameSeen) : Type 0 where
  pub lines' : List JobSeen
  pub desks' : List JobSeen
  pub ticker' : PassSeen
  pub lines_done : AllZip (IsJobDone Lines t sessions) lines lines'
  pub desks_done : AllZip (IsJobDone Desks t sessions) desks desks'
  pub ticks : WorksTicks t ticker ticker' left.pulse after.pulse came.ticked
  pub later : IsLater first last
  pub taken : HasTaken last ticker'
  pub lines_over : AreUnseated last lines' left.lines after.lines
  pub desks_over : AreUnseated last desks' left.desks after.desks
  pub lines_came : came.lines ≡ worked_in lines'
  pub desks_came : came.desks ≡ worked_in desks'
