-- What stands around a store, and what came of callers, as clauses see them.
use Rattle.std.specs.Prelude.{List, Option}
use Rattle.arc_doors.specs.Doors.{DoorSeen}
use Rattle.arc_doors.specs.Pulses.{Moments}
use Rattle.arc_serving.specs.declared.ticking.Ticked.{Ticked}
use Rattle.arc_serving.specs.declared.working.Worked.{Worked}

-- what stands around a store: what the doors of either side tell, and the pulse
pub record StationSeen : Type 0 where
  pub lines : List DoorSeen
  pub desks : List DoorSeen
  pub pulse : Option Moments

-- what came of the workers of either side, and of the ticker
pub record CameSeen : Type 0 where
  pub lines : List Worked
  pub desks : List Worked
  pub ticked : Ticked
