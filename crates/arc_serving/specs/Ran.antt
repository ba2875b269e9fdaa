-- The workers that ran at a gate.
use Rattle.std.specs.Prelude.{◌≡◌, ℕ, List, [], ◌++◌, All, map, length}
use Rattle.arc_doors.specs.Doors.{DoorSeen}
use Rattle.arc_serving.specs.declared.side.Side.{Side}
use Rattle.arc_serving.specs.Works.{Works}
use Rattle.arc_serving.specs.declared.working.Worked.{Worked}
use Rattle.line_gate.specs.Passes.{PassSeen, IsPass}
use Rattle.line_gate.specs.Terms.{Terms}

-- the pass of a caller that has done nothing yet
pub record IsFresh (t : Terms) (p : PassSeen) : Type 0 where
  pub pass : IsPass t p
  pub made : p.made ≡ []

-- one worker that ran: its pass as it began and as it ended, what its door told then, and what came of it
pub record WorkerRan : Type 0 where
  pub began : PassSeen
  pub ended : PassSeen
  pub door : DoorSeen
  pub door' : DoorSeen
  pub worked : Worked

-- All that is said of it: its pass was fresh, and it did what a worker of this side does. That it ended as a pass follows: each link served
-- leaves one.
pub record IsWorkerRan (side : Side) (t : Terms) (sessions : ℕ) (w : WorkerRan) : Type 0 where
  pub fresh : IsFresh t w.began
  pub works : Works side t w.began w.ended w.door w.door' sessions w.worked

-- All that is said of the workers of one side: its first doors had a worker each, in order, and the others are as they were. What came of
-- the workers stands in the order of their doors.
pub record IsSideServed (side : Side) (t : Terms) (count sessions : ℕ) (ran : List WorkerRan) (doors doors' : List DoorSeen)
    (came : List Worked) : Type 0 where
  pub count_is : length ran ≡ count
  pub unused : List DoorSeen
  pub before : doors ≡ map (λ w. w.door) ran ++ unused
  pub after : doors' ≡ map (λ w. w.door') ran ++ unused
  pub came_is : came ≡ map (λ w. w.worked) ran
  pub each : All (λ w. IsWorkerRan side t sessions w) ran
