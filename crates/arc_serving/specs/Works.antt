-- How a worker ends, and what it then says.
use Rattle.std.specs.Prelude.{◌≡◌, ◌<◌, ◌≤◌, ◌++◌, ℕ, List, [], ◌∷◌, Bool, true, false}
use Rattle.std.specs.Prelude.{Option, None, Some, All, count_by, length}
use Rattle.arc_data.specs.declared.event.Event.{Event}
use Rattle.arc_doors.specs.Doors.{DoorSeen, HasNoneLeft}
use Rattle.arc_io.specs.Causes.{Rose}
use Rattle.arc_serving.specs.declared.session.SessionEnd.{SessionEnd}
use Rattle.arc_serving.specs.declared.session.SessionEnd.TheVariants.{Stopped}
use Rattle.arc_serving.specs.declared.side.Side.{Side}
use Rattle.centre_core.specs.declared.hall.Stop.{Stop}
use Rattle.centre_core.specs.declared.hall.Stop.TheVariants.{Memory}
use Rattle.line_gate.specs.Passes.{PassSeen, PassShows}
use Rattle.line_gate.specs.Terms.{Terms}
use Rattle.arc_serving.specs.Served.{InTurn, Moves, Served, IsServed, MovesLinks}
use Rattle.arc_serving.specs.declared.working.Worked.{Worked}
use Rattle.arc_serving.specs.declared.working.WorkerEnd.{WorkerEnd}
use Rattle.arc_serving.specs.declared.working.WorkerEnd.TheVariants.{DoorEnded, Quota, DoorFault, Stopped as WorkerStopped}

-- the session ended by want of memory, which ends no worker
abbrev pub is_refused : SessionEnd → Bool
is_refused (Stopped Memory) = true
is_refused end = false

-- the stop that ended the session and ends the worker too
abbrev pub stop_of : SessionEnd → Option Stop
stop_of (Stopped Memory) = None
stop_of (Stopped stop) = Some stop
stop_of end = None

-- no session of these ended the worker
abbrev pub WentOn : List Served → Type 0
WentOn served = All (λ s. stop_of s.end ≡ None) served

-- The last of these sessions ended by this stop, which is not want of memory, and no earlier one by such a stop. For which event of
-- that session it was, the session's clause says.
pub record IsStoppedBy (stop : Stop) (served : List Served) : Type 0 where
  pub front : List Served
  pub last : Served
  pub parts : served ≡ front ++ last ∷ []
  pub others : WentOn front
  pub end : stop_of last.end ≡ Some stop

-- The cause of a worker's end: what its pass is then, what its door told at first and tells then, how many sessions were asked for,
-- and its links. The pass shows a stop for some event at some reading of the clock.
abbrev pub EndsWork : WorkerEnd → Terms → PassSeen → DoorSeen → DoorSeen → ℕ → List Served → Type 0
EndsWork DoorEnded t q door door' sessions served = HasNoneLeft door'.links × WentOn served × (length served < sessions)
EndsWork Quota t q door door' sessions served = (length served ≡ sessions) × WentOn served
EndsWork (DoorFault before now) t q door door' sessions served =
    (before ≡ door.faults) × (now ≡ door'.faults) × Rose before now × WentOn served × (length served < sessions)
EndsWork (WorkerStopped stop) t q door door' sessions served =
    IsStoppedBy stop served × (event : Event) × (clock : ℕ) × PassShows t q stop event clock

-- What a worker for sessions of this kind did, from the pass p and the door as they were handed in, to the pass q and the door as
-- they then are.
pub record Works (side : Side) (t : Terms) (p q : PassSeen) (door door' : DoorSeen) (sessions : ℕ) (worked : Worked) : Type 0 where
  pub served : List Served
  pub each : InTurn (IsServed side t) p q served
  pub links : Moves (MovesLinks served) door.links door'.links
  pub most : length served ≤ sessions
  pub refused : worked.refused ≡ count_by (λ s. is_refused s.end) served
  pub ended : EndsWork worked.end t q door door' sessions served
