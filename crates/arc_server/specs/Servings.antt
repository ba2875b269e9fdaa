-- Which status is made of what came of all callers.
use Rattle.std.specs.Prelude.{◌==◌, ◌||◌, List, [], ◌∷◌, ◌++◌, Bool, not, if◌then◌else◌}
use Rattle.std.specs.Prelude.{Option, Some, None, Result, Ok, Err}
use Rattle.std.specs.List.{flat_map, list_any}
use Rattle.std.specs.Option.{option_to_list}
use Rattle.arc_data.specs.declared.blob.Memory.{Memory}
use Rattle.arc_serving.specs.Seen.{CameSeen}
use Rattle.arc_serving.specs.declared.side.Side.{Side}
use Rattle.arc_serving.specs.declared.side.Side.TheVariants.{Lines, Desks}
use Rattle.arc_serving.specs.declared.working.Worked.{Worked}
use Rattle.arc_serving.specs.declared.working.WorkerEnd.{WorkerEnd}
use Rattle.arc_serving.specs.declared.working.WorkerEnd.TheVariants.{DoorFault as WorkerFault, Stopped}
use Rattle.centre_core.specs.declared.hall.Stop.{Stop}
use Rattle.centre_core.specs.declared.hall.Stop.TheVariants.{Full as HallFull, Worn as HallWorn}
use Rattle.arc_server.specs.declared.status.Status.{Status}
use Rattle.arc_server.specs.declared.status.Status.TheVariants.{Done, Full, DoorFault, Memory as NoMemory, Worn}

-- the stop that ended a worker
abbrev pub stop_in : WorkerEnd → List Stop
stop_in (Stopped stop) = stop ∷ []
stop_in end = []

-- all stops: those of the workers in the order of their doors, lines before desks, and that of the ticker
abbrev pub stops_in : CameSeen → List Stop
stops_in came = flat_map (λ w. stop_in w.end) came.lines ++ (flat_map (λ w. stop_in w.end) came.desks ++ option_to_list came.ticked.stop)

-- the statuses that stops make: of a journal without room, and of a worn hall. A disk that failed shows in its count.
abbrev pub full_in : Stop → List Status
full_in (HallFull used need records) = Full used need records ∷ []
full_in stop = []

abbrev pub worn_in : Stop → List Status
worn_in (HallWorn count) = Worn count ∷ []
worn_in stop = []

-- the status that a door's fault makes
abbrev pub door_fault_in : Side → WorkerEnd → List Status
door_fault_in side (WorkerFault before now) = DoorFault side before now ∷ []
door_fault_in side end = []

abbrev pub door_faults_in : CameSeen → List Status
door_faults_in came = flat_map (λ w. door_fault_in Lines w.end) came.lines ++ flat_map (λ w. door_fault_in Desks w.end) came.desks

-- the status, where this is so
abbrev pub where_so : Bool → Status → List Status
where_so so status = if so then status ∷ [] else []

-- a session of such a worker was refused memory
abbrev pub has_refused : List Worked → Bool
has_refused came = list_any (λ w. not (w.refused == 0)) came

-- a session or a Tick was refused memory
abbrev pub was_refused : CameSeen → Bool
was_refused came = has_refused came.lines || (has_refused came.desks || not (came.ticked.refused == 0))

-- what callers met, who were all refused memory before the first began or ran; the summary's write stands in its place among that
abbrev pub met_by : Result CameSeen Memory → List Status → List Status
met_by (Err refused) unwritten = unwritten ++ NoMemory ∷ []
met_by (Ok came) unwritten =
    flat_map full_in (stops_in came)
    ++ (flat_map worn_in (stops_in came) ++ (door_faults_in came ++ (unwritten ++ where_so (was_refused came) NoMemory)))

-- the first of such statuses, where one occurred
abbrev pub front_of : List Status → Option Status
front_of [] = None
front_of (status ∷ more) = Some status

-- and Done where none did
abbrev pub first_of : List Status → Status
first_of [] = Done
first_of (status ∷ more) = status
