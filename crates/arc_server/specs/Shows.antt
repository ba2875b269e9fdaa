-- What the status of a run shows that served callers.
use Rattle.std.specs.Prelude.{ℕ, ◌≡◌, ◌⊎◌, None, Result, Ok, Err, All, Contains}
use Rattle.arc_data.specs.declared.blob.Memory.{Memory}
use Rattle.arc_io.specs.Causes.{Rose}
use Rattle.arc_io.specs.Seen.{PortSeen}
use Rattle.arc_serving.specs.Seen.{CameSeen}
use Rattle.arc_serving.specs.declared.side.Side.{Side}
use Rattle.arc_serving.specs.declared.side.Side.TheVariants.{Lines, Desks}
use Rattle.arc_serving.specs.declared.working.Worked.{Worked}
use Rattle.arc_serving.specs.declared.working.WorkerEnd.TheVariants.{DoorEnded, Quota, DoorFault as WorkerFault}
use Rattle.centre_core.specs.declared.hall.Stop.TheVariants.{Full as HallFull, Worn as HallWorn}
use Rattle.arc_server.specs.Servings.{stops_in}
use Rattle.arc_server.specs.declared.status.Status.{Status}
use Rattle.arc_server.specs.declared.status.Status.TheVariants.{Done, WriteFault, DiskFault, Full, DoorFault, Memory as NoMemory, Worn}

-- a worker went on until its door ended or its quota was reached, and no session of it was refused memory
abbrev pub HasEnded : Worked → Type 0
HasEnded w = ((w.end ≡ DoorEnded) ⊎ (w.end ≡ Quota)) × (w.refused ≡ 0)

-- all workers did, the ticker went on to the end of its pulse, and no Tick was refused memory
pub record HaveEnded (came : CameSeen) : Type 0 where
  pub lines : All HasEnded came.lines
  pub desks : All HasEnded came.desks
  pub ticker : came.ticked.stop ≡ None
  pub refused : came.ticked.refused ≡ 0

-- callers ran, and this came of them
abbrev pub HasCome : (CameSeen → Type 0) → Result CameSeen Memory → Type 0
HasCome so (Ok came) = so came
HasCome so (Err refused) = ⊥

-- a worker of this side ended by a fault of its door, of these counts
abbrev pub HasDoorFault : Side → ℕ → ℕ → CameSeen → Type 0
HasDoorFault Lines before now came = (w : Worked) × Contains came.lines w × (w.end ≡ WorkerFault before now)
HasDoorFault Desks before now came = (w : Worked) × Contains came.desks w × (w.end ≡ WorkerFault before now)

-- What a status shows of what occurred, by the counts of the disk's faults at entry and at the end, by what the port told before
-- the summary and after it, and by what came of all callers. Want of memory shows nothing.
abbrev pub IsShownBy : Status → ℕ → ℕ → PortSeen → PortSeen → Result CameSeen Memory → Type 0
IsShownBy Done entry end p p' came = HasCome HaveEnded came
IsShownBy (DiskFault before now) entry end p p' came = (before ≡ entry) × (now ≡ end) × Rose entry end
IsShownBy (Full used need records) entry end p p' came = HasCome (λ c. Contains (stops_in c) (HallFull used need records)) came
IsShownBy (Worn count) entry end p p' came = HasCome (λ c. Contains (stops_in c) (HallWorn count)) came
IsShownBy (DoorFault side before now) entry end p p' came = HasCome (HasDoorFault side before now) came
IsShownBy (WriteFault before now) entry end p p' came =
    (before ≡ p.write_faults) × (now ≡ p'.write_faults) × Rose p.write_faults p'.write_faults
IsShownBy NoMemory entry end p p' came = Unit {0}
IsShownBy status entry end p p' came = ⊥
