-- What a run of `serve` or `gather` did.
use Rattle.std.specs.Prelude.{◌≡◌, ℕ, List, [], ◌++◌, Bool, true, codes, decimal, length, is_err}
use Rattle.std.specs.Prelude.{Result, Ok, Err, IfOk, OnErr}
use Rattle.arc_data.specs.declared.blob.Memory.{Memory}
use Rattle.arc_io.specs.Causes.{Rose}
use Rattle.arc_io.specs.Disks.{DiskSeen}
use Rattle.arc_io.specs.Seen.{PortSeen}
use Rattle.arc_io.specs.Told.{Puts}
use Rattle.arc_io.specs.declared.traits.Failed.{Failed}
use Rattle.arc_serving.specs.Seen.{StationSeen, CameSeen}
use Rattle.arc_serving.specs.Serving.{AtSomeGate, ServesAt, ServesWhole, StandsForAll, all_ended}
use Rattle.arc_serving.specs.declared.station.Crew.{Crew}
use Rattle.centre_rules.specs.Summary.{Summary}
use Rattle.centre_rules.specs.Sums.{summary_of}
use Rattle.centre_store.specs.Stores.{Stored, HasFailed}
use Rattle.line_gate.specs.Passes.{PassSeen}
use Rattle.line_gate.specs.declared.closed.GroupClosed.TheVariants.{Broken}
use Rattle.arc_server.specs.Beginnings.{HasBegun}
use Rattle.arc_server.specs.Handed.{Handed}
use Rattle.arc_server.specs.Leaving.{LeavesStore}
use Rattle.arc_server.specs.Made.{status_over, status_of_run, write_fault}
use Rattle.arc_server.specs.Servings.{first_of, met_by, where_so}
use Rattle.arc_server.specs.declared.status.Status.{Status}
use Rattle.arc_server.specs.declared.status.Status.TheVariants.{DiskFault}

-- one line: how many entries are recorded, and how many incidents are open
abbrev pub summary_line : Summary → List ℕ
summary_line s = (codes "recorded " ++ decimal s.recorded) ++ ((codes ", open " ++ decimal (length s.incidents)) ++ codes "\n")

-- A summary of a store was written, and the status is the first of all that occurred.
pub record EndsServing (before : ℕ) (p p' : PortSeen) (now : ℕ) (sum : Summary)
    (came : Result CameSeen Memory) (status : Status) : Type 0 where
  pub written : Result (Unit {0}) Failed
  pub puts : Puts p p' written (summary_line sum)
  pub status_is : status ≡ status_over before now (first_of (met_by came (where_so (is_err written) (write_fault p p'))))

-- All callers ran at a gate without groups or with them, with these passes as they ended, and with this around the store before and
-- after; a gate with groups gave back a store whose disk has not failed. Or all of them were refused memory before the first began, and
-- what stood around the store is as it was.
abbrev pub HasServed : {D : Type 0} → (D → DiskSeen)
    → Bool → Stored D → Crew → StationSeen × StationSeen → Result CameSeen Memory → Stored D → List PassSeen → Type 0
HasServed seen groups first crew (around, around') (Err refused) last passes = (around' ≡ around) × (passes ≡ [])
HasServed seen groups first crew (around, around') (Ok came) last passes =
    (served : AtSomeGate seen groups first (λ t. ServesWhole seen t crew around around' came last))
    × (passes ≡ all_ended served.serves.all.ran) × (groups ≡ true → HasFailed seen last → ⊥)

-- A run began, with a port that told p then, and from there all callers were served. It leaves the store with a history that begins with
-- the begun one and has all that any of them has seen. One line of it was written, or a front of it, and the status is the first of all
-- that occurred.
pub record ServesAll {D : Type 0} (seen : D → DiskSeen)
    (groups : Bool) (crew : Crew) (status : Status) (r r' : Handed D) (around around' : StationSeen) : Type 0 where
  pub p : PortSeen
  pub begun : HasBegun seen r r'.setup p
  pub last : Stored D
  pub came : Result CameSeen Memory
  pub passes : List PassSeen
  pub served : HasServed seen groups begun.first crew (around, around') came last passes
  pub stands : StandsForAll seen begun.asked.base begun.history passes last
  pub leaves : LeavesStore seen r r' begun.asked.base stands.from.history last
  pub written : Result (Unit {0}) Failed
  pub puts : Puts p r'.port written (summary_line (summary_of begun.asked.base stands.from.history))
  pub status_is : status ≡ status_of_run seen r r' (first_of (met_by came (where_so (is_err written) (write_fault p r'.port))))

-- A run began, and from there all callers ran at a gate with groups; or all of them were refused memory before the first began, and what
-- stood around the store is as it was. The disk, which had failed since the run's entry, came back alone, and the port is as it was when
-- the run had begun.
pub record GathersBroken {D : Type 0} (seen : D → DiskSeen)
    (crew : Crew) (status : Status) (r r' : Handed D) (around around' : StationSeen) : Type 0 where
  pub begun : HasBegun seen r r'.setup r'.port
  pub came : Result CameSeen Memory
  pub served : IfOk came (λ came. AtSomeGate seen true begun.first (λ t. ServesAt seen t crew around around' came
      (Broken r'.disk begun.first.at_open (seen r'.disk).faults)))
  pub untouched : OnErr came (around' ≡ around)
  pub rose : Rose (seen r.disk).faults (seen r'.disk).faults
  pub status_is : status ≡ DiskFault (seen r.disk).faults (seen r'.disk).faults
