-- How a run begins that reads the setup, opens the journal and asks the clock, and what it did where it stopped before.
use Rattle.std.specs.Prelude.{◌≡◌, ◌≤◌, ◌⊎◌, ℕ, List}
use Rattle.arc_io.specs.Disks.{DiskSeen}
use Rattle.arc_io.specs.Seen.{PortSeen}
use Rattle.arc_io.specs.Told.{after_reading}
use Rattle.arc_script.specs.Ends.{IsUnopened}
use Rattle.centre_core.specs.Setting.{text_of}
use Rattle.centre_core.specs.declared.hall.Stop.{Stop}
use Rattle.centre_rules.specs.Summary.{Summary}
use Rattle.centre_rules.specs.History.{Entry}
use Rattle.centre_store.specs.Begins.{begun_after, adopted_after, ShowsOfBegin}
use Rattle.centre_store.specs.Given.{BeginsWith}
use Rattle.centre_store.specs.StoreHalls.{IsStoreFor, IsReadable}
use Rattle.centre_store.specs.Stores.{Stored, HasFailed}
use Rattle.disk_journal.specs.declared.fault.OpenFault.{OpenFault}
use Rattle.arc_server.specs.Handed.{Handed}
use Rattle.arc_server.specs.Leaving.{LeavesStore}
use Rattle.arc_server.specs.Made.{status_of_run, status_of_fault, status_of_stop}
use Rattle.arc_server.specs.SetupReads.{HasSetup, IsNoSetup}
use Rattle.arc_server.specs.declared.status.Status.{Status}

-- The setup was read of its source, which tells q' then. The areas stood for a past over a summary. One reading of the clock was
-- taken of the port, which tells p' then.
pub record HasAsked {D : Type 0} (seen : D → DiskSeen) (r : Handed D) (q' p' : PortSeen) : Type 0 where
  pub setup : HasSetup r.setup q'
  pub base : Summary
  pub past : List Entry
  pub begins : BeginsWith (seen r.disk) base past
  pub clock : ℕ
  pub told : p' ≡ after_reading clock r.port

-- The run began with this store: it stands for the past with the beginning of a run under the setup's text, which is in force, and all that
-- was recorded of this history can be read again. It was opened at a count of the disk's faults that was no lower than at the run's entry,
-- and its disk has not failed since.
pub record HasBegun {D : Type 0} (seen : D → DiskSeen) (r : Handed D) (q' p' : PortSeen) : Type 0 where
  pub asked : HasAsked seen r q' p'
  pub first : Stored D
  pub history : List Entry
  pub is : history ≡ begun_after asked.base asked.past asked.setup.text asked.clock
  pub stands : IsStoreFor seen asked.base first history
  pub readable : IsReadable asked.base history
  pub under : text_of first.state ≡ asked.setup.text
  pub up : HasFailed seen first → ⊥
  pub later : (seen r.disk).faults ≤ first.at_open

-- The setup was not read or is none, and nothing else was touched.
abbrev pub StopsAtSetup : {D : Type 0} → Status → Handed D → Handed D → Type 0
StopsAtSetup status r r' = IsNoSetup status r.setup r'.setup × (r'.port ≡ r.port) × (r'.disk ≡ r.disk)

-- The journal was not opened, and the port not touched.
pub record StopsAtOpening {D : Type 0} (seen : D → DiskSeen) (status : Status) (r r' : Handed D) : Type 0 where
  pub fault : OpenFault
  pub unopened : IsUnopened fault (seen r.disk) (seen r'.disk)
  pub port : r'.port ≡ r.port
  pub status_is : status ≡ status_of_run seen r r' (status_of_fault fault)

-- The beginning was stopped: it leaves the store with the past, or with it and the Adopt of the setup's text, and the store shows the stop.
pub record StopsAtBeginning {D : Type 0} (seen : D → DiskSeen) (status : Status) (r r' : Handed D) : Type 0 where
  pub asked : HasAsked seen r r'.setup r'.port
  pub history : List Entry
  pub is : (history ≡ asked.past) ⊎ (history ≡ adopted_after asked.base asked.past asked.setup.text asked.clock)
  pub last : Stored D
  pub leaves : LeavesStore seen r r' asked.base history last
  pub stop : Stop
  pub cause : ShowsOfBegin seen last asked.setup.text asked.clock stop
  pub status_is : status ≡ status_of_run seen r r' (status_of_stop stop)

-- The run stopped before it began.
abbrev pub StopsBefore : {D : Type 0} → (D → DiskSeen) → Status → Handed D → Handed D → Type 0
StopsBefore seen status r r' =
    StopsAtSetup status r r' ⊎ ((HasSetup r.setup r'.setup × StopsAtOpening seen status r r') ⊎ StopsAtBeginning seen status r r')
