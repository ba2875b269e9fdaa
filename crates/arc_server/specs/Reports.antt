-- What a run of `report` did.
use Rattle.std.specs.Prelude.{◌≡◌, List, Result}
use Rattle.arc_io.specs.Areas.{Areas}
use Rattle.arc_io.specs.Crashes.{Becomes, LeavesOnly}
use Rattle.arc_io.specs.Disks.{DiskSeen}
use Rattle.arc_io.specs.Told.{Puts}
use Rattle.arc_io.specs.declared.traits.Failed.{Failed}
use Rattle.arc_report.specs.Reports.{report_of}
use Rattle.centre_rules.specs.Summary.{Summary}
use Rattle.centre_rules.specs.History.{Entry}
use Rattle.centre_rules.specs.Sums.{summary_of}
use Rattle.centre_store.specs.Given.{BeginsWith, GoesOn}
use Rattle.arc_server.specs.Areas.{EndsWith}
use Rattle.arc_server.specs.Handed.{Handed}
use Rattle.arc_server.specs.Made.{status_of_run, status_of_text}
use Rattle.arc_server.specs.declared.status.Status.{Status}

-- Whatever the areas stood for when they were to be opened, they stand for now, as reads give them; and so does all that a crash left of
-- them at any moment between.
pub record StandsOn (disk disk' : DiskSeen) : Type 0 where
  pub area : Becomes disk.told disk'.told GoesOn
  pub images : LeavesOnly disk disk' (λ c. (d : Areas) × disk.may_leave d × GoesOn d c)

-- The areas stood for a past, and stand for it still. The report of the past was written, or a front of it, and nothing else was done to
-- the port.
pub record ReportsPast {D : Type 0} (seen : D → DiskSeen) (status : Status) (r r' : Handed D) : Type 0 where
  pub base : Summary
  pub past : List Entry
  pub begins : BeginsWith (seen r.disk) base past
  pub stays : StandsOn (seen r.disk) (seen r'.disk)
  pub ends : EndsWith (seen r.disk).faults (seen r'.disk) base past
  pub written : Result (Unit {0}) Failed
  pub puts : Puts r.port r'.port written (report_of (summary_of base past))
  pub status_is : status ≡ status_of_run seen r r' (status_of_text written r.port r'.port)
