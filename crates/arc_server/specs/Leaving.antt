-- What a run leaves of the store that it opened.
use Rattle.std.specs.Prelude.{◌≡◌, ◌≤◌, List}
use Rattle.arc_io.specs.Disks.{DiskSeen}
use Rattle.centre_rules.specs.Summary.{Summary}
use Rattle.centre_rules.specs.History.{Entry}
use Rattle.centre_store.specs.Stores.{Stored, StoreStands}
use Rattle.arc_server.specs.Areas.{EndsWith, shipped}
use Rattle.arc_server.specs.Handed.{Handed}

-- A run leaves this store: it stands for this history over a summary, has the limits that are shipped, and was opened at a count of the
-- disk's faults that was no lower than at the run's entry. Its disk is handed back; for what the areas stand then, `EndsWith` says.
pub record LeavesStore {D : Type 0} (seen : D → DiskSeen) (r r' : Handed D) (b : Summary) (h : List Entry) (last : Stored D) : Type 0 where
  pub stands : StoreStands seen b last h
  pub limits : last.journal.limits ≡ shipped
  pub later : (seen r.disk).faults ≤ last.at_open
  pub handed : r'.disk ≡ last.journal.disk
  pub ends : EndsWith (seen r.disk).faults (seen r'.disk) b h
