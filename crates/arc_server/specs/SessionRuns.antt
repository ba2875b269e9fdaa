-- What a run did that serves one session.
use Rattle.std.specs.Prelude.{◌≡◌, ℕ, List, codes}
use Rattle.arc_io.specs.Disks.{DiskSeen}
use Rattle.arc_io.specs.Seen.{PortSeen}
use Rattle.centre_rules.specs.History.{Entry}
use Rattle.centre_store.specs.Calls.{LeavesFrom}
use Rattle.centre_store.specs.StoreHalls.{store_seen}
use Rattle.centre_store.specs.Stores.{Stored}
use Rattle.arc_serving.specs.Sessions.{Reads, Serves}
use Rattle.arc_serving.specs.declared.session.SessionEnd.{SessionEnd}
use Rattle.arc_serving.specs.declared.side.Side.{Side}
use Rattle.arc_server.specs.Beginnings.{HasBegun}
use Rattle.arc_server.specs.Handed.{Handed}
use Rattle.arc_server.specs.Leaving.{LeavesStore}
use Rattle.arc_server.specs.Made.{status_of_run, status_of_session}
use Rattle.arc_server.specs.declared.status.Status.{Status}
use Rattle.session_rules.specs.Sessions.{changed}

-- the name of the one line of a run
abbrev pub line_name : List ℕ
line_name = codes "line"

-- A run began, with a port that told p then, and from there a session of this kind read some bytes, answered them, and came to its end. It
-- leaves the store with the history that the session ended with. A crash at any moment since the run had begun leaves all that was recorded
-- then, and of the session's entries some first ones. Where the disk has failed, one more counts among these, with which the history can go
-- on.
pub record ServesRun {D : Type 0} (seen : D → DiskSeen) (side : Side) (status : Status) (r r' : Handed D) : Type 0 where
  pub p : PortSeen
  pub begun : HasBegun seen r r'.setup p
  pub end : SessionEnd
  pub read : List ℕ
  pub reads : Reads side end read p r'.port
  pub history : List Entry
  pub made : List Entry
  pub last : Stored D
  pub serves : Serves side line_name end read begun.asked.base (record { from = begun.history; to = history; made = made })
      (changed (store_seen seen begun.first) (store_seen seen last) p r'.port)
  pub leaves : LeavesStore seen r r' begun.asked.base history last
  pub any_moment : LeavesFrom (seen begun.first.journal.disk).moment begun.history (seen r.disk).faults (seen r'.disk)
      begun.asked.base history
  pub status_is : status ≡ status_of_run seen r r' (status_of_session end p r'.port)
