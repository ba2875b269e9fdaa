-- What a run of `mirror` did.
use Rattle.std.specs.Prelude.{◌≡◌, List}
use Rattle.arc_io.specs.Disks.{DiskSeen}
use Rattle.centre_rules.specs.Summary.{Summary}
use Rattle.centre_rules.specs.History.{Entry}
use Rattle.centre_store.specs.Followings.{ShowsOfReplay}
use Rattle.centre_store.specs.Given.{BeginsWith}
use Rattle.centre_store.specs.Stores.{Stored}
use Rattle.mirror_centre.specs.Follows.{HasFollowed}
use Rattle.mirror_centre.specs.declared.follow_end.FollowEnd.{FollowEnd}
use Rattle.arc_server.specs.Handed.{Handed}
use Rattle.arc_server.specs.Leaving.{LeavesStore}
use Rattle.arc_server.specs.Made.{status_of_run, status_of_follow}
use Rattle.arc_server.specs.declared.status.Status.{Status}

-- The areas stood for a past. From it on another centre was followed over the port, which led to a history, and the store was left
-- with this one. No run began: there is no entry but those that were taken.
pub record FollowsOn {D : Type 0} (seen : D → DiskSeen) (status : Status) (r r' : Handed D) : Type 0 where
  pub base : Summary
  pub past : List Entry
  pub begins : BeginsWith (seen r.disk) base past
  pub history : List Entry
  pub last : Stored D
  pub leaves : LeavesStore seen r r' base history last
  pub end : FollowEnd
  pub followed : HasFollowed (λ body stop. ShowsOfReplay seen last body stop) end base past history r.port r'.port
  pub status_is : status ≡ status_of_run seen r r' (status_of_follow end r.port r'.port)
