-- What a run of `feed` did.
use Rattle.std.specs.Prelude.{◌≡◌, ◌<◌, List, length, IfSome}
use Rattle.arc_io.specs.Crashes.{IsQuiet}
use Rattle.arc_io.specs.Disks.{DiskSeen}
use Rattle.centre_rules.specs.Summary.{Summary}
use Rattle.centre_rules.specs.History.{Entry}
use Rattle.centre_store.specs.Given.{BeginsWith, HoldsRecorded}
use Rattle.centre_store.specs.Stores.{Stored, StoreStands}
use Rattle.disk_journal.specs.Standing.{chosen_part, version_now}
use Rattle.mirror_centre.specs.Answers.{IsAnsweredWith}
use Rattle.mirror_centre.specs.Feeds.{HasFed}
use Rattle.mirror_centre.specs.Shown.{ShowsFeed}
use Rattle.mirror_centre.specs.declared.feed_end.FeedEnd.{FeedEnd}
use Rattle.arc_server.specs.Handed.{Handed}
use Rattle.arc_server.specs.Leaving.{LeavesStore}
use Rattle.arc_server.specs.Made.{status_of_run, status_of_feed}
use Rattle.arc_server.specs.Reports.{StandsOn}
use Rattle.arc_server.specs.declared.status.Status.{Status}

-- Nothing was written where the disk told that the area which counts has more than 17 bytes, of the second version.
abbrev pub OpensQuiet : DiskSeen → DiskSeen → Type 0
OpensQuiet disk disk' = IfSome disk.told (λ s. 17 < length (chosen_part s) → version_now s ≡ 2 → IsQuiet disk disk')

-- The areas stood for a past, and stand for it still. They were opened as a store, without a write where a journal of the second version
-- stood there; the asks on the port were answered by what it has, and from the opening on nothing was written. Nothing else was done to
-- the port. The run leaves the store with that past.
pub record FeedsPast {D : Type 0} (seen : D → DiskSeen) (status : Status) (r r' : Handed D) : Type 0 where
  pub base : Summary
  pub past : List Entry
  pub begins : BeginsWith (seen r.disk) base past
  pub first : Stored D
  pub stands : StoreStands seen base first past
  pub held : HoldsRecorded seen first.journal base past
  pub unwritten : OpensQuiet (seen r.disk) (seen first.journal.disk)
  pub quiet : IsQuiet (seen first.journal.disk) (seen r'.disk)
  pub end : FeedEnd
  pub fed : HasFed (IsAnsweredWith seen base past first) end r.port r'.port
  pub last : Stored D
  pub shown : ShowsFeed seen end last
  pub leaves : LeavesStore seen r r' base past last
  pub stays : StandsOn (seen r.disk) (seen r'.disk)
  pub status_is : status ≡ status_of_run seen r r' (status_of_feed end r.port r'.port)
