-- What is so of a store and its disk behind a session, and of the history that it ended with.
use Rattle.std.proofs.Common.{ℕ, List, false}
use Rattle.arc_io.specs.Disks.{DiskSeen}
use Rattle.arc_io.specs.Seen.{PortSeen}
use Rattle.centre_core.specs.Halls.{DiskGoesOn}
use Rattle.centre_rules.specs.Summary.{Summary}
use Rattle.centre_store.specs.StoreHalls.{store_seen}
use Rattle.centre_store.specs.Stores.{Stored, StoreStands}
use Rattle.session_rules.specs.Sessions.{changed, Way}
use Rattle.arc_serving.proofs.After.{is_after}
use Rattle.arc_serving.specs.Sessions.{Serves}
use Rattle.arc_serving.specs.declared.side.Side.{Side}
use Rattle.arc_serving.specs.declared.session.SessionEnd.{SessionEnd}

pub stands_by : {D : Type 0} (seen : D → DiskSeen) (side : Side) (name : List ℕ) (end : SessionEnd) (read : List ℕ) (base : Summary) (w : Way) (first last : Stored D)
    (p p' : PortSeen) → Serves side name end read base w (changed (store_seen seen first) (store_seen seen last) p p') → StoreStands seen base last w.to
stands_by seen side name end read base w first last p p' serves =
    (is_after false side name end read base w (store_seen seen first) (store_seen seen last) p p' serves).holds.stands

pub disk_by : {D : Type 0} (seen : D → DiskSeen) (side : Side) (name : List ℕ) (end : SessionEnd) (read : List ℕ) (base : Summary) (w : Way) (first last : Stored D)
    (p p' : PortSeen) → Serves side name end read base w (changed (store_seen seen first) (store_seen seen last) p p')
    → DiskGoesOn base (store_seen seen first) (store_seen seen last) w.from w.to
disk_by seen side name end read base w first last p p' serves =
    (is_after false side name end read base w (store_seen seen first) (store_seen seen last) p p' serves).disk
