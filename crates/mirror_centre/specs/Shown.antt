-- What a store shows behind an end.
use Rattle.std.specs.Prelude.{◌≡◌, ◌⊎◌}
use Rattle.arc_io.specs.Disks.{DiskSeen}
use Rattle.centre_core.specs.declared.hall.Stop.TheVariants.{Memory, Down}
use Rattle.centre_store.specs.Stores.{Stored, HasFailed}
use Rattle.mirror_centre.specs.declared.feed_end.FeedEnd.{FeedEnd}
use Rattle.mirror_centre.specs.declared.feed_end.FeedEnd.TheVariants as Feed

-- a store of which records are read alone stops for want of memory, or as its disk has failed
abbrev pub ShowsFeed : {D : Type 0} → (D → DiskSeen) → FeedEnd → Stored D → Type 0
ShowsFeed seen (Feed.Stopped stop) s = (stop ≡ Memory) ⊎ (HasFailed seen s × (stop ≡ Down s.at_open (seen s.journal.disk).faults))
ShowsFeed seen end s = Unit {0}
