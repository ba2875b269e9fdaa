-- What a journal does behind its records: nothing.
use Rattle.std.specs.Prelude.{ℕ}
use Rattle.arc_io.specs.Disks.{DiskSeen}
use Rattle.arc_io.specs.Crashes.{Becomes, Follows}
use Rattle.disk_journal.specs.Standing.{IsSameBehind}

-- From old to new nothing was written behind the first n bytes of the chosen area: what is told of them stays, and a crash leaves there
-- what one at old might have left.
pub record SparesBehind (n : ℕ) (old new : DiskSeen) : Type 0 where
  pub same : Becomes old.told new.told (IsSameBehind n)
  pub crash : Follows (IsSameBehind n) old.may_leave new.may_leave
