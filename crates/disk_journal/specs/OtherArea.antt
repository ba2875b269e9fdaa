-- What a journal does to the area that isn't chosen, and a turn to the one that was: nothing.
use Rattle.std.specs.Prelude.{◌≡◌}
use Rattle.arc_io.specs.Areas.{Areas, part, rest}
use Rattle.arc_io.specs.Disks.{DiskSeen}
use Rattle.arc_io.specs.Crashes.{Becomes, Follows, LeavesOnly}
use Rattle.arc_io.specs.declared.disk.Area.{Area}
use Rattle.disk_journal.specs.Standing.{IsOtherSame}

-- From old to new the area that isn't chosen was not written: what is told of it stays, and a crash at any moment between leaves there
-- what one at old might have left.
pub record SparesOther (old new : DiskSeen) : Type 0 where
  pub same : Becomes old.told new.told IsOtherSame
  pub crash : Follows IsOtherSame old.may_leave new.may_leave
  pub any_moment : LeavesOnly old new (λ c. (d : Areas) × old.may_leave d × IsOtherSame d c)

-- of two states of a disk: this area is the same
abbrev pub IsSameIn : Area → Areas → Areas → Type 0
IsSameIn area before after = part area after ≡ part area before

-- the one that it is not is the same
abbrev pub IsSameBeside : Area → Areas → Areas → Type 0
IsSameBeside area before after = rest area after ≡ rest area before
