use Rattle.std.proofs.Common.{◌≡◌, take}
use Rattle.disk_journal.specs.Records.{need_of_all}
use Rattle.centre_store.proofs.gather.need_of.Given as goal

abbrev pub invariant-loop-i : goal.invariant-loop-i
invariant-loop-i l = l.need ≡ need_of_all (take l.i l.bodies)
