-- Every hold is taken away.
use Rattle.std.proofs.Common.{refl}
use Rattle.centre_rules.specs.Marks.{Starts}
use Rattle.open_incidents.proofs.ActRoom.{room_same}
use Rattle.open_incidents.proofs.Bounds.{few_same}
use Rattle.open_incidents.proofs.marks.release_all.Goals as goal

pub returns-clause-adopted : goal.returns-clause-adopted
returns-clause-adopted c text = c.release_all.ensures

pub returns-clause-started : goal.returns-clause-started
returns-clause-started c at = c.release_all.ensures

pub returns-clause-few : goal.returns-clause-few
returns-clause-few c n w = rw (returns-clause-started c 0) (few_same (Starts 0) n c.args.table.now.opened c.args.table.now.incidents (λ i. refl) w)

pub returns-clause-room : goal.returns-clause-room
returns-clause-room c r = rw (returns-clause-started c 0) (room_same (Starts 0) c.args.table.now.incidents (λ i. refl) r)
