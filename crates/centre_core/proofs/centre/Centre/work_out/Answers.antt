-- What a heartbeat is answered holds at any moment.
use Rattle.centre_core.proofs.centre.Centre.work_out.Goals as goal

pub returns-in-Beat-clause-worked : goal.returns-in-Beat-clause-worked
returns-in-Beat-clause-worked c = rw c.in-Beat.is (c.on_beat.ensures.worked c.args.at)
