use Rattle.centre_store.proofs.Ideal.{lives_ideally}
use Rattle.centre_store.proofs.laws.law_restarts_stand.Goals as goal

pub returns : goal.returns
returns g c x w setup asked spaced life =
    lives_ideally g.D.Disk.seen g.met.D.Disk.only_now c.law_repeats.ensures c.law_restart.ensures x setup asked spaced w life
