use Rattle.centre_store.proofs.RunOfCalls.{run_leaves}
use Rattle.centre_store.proofs.laws.law_runs_leave.Goals as goal

pub returns : goal.returns
returns g c b h first last calls w up run = run_leaves g.D.Disk.seen g.met.D.Disk.only_now b h first w up calls last run
