use Rattle.arc_serving.proofs.Lists.{zipped}
use Rattle.arc_serving.specs.Jobs.{IsJobDone}
use Rattle.arc_serving.proofs.beside.work_side.Goals as goal

pub returns : goal.returns
returns g c = zipped (IsJobDone c.args.side g.N.GateName.terms c.args.sessions) c.args.jobs.items c.work_all.result.items c.work_all.ensures.count c.work_all.ensures.each
