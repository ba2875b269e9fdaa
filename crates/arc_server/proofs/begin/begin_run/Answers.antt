use Rattle.std.proofs.Common.{inl, refl}
use Rattle.arc_server.proofs.Begun.{if_ok, if_err}
use Rattle.arc_server.proofs.begin.begin_run.Goals as goal

pub returns-in-Ok-clause-begun : goal.returns-in-Ok-clause-begun
returns-in-Ok-clause-begun g c =
    if_ok c.open_under.result
    (λ store begun. begun (g.S.Ends.seen c.args.source.now) (g.S.Ends.seen c.read_setup.new.source) c.in-Ok.ensures.read.0) c.open_under.ensures.begun

pub returns-in-Ok-clause-stopped : goal.returns-in-Ok-clause-stopped
returns-in-Ok-clause-stopped g c =
    if_err c.open_under.result
    (λ stopped shows. shows (g.S.Ends.seen c.args.source.now) (g.S.Ends.seen c.read_setup.new.source) c.in-Ok.ensures.read.0) c.open_under.ensures.stopped

pub returns-in-Err-clause-stopped : goal.returns-in-Err-clause-stopped
returns-in-Err-clause-stopped g c = inl (c.in-Err.ensures.refused, refl, refl)
