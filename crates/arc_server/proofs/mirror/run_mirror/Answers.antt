use Rattle.std.proofs.Common.{inl, inr, refl}
use Rattle.arc_server.proofs.Begun.{shut}
use Rattle.arc_server.proofs.mirror.run_mirror.Goals as goal

pub returns-in-Ok-clause-ran : goal.returns-in-Ok-clause-ran
returns-in-Ok-clause-ran g c q =
    let o = c.in-Ok.ensures.opened in
    inr (c.follow_by.ensures.followed q c.args.disk o.base o.past c.faults-before.ensures o.stands
    (record { version = o.version; bodies = o.bodies; given = o.given; is_past = o.is_past; area = o.area }))

pub returns-in-Err-clause-ran : goal.returns-in-Err-clause-ran
returns-in-Err-clause-ran g c q =
    let e = c.in-Err.ensures in
    inl (shut c.faults-before.result c.in-Err.refused
    (record { shown = e.shown; counts = e.counts; told = e.told; any_moment = e.any_moment; unwritten = e.unwritten }) refl
    c.unopened-status.ensures.disk c.faults-before.ensures c.unopened-status.ensures.over)
