use Rattle.std.proofs.Common.{inl, inr, refl}
use Rattle.arc_server.proofs.Begun.{shut}
use Rattle.arc_server.proofs.Fed.{opens_quiet}
use Rattle.arc_server.proofs.feed.run_feed.Goals as goal

pub returns-in-Ok-clause-ran : goal.returns-in-Ok-clause-ran
returns-in-Ok-clause-ran g c q =
    let e = c.in-Ok.ensures in
    let o = e.opened in
    inr (c.feed_from.ensures.fed q c.args.disk o.base o.past c.faults-before.ensures o.stands o.held
    (record { version = o.version; bodies = o.bodies; given = o.given; is_past = o.is_past; area = o.area }) (record { area = e.told; images = e.any_moment })
    (opens_quiet (g.D.Disk.seen c.args.disk) (g.D.Disk.seen c.in-Ok.store.journal.disk) (g.D.Disk.seen c.args.disk).told e.long) e.limits)

pub returns-in-Err-clause-ran : goal.returns-in-Err-clause-ran
returns-in-Err-clause-ran g c q =
    let e = c.in-Err.ensures in
    inl (shut c.faults-before.result c.in-Err.refused
    (record { shown = e.shown; counts = e.counts; told = e.told; any_moment = e.any_moment; unwritten = e.unwritten }) refl
    c.unopened-status.ensures.disk c.faults-before.ensures c.unopened-status.ensures.over)
