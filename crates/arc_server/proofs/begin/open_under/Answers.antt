use Rattle.std.proofs.Common.{inl, inr, refl}
use Rattle.arc_server.proofs.Begun.{if_ok, if_err, shut}
use Rattle.arc_server.proofs.begin.open_under.Goals as goal

pub returns-in-Ok-clause-begun : goal.returns-in-Ok-clause-begun
returns-in-Ok-clause-begun g c =
    let o = c.in-Ok.ensures.opened in
    if_ok c.begin_over.result
    (λ store begun q q' read.
    begun (record { setup = q; port = g.P.Ends.seen c.args.port.now; disk = c.args.disk }) q' o.base o.past refl c.faults-before.ensures read
    (record { version = o.version; bodies = o.bodies; given = o.given; is_past = o.is_past; area = o.area }) o.stands)
    c.begin_over.ensures.begun

pub returns-in-Ok-clause-stopped : goal.returns-in-Ok-clause-stopped
returns-in-Ok-clause-stopped g c =
    let o = c.in-Ok.ensures.opened in
    if_err c.begin_over.result
    (λ stopped shows q q' read.
    inr (inr (shows (record { setup = q; port = g.P.Ends.seen c.args.port.now; disk = c.args.disk }) q' o.base o.past refl c.faults-before.ensures read
    (record { version = o.version; bodies = o.bodies; given = o.given; is_past = o.is_past; area = o.area }) o.stands)))
    c.begin_over.ensures.stopped

pub returns-in-Err-clause-stopped : goal.returns-in-Err-clause-stopped
returns-in-Err-clause-stopped g c q q' read =
    let e = c.in-Err.ensures in
    inr (inl (
      record { text = c.args.setup; read = read; is = c.requires.setting },
      shut c.faults-before.result c.in-Err.refused
          (record { shown = e.shown; counts = e.counts; told = e.told; any_moment = e.any_moment; unwritten = e.unwritten }) refl
          c.unopened.ensures.disk c.faults-before.ensures c.unopened.ensures.over,
    ))
