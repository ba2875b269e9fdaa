use Rattle.std.proofs.Common.{inl, inr, refl}
use Rattle.arc_server.proofs.serving.run_serve.Goals as goal

pub returns-in-Ok-clause-ran : goal.returns-in-Ok-clause-ran
returns-in-Ok-clause-ran g c =
    let begun = c.in-Ok.ensures.begun in
    inr (c.serve_begun.ensures.served
    (record { setup = g.S.Ends.seen c.args.source.now; port = g.P.Ends.seen c.args.port.now; disk = c.args.disk })
    (g.S.Ends.seen c.begin_run.new.source) c.faults-before.ensures begun.0 begun.1)

pub returns-in-Err-clause-ran : goal.returns-in-Err-clause-ran
returns-in-Err-clause-ran g c = inl (c.in-Err.ensures.stopped, refl)
