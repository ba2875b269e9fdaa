use Rattle.std.proofs.Common.{inl, inr, refl}
use Rattle.arc_server.proofs.script.run_scripted.Goals as goal

pub returns-in-Ok-clause-ran : goal.returns-in-Ok-clause-ran
returns-in-Ok-clause-ran g c =
    inr (c.script_under.ensures.ran (g.S.Ends.seen c.args.source.now) (g.S.Ends.seen c.read_setup.new.source) c.in-Ok.ensures.read.0)

pub returns-in-Err-clause-ran : goal.returns-in-Err-clause-ran
returns-in-Err-clause-ran g c = inl (c.in-Err.ensures.refused, refl, refl)
