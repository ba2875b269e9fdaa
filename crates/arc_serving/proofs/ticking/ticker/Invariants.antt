use Rattle.arc_serving.proofs.Moments.{TickedSoFar}
use Rattle.arc_serving.proofs.ticking.ticker.Given as goal

abbrev pub invariant-loop : goal.invariant-loop
invariant-loop g l = TickedSoFar g.N.GateName.terms l.initial.pass l.pass (g.T.Pulse.moments l.initial.pulse) (g.T.Pulse.moments l.pulse) l.refused
