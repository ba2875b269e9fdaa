use Rattle.std.proofs.Common.{◌-◌}
use Rattle.arc_serving.proofs.SoFar.{SoFar}
use Rattle.arc_serving.proofs.working.worker.Given as goal

abbrev pub invariant-loop-count : goal.invariant-loop-count
invariant-loop-count g l = SoFar l.side g.N.GateName.terms l.initial.pass l.pass (g.A.Door.seen l.initial.door) (g.A.Door.seen l.door) l.count l.refused l.sessions

abbrev pub decreases-loop-count : goal.decreases-loop-count
decreases-loop-count g l = l.sessions - l.count
