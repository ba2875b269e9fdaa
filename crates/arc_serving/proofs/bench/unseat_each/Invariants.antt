use Rattle.std.proofs.Common.{◌≤◌, ◌+◌, map, vec_len, vec_capacity}
use Rattle.line_gate.specs.Passes.{IsPass, IsLater}
use Rattle.arc_serving.proofs.Seats.{SoFar}
use Rattle.arc_serving.proofs.bench.unseat_each.Given as goal

-- the last jobs are done with, and there is room for the others
abbrev pub invariant-loop-jobs : goal.invariant-loop-jobs
invariant-loop-jobs g l = record {
  so_far : SoFar l.first l.fn.jobs.items l.jobs.items (map (λ d. g.A.Door.seen d) l.fn.doors.items) (map (λ d. g.A.Door.seen d) l.doors.items) l.came.items;
  pass : IsPass g.N.GateName.terms l.first;
  later : IsLater l.fn.first l.first;
  places : vec_len l.doors + vec_len l.jobs ≤ vec_capacity l.doors;
  room : vec_len l.came + vec_len l.jobs ≤ vec_capacity l.came;
}

abbrev pub decreases-loop-jobs : goal.decreases-loop-jobs
decreases-loop-jobs g l = goal.left-loop-jobs g l
