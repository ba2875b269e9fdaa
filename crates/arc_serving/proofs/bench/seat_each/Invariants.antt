use Rattle.std.proofs.Common.{◌≡◌, ◌≤◌, ◌+◌, ◌-◌, map, reverse, vec_len, vec_capacity}
use Rattle.arc_serving.proofs.Seats.{SeatingSoFar}
use Rattle.arc_serving.proofs.bench.seat_each.Given as goal

-- the doors so far are seated; none was lost, and there is room for the rest
abbrev pub invariant-loop-first : goal.invariant-loop-first
invariant-loop-first g l = record {
  so_far : SeatingSoFar g.N.GateName.terms (reverse (map (λ d. g.A.Door.seen d) l.fn.doors.items)) (map (λ d. g.A.Door.seen d) l.doors.items) l.jobs.items l.fn.first l.first;
  few : vec_len l.jobs ≤ l.count;
  places : vec_len l.doors + vec_len l.jobs ≡ vec_len l.fn.doors;
  doors_room : vec_capacity l.doors ≡ vec_capacity l.fn.doors;
  jobs_room : l.count ≤ vec_capacity l.jobs;
  enough : l.count ≤ vec_len l.fn.doors;
}

abbrev pub decreases-loop-first : goal.decreases-loop-first
decreases-loop-first g l = l.count - vec_len l.jobs
