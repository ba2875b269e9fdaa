use Rattle.std.proofs.Common.{◌≡◌, drop}
use Rattle.std.specs.List.{flat_map}
use Rattle.arc_server.specs.Servings.{front_of, full_in, stop_in}
use Rattle.arc_server.proofs.came.full_of_workers.Given as goal

-- what is left decides
abbrev pub invariant-loop-worked : goal.invariant-loop-worked
invariant-loop-worked l = front_of (flat_map (λ w. flat_map full_in (stop_in w.end)) (drop l.worked-index l.came)) ≡ front_of (flat_map (λ w. flat_map full_in (stop_in w.end)) l.came)
