use Rattle.std.proofs.Common.{◌≡◌, drop}
use Rattle.std.specs.List.{flat_map}
use Rattle.arc_server.specs.Servings.{front_of, door_fault_in}
use Rattle.arc_server.proofs.came.door_fault_of.Given as goal

-- what is left decides
abbrev pub invariant-loop-worked : goal.invariant-loop-worked
invariant-loop-worked l = front_of (flat_map (λ w. door_fault_in l.door w.end) (drop l.worked-index l.came)) ≡ front_of (flat_map (λ w. door_fault_in l.door w.end) l.came)
