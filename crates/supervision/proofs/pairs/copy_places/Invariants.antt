-- So far the list is that of the places of the pairs copied.
use Rattle.std.proofs.Common.{◌≡◌, map, take}
use Rattle.supervision.proofs.pairs.copy_places.Given as goal

abbrev pub invariant-loop-place : goal.invariant-loop-place
invariant-loop-place l = l.out.items ≡ map (λ p. p.1) (take l.place l.sorted.pairs)
