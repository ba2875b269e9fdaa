-- So many pairs were looked at, and are passed.
use Rattle.supervision.proofs.Passed.{Counted}
use Rattle.supervision.proofs.pairs.count_passed.Given as goal

abbrev pub invariant-loop-place : goal.invariant-loop-place
invariant-loop-place g l = Counted l.at l.sorted.pairs l.place l.fn.steps l.steps
