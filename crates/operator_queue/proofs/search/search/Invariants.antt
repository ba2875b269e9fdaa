-- What is left to look at is narrowed.
use Rattle.std.proofs.Common.{◌-◌}
use Rattle.operator_queue.proofs.Halves.{Narrowed}
use Rattle.operator_queue.proofs.search.search.Given as goal

abbrev pub invariant-loop-low : goal.invariant-loop-low
invariant-loop-low g l = Narrowed l.pair l.pairs.items l.low l.high l.fn.steps l.steps

abbrev pub decreases-loop-low : goal.decreases-loop-low
decreases-loop-low g l = l.high - l.low
