-- None of those that were looked at is that of the operator.
use Rattle.open_incidents.proofs.FindHeld.{Passed}
use Rattle.open_incidents.proofs.held.find_held.Given as goal

abbrev pub invariant-loop-number : goal.invariant-loop-number
invariant-loop-number l = Passed l.lapse l.at l.operator l.table.incidents l.number-index
