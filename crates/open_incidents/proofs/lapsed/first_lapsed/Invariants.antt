-- The least of those that have lapsed is that of the first found and those that are left.
use Rattle.std.specs.Option.{option_map}
use Rattle.open_incidents.proofs.LapsedHolds.{Seen}
use Rattle.open_incidents.proofs.lapsed.first_lapsed.Given as goal

abbrev pub invariant-loop-number : goal.invariant-loop-number
invariant-loop-number l = Seen l.lapse l.at l.table.incidents (option_map (λ i. i.now) l.first) l.number-index
