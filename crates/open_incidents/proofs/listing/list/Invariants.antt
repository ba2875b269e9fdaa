-- The first rows of the incidents that are open from k on.
use Rattle.std.proofs.Common.{◌≡◌, drop}
use Rattle.centre_rules.specs.Standing.{standing_of}
use Rattle.incidents.specs.Slots.{open_of}
use Rattle.open_incidents.proofs.ListingLemmas.{first_rows}
use Rattle.open_incidents.proofs.listing.list.Given as goal

abbrev pub invariant-loop-k : goal.invariant-loop-k
invariant-loop-k l = l.first.items ≡ first_rows (standing_of l.lapse l.at (open_of (drop l.k l.slots)))
