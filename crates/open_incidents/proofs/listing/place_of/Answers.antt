-- The place that the search told, or the end.
use Rattle.std.proofs.Common.{sym, ◌∙◌}
use Rattle.open_incidents.proofs.ListingLemmas.{place_told, place_last}
use Rattle.open_incidents.proofs.listing.place_of.Goals as goal

pub returns-in-Some-clause-place : goal.returns-in-Some-clause-place
returns-in-Some-clause-place c = place_told c.args.row.now c.args.rows.now c.in-Some.place (sym c.first_after.ensures ∙ c.in-Some.is)

pub returns-in-None-clause-place : goal.returns-in-None-clause-place
returns-in-None-clause-place c = place_last c.args.row.now c.args.rows.now (sym c.first_after.ensures ∙ c.in-None.is)
