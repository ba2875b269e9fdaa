-- The row stands in its place, and the first 16 are kept.
use Rattle.std.proofs.Common.{List, ℕ, take, ap, ◌∙◌}
use Rattle.std.specs.List.{insert, position_or_len}
use Rattle.arc_data.specs.declared.listing.Row.{Row}
use Rattle.open_incidents.specs.Listings.{comes_before}
use Rattle.open_incidents.proofs.ListingLemmas.{placed}
use Rattle.open_incidents.proofs.listing.put.Goals as goal

pub returns : goal.returns
returns c =
    c.truncate.ensures.items
    ∙ ap (λ (rows : List Row). take 16 rows)
    (c.in-Ok.ensures.items ∙ ap (λ (n : ℕ). insert c.args.first.now.items n c.args.row) (c.place_of-place.ensures.place ∙ ap (position_or_len (comes_before c.args.row)) c.deref.ensures.value)
    ∙ placed c.args.row c.args.first.now.items)
