-- One incident more from the back, or none where none is open; there are no more than sixteen.
use Rattle.std.proofs.Common.{◌≡◌, ◌-◌, drop, Some, None, sym, ap, ◌∙◌, arith}
use Rattle.std.specs.Option.{option_map}
use Rattle.centre_rules.specs.Standing.{standing_of}
use Rattle.incidents.specs.Slots.{standing, open_of}
use Rattle.open_incidents.proofs.ListingLemmas.{row_more, row_less, few_rows, listed_all}
use Rattle.open_incidents.proofs.listing.list.Goals as goal

pub loop-k-preserved-in-Continue-1 : goal.loop-k-preserved-in-Continue-1
loop-k-preserved-in-Continue-1 c =
    let here : standing c.index-slots-k.result ≡ Some c.in-Some.i.now = sym c.incident.ensures ∙ ap (option_map (λ i. i.now)) c.in-Some.is in
    row_more c.args.lapse c.args.at (c.loop-k.k - 1) c.loop-k.k c.slots-slots.result.now c.index-slots-k.result c.in-Some.i.now c.row.result c.loop-k.first.items c.put.new.first.items (omega arith) (omega arith) c.index-slots-k.is here c.row.ensures
    c.loop-k.invariant c.in_ok-put.ensures

pub loop-k-preserved : goal.loop-k-preserved
loop-k-preserved c =
    let none : standing c.index-slots-k.result ≡ None = sym c.incident.ensures ∙ ap (option_map (λ i. i.now)) c.in_default.is in
    row_less c.args.lapse c.args.at (c.loop-k.k - 1) c.loop-k.k c.slots-slots.result.now c.index-slots-k.result c.loop-k.first.items (omega arith) (omega arith) c.index-slots-k.is none c.loop-k.invariant

pub of-requires : goal.of-requires
of-requires c = few_rows (standing_of c.args.lapse c.args.at (open_of (drop c.loop-k.k c.slots-slots.result.now))) c.loop-k.first.items c.loop-k.invariant

pub returns : goal.returns
returns c =
    listed_all c.args.lapse c.args.at c.loop-k.k c.slots-slots.result.now c.args.table.now.incidents c.loop-k.first.items c.of.result (omega arith) c.slots-slots.ensures.value c.loop-k.invariant
    (c.of.ensures ∙ ap (λ n. record { total = n; rows = c.loop-k.first.items }) c.count.ensures)
