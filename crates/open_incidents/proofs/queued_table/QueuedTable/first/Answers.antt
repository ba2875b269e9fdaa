-- The more urgent of the first of the queue and the first of those whose hold has lapsed.
use Rattle.std.proofs.Common.{◌∙◌, ap, sym, subst}
use Rattle.std.specs.Option.{option_map}
use Rattle.arc_data.specs.Incidents.{Ascends}
use Rattle.incidents.specs.Tables.{TableValue}
use Rattle.centre_rules.specs.Desks.{least}
use Rattle.centre_rules.specs.Standing.{stands_at}
use Rattle.open_incidents.specs.Lapses.{earlier, lapsed}
use Rattle.open_incidents.proofs.LapsedHolds.{map_twice, best_stood}
use Rattle.open_incidents.proofs.queued_table.QueuedTable.first.Goals as goal

pub returns : goal.returns
returns c =
    let lapse = c.args.lapse in
    let at = c.args.at in
    let t = c.args.self.now in
    let past = c.first_lapsed-lapsed.ensures ∙ ap (λ (y : TableValue). least (lapsed lapse at y.incidents)) c.self.view_is in
    let both = c.earlier.ensures ∙ (λ i. earlier (c.first_queued.ensures i) (past i)) in
    map_twice (stands_at lapse at) (λ i. i.now) c.earlier.result ∙ ap (option_map (stands_at lapse at)) both
    ∙ sym (best_stood lapse at t.incidents t.opened (subst (λ (y : TableValue). Ascends 0 y.incidents y.opened) c.self.view_is c.slots-slots.ensures.ascends))
