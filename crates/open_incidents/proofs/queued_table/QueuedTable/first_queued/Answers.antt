-- The first pair is that of the best of those that nobody claimed; or there is none.
use Rattle.std.proofs.Common.{◌∙◌, ap, sym}
use Rattle.incidents.specs.Tables.{TableValue}
use Rattle.centre_rules.specs.Desks.{best}
use Rattle.open_incidents.proofs.First.{first_best, none_best}
use Rattle.open_incidents.proofs.queued_table.QueuedTable.first_queued.Goals as goal

pub returns-in-Some : goal.returns-in-Some
returns-in-Some c =
    let t = c.self.inside.table in
    c.get.ensures
    ∙ first_best t.incidents t.opened c.self.inside.queue.pairs c.in-Some.first c.slots-slots.ensures.ascends c.self.invariant.queue_of.same
    c.in-Some.ensures.least.0 c.in-Some.ensures.least.1
    ∙ ap (λ (y : TableValue). best y.incidents) c.self.view_is

pub returns-in-None : goal.returns-in-None
returns-in-None c =
    let t = c.self.inside.table in
    sym (none_best t.incidents c.self.inside.queue.pairs c.self.invariant.queue_of.same c.in-None.ensures.least)
    ∙ ap (λ (y : TableValue). best y.incidents) c.self.view_is
