use Rattle.std.proofs.Common.{List, ap, ◌∙◌}
use Rattle.arc_data.specs.declared.incident.Incident.{Incident}
use Rattle.centre_rules.specs.Desks.{on_close}
use Rattle.centre_rules.specs.Standing.{standing_of}
use Rattle.centre_core.specs.contracts.centre.Centre.{the_view}
use Rattle.centre_core.proofs.Ordered.{answer_of, of_table}
use Rattle.centre_core.proofs.centre.Centre.on_close.Goals as goal

pub returns : goal.returns
returns c = λ code.
    let of = λ (is : List Incident). on_close c.args.operator.now c.args.number (standing_of c.lapse.result c.args.at is) in
    c.if_known.ensures
    ∙ answer_of c.args.self.now.sum c.args.operator.now c.knows_operator.result c.close-reply.result (on_close c.args.operator.now c.args.number) c.args.at c.lapse.result
    c.knows_operator.ensures c.lapse.ensures
    (of_table (the_view c.self.inside) c.args.self.now c.close-reply.result of c.self.view_is (c.close-reply.ensures ∙ ap of c.table.ensures.incidents))
