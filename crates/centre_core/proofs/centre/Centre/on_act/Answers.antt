use Rattle.std.proofs.Common.{List, ap, ◌∙◌}
use Rattle.arc_data.specs.declared.incident.Incident.{Incident}
use Rattle.centre_rules.specs.Desks.{on_act}
use Rattle.centre_rules.specs.Standing.{standing_of}
use Rattle.centre_core.specs.contracts.centre.Centre.{the_view}
use Rattle.centre_core.proofs.Ordered.{answer_of, of_table}
use Rattle.centre_core.proofs.centre.Centre.on_act.Goals as goal

pub returns : goal.returns
returns c =
    let at = c.args.acted.at in
    let of = λ (is : List Incident). on_act c.args.acted c.args.number (standing_of c.lapse.result at is) in
    c.if_known.ensures
    ∙ answer_of c.args.self.now.sum c.args.acted.operator c.knows_operator.result c.act-reply.result (on_act c.args.acted c.args.number) at c.lapse.result
    c.knows_operator.ensures c.lapse.ensures
    (of_table (the_view c.self.inside) c.args.self.now c.act-reply.result of c.self.view_is (c.act-reply.ensures ∙ ap of c.table.ensures.incidents))
