-- It is the holder of the incident as it stands, over the state and over each history that it stands for.
use Rattle.std.proofs.Common.{[], sym, ap, ◌∙◌}
use Rattle.std.specs.List.{find}
use Rattle.std.specs.Option.{option_map}
use Rattle.arc_data.specs.Incidents.{has_number}
use Rattle.centre_rules.specs.State.{State}
use Rattle.centre_rules.specs.History.{marks}
use Rattle.centre_core.proofs.Ordered.{holder_is, holder_same}
use Rattle.centre_core.proofs.centre.Centre.holder_at.Goals as goal

pub returns-clause-kept : goal.returns-clause-kept
returns-clause-kept c =
    let found =
    ap (λ (s : State). find (has_number c.args.number) s.sum.incidents) (sym c.self.view_is)
    ∙ sym (c.get.ensures ∙ ap (find (has_number c.args.number)) c.table.ensures.incidents) ∙ ap (option_map (λ i. i.now)) c.in-Some.is in
    holder_is c.args.self.now.sum c.args.number c.args.at c.lapse.result c.in-Some.i.now c.holder_at.result c.lapse.ensures found c.holder_at.ensures

pub returns-clause-holder : goal.returns-clause-holder
returns-clause-holder c b h w = returns-clause-kept c ∙ holder_same c.args.self.now.sum b [] (marks b h) c.args.number c.args.at w.same
