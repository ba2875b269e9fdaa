-- A word that is not there has room, and the words with it stay a plan.
use Rattle.std.proofs.Common.{◌++◌, ◌∷◌, [], List, sym, ap, ◌∙◌}
use Rattle.arc_data.specs.declared.plan.Planned.{Planned}
use Rattle.action_plans.proofs.Distinct.{room_left, grown, longer}
use Rattle.action_plans.proofs.plan.Plan.add.Goals as goal

pub bounds-self-inside-self-inside : goal.bounds-self-inside-self-inside
bounds-self-inside-self-inside c = room_left c.self.inside.len c.self.inside.words c.args.word c.self.invariant (sym c.has.ensures ∙ c.if-has.false)

pub invariant_of-self : goal.invariant_of-self
invariant_of-self c =
    let p : Planned = record { word = c.args.word; closed = c.args.closed } in
    grown c.self.inside.len c.self.inside.words p c.self.invariant (sym c.has.ensures ∙ c.if-has.false)

pub returns-clause-added : goal.returns-clause-added
returns-clause-added c =
    let p : Planned = record { word = c.args.word; closed = c.args.closed } in
    longer c.self.inside.len c.self.inside.words p c.self.invariant (sym c.has.ensures ∙ c.if-has.false) ∙ ap (λ (ps : List Planned). ps ++ p ∷ []) c.self.view_is
