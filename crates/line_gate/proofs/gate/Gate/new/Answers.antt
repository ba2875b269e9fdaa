use Rattle.std.proofs.Common.{sym, subst}
use Rattle.line_gate.specs.Blanks.{Names}
use Rattle.line_gate.proofs.Carried.{first_seated, first_locked, pass_from}
use Rattle.line_gate.proofs.gate.Gate.new.Goals as goal

pub invariant_of-new : goal.invariant_of-new
invariant_of-new g c =
    let t = g.N.GateName.terms in
    first_locked _ t _ _ _ c.blank.inside.book.me _ _ _ (subst (Names _ t) (sym c.blank.view_is) c.requires) c.blank.invariant

pub invariant_of-pass : goal.invariant_of-pass
invariant_of-pass g c =
    let t = g.N.GateName.terms in
    first_seated _ t _ _ _ _ c.blank.inside.first.me _ _ (subst (Names _ t) (sym c.blank.view_is) c.requires) c.blank.invariant

pub returns-clause-pass : goal.returns-clause-pass
returns-clause-pass g c =
    let t = g.N.GateName.terms in
    pass_from t 1 _ _
    (first_seated _ t _ _ _ _ c.blank.inside.first.me _ _ (subst (Names _ t) (sym c.blank.view_is) c.requires) c.blank.invariant)
