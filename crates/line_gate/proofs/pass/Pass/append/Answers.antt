use Rattle.std.proofs.Common.{List, ◌++◌, sym, ◌∙◌, subst}
use Rattle.line_gate.specs.Entries.{Entry, AreBy}
use Rattle.line_gate.specs.Terms.{IsOfGate}
use Rattle.line_gate.specs.Passes.{PassSeen, IsSeated}
use Rattle.line_gate.proofs.Carried.{grown_seated, pass_from}
use Rattle.line_gate.proofs.pass.Pass.append.Given.{Over}
use Rattle.line_gate.proofs.pass.Pass.append.Goals as goal

seated : (g : Over) (c : goal.After-append g) → IsSeated g.N.GateName.terms c.self.inside.number c.append.new.pass.table_id c.append.new.pass.me
seated g c =
    let t = g.N.GateName.terms in
    let es : List Entry = g.E.Following.entries in
    let a = c.append.ensures in
    let k = c.take.ensures.pass in
    grown_seated t c.self.inside.number es _ _ _ c.take.new.pass.me c.self.inside.seat.me c.args.named.me.0 k.1 a.1 (a.0 ∙ k.0)
    (subst (λ (p : PassSeen). AreBy p.number es) (sym c.self.view_is) c.requires.by)
    (subst (λ (p : PassSeen). IsOfGate t (es ++ p.since)) (sym c.self.view_is) c.requires.of_gate)
    c.self.invariant

pub invariant_of-self : goal.invariant_of-self
invariant_of-self g c = seated g c

pub returns-clause-pass : goal.returns-clause-pass
returns-clause-pass g c = pass_from g.N.GateName.terms c.self.inside.number _ c.append.new.pass.me (seated g c)
