use Rattle.std.proofs.Common.{◌≡◌, ◌≤◌, ap, sym, ◌∙◌, subst, rules}
use Rattle.line_gate.specs.Passes.{PassSeen, IsPass}
use Rattle.arc_serving.proofs.AtGates.{goes_alone, serves_left}
use Rattle.arc_serving.proofs.link.serve_at_gate.Goals as goal

-- the session's clause is that of the gate as a hall; the pass that it leaves is the hall's
pub returns-clause-served : goal.returns-clause-served
returns-clause-served g c =
    let t = g.N.GateName.terms in
    let began : IsPass t c.args.pass = search rules in
    let one = c.serve-end.ensures.serves in
    let left : c.leave-pass.result ≡ c.serve-end.new.hall.pass = c.leave-pass.ensures in record {
      read = one.0;
      reads = one.1;
      serves = serves_left c.args.side t c.args.pass c.leave-pass.result c.serve-end.new.hall.pass one.0 _ _ c.tcp-name.result c.serve-end.result began left
          c.tcp-name.ensures (λ b h w. goes_alone t.groups c.args.side c.tcp-name.result c.serve-end.result one.0 b h _ _ _ _ c.requires.single (one.2 b h w));
      number = ap (λ (k : PassSeen). k.number) left ∙ c.serve-end.ensures.kept.caller;
      count = subst (λ (k : PassSeen). c.args.pass.count ≤ k.count) (sym left) c.serve-end.ensures.kept.count;
      told = subst (λ (k : PassSeen). c.args.pass.told ≤ k.told) (sym left) c.serve-end.ensures.kept.told;
      pass = search rules;
    }
