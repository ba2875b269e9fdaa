use Rattle.std.proofs.Common.{◌≡◌, ◌+◌, ℕ, sym, ap, ◌∙◌, subst, arith, rules}
use Rattle.std.specs.Prelude.{Bool, cond}
use Rattle.line_gate.specs.Passes.{IsPass}
use Rattle.arc_serving.proofs.SoFar.{none_yet, so_far_more, next_served, works_quota, works_ended, works_faulted, works_stopped}
use Rattle.arc_serving.proofs.working.worker.Goals.{then-is_refused, else-is_refused}
use Rattle.arc_serving.proofs.working.worker.Goals as goal
use Rattle.arc_serving.specs.Works.{Works, is_refused}

pub loop-count-init : goal.loop-count-init
loop-count-init g c =
    let pass : IsPass g.N.GateName.terms c.args.pass = search rules in
    none_yet c.args.side g.N.GateName.terms c.args.pass _ c.args.sessions pass

pub returns-clause-works : goal.returns-clause-works
returns-clause-works g c =
    let w = c.loop-count.invariant in
    subst (Works c.args.side g.N.GateName.terms c.args.pass c.loop-count.pass (g.A.Door.seen c.args.door.now) (g.A.Door.seen c.loop-count.door) c.args.sessions) (sym c.outcome-2.ensures)
    (works_quota c.args.side g.N.GateName.terms c.args.pass c.loop-count.pass _ _ c.loop-count.count c.loop-count.refused c.args.sessions w
    (let m = w.done.most in let f = c.loop-count-test.false in omega arith))

pub returns-in_default-clause-works : goal.returns-in_default-clause-works
returns-in_default-clause-works g c =
    subst (Works c.args.side g.N.GateName.terms c.args.pass c.serve_next-next.result.0 (g.A.Door.seen c.args.door.now) (g.A.Door.seen c.serve_next-next.new.door) c.args.sessions) (sym c.outcome.ensures)
    (works_faulted c.args.side g.N.GateName.terms c.args.pass c.loop-count.pass c.serve_next-next.result.0 _ (g.A.Door.seen c.loop-count.door) _ c.loop-count.count c.loop-count.refused c.args.sessions
    c.faults-before.result c.faults-now.result c.serve_next-next.result.1 c.in_default.field-0 c.loop-count.invariant c.serve_next-next.ensures.next c.in_default.is c.loop-count-test.true
    c.faults-before.ensures c.faults-now.ensures)

pub returns-in_default-served-clause-works : goal.returns-in_default-served-clause-works
returns-in_default-served-clause-works g c =
    subst (Works c.args.side g.N.GateName.terms c.args.pass c.serve_next-next.result.0 (g.A.Door.seen c.args.door.now) (g.A.Door.seen c.serve_next-next.new.door) c.args.sessions)
    (sym c.outcome-in_default-served.ensures)
    (works_ended c.args.side g.N.GateName.terms c.args.pass c.loop-count.pass c.serve_next-next.result.0 _ (g.A.Door.seen c.loop-count.door) _ c.loop-count.count c.loop-count.refused c.args.sessions
    c.serve_next-next.result.1 c.in-Ok.served c.loop-count.invariant c.serve_next-next.ensures.next c.in-Ok.is c.in_default-served.is c.loop-count-test.true)

pub returns-in-Some-stop_of-clause-works : goal.returns-in-Some-stop_of-clause-works
returns-in-Some-stop_of-clause-works g c =
    let one = next_served c.args.side g.N.GateName.terms c.loop-count.pass c.serve_next-next.result.0 (g.A.Door.seen c.loop-count.door) (g.A.Door.seen c.serve_next-next.new.door) c.serve_next-next.result.1
    c.in-Ok.served c.in-Some.end c.serve_next-next.ensures.next c.in-Ok.is c.in-Some.is in
    let is : c.if-is_refused.refused ≡ c.loop-count.refused + cond (is_refused c.in-Some.end) 1 0 =
    elim c.if-is_refused.branch [
      | then-is_refused b ↦ b.refused-is ∙ ap (λ (x : Bool). c.loop-count.refused + cond x 1 0) (sym b.if-is_refused.true ∙ c.is_refused.ensures)
      | else-is_refused b ↦ omega (arith, b.refused-is, ap {B = ℕ} (λ (x : Bool). cond x 1 0) (sym b.if-is_refused.false ∙ c.is_refused.ensures))
    ] in
    subst (Works c.args.side g.N.GateName.terms c.args.pass c.serve_next-next.result.0 (g.A.Door.seen c.args.door.now) (g.A.Door.seen c.serve_next-next.new.door) c.args.sessions)
    (sym c.outcome-in-Some-stop_of.ensures)
    (works_stopped c.args.side g.N.GateName.terms c.args.pass c.loop-count.pass c.serve_next-next.result.0 _ (g.A.Door.seen c.loop-count.door) _ c.loop-count.count c.loop-count.refused _ c.args.sessions
    c.in-Some.end c.in-Some-stop_of.stop c.loop-count.invariant one c.loop-count-test.true is (sym c.stop_of.ensures ∙ c.in-Some-stop_of.is))

pub loop-count-preserved : goal.loop-count-preserved
loop-count-preserved g c =
    let one = next_served c.args.side g.N.GateName.terms c.loop-count.pass c.serve_next-next.result.0 (g.A.Door.seen c.loop-count.door) (g.A.Door.seen c.serve_next-next.new.door) c.serve_next-next.result.1
    c.in-Ok.served c.in-Some.end c.serve_next-next.ensures.next c.in-Ok.is c.in-Some.is in
    let is : c.if-is_refused.refused ≡ c.loop-count.refused + cond (is_refused c.in-Some.end) 1 0 =
    elim c.if-is_refused.branch [
      | then-is_refused b ↦ b.refused-is ∙ ap (λ (x : Bool). c.loop-count.refused + cond x 1 0) (sym b.if-is_refused.true ∙ c.is_refused.ensures)
      | else-is_refused b ↦ omega (arith, b.refused-is, ap {B = ℕ} (λ (x : Bool). cond x 1 0) (sym b.if-is_refused.false ∙ c.is_refused.ensures))
    ] in
    so_far_more c.args.side g.N.GateName.terms c.args.pass c.loop-count.pass c.serve_next-next.result.0 _ (g.A.Door.seen c.loop-count.door) _ c.loop-count.count c.loop-count.refused _ c.args.sessions
    c.in-Some.end c.loop-count.invariant one c.loop-count-test.true is (sym c.stop_of.ensures ∙ c.in_default-stop_of.is)
