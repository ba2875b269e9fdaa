use Rattle.std.proofs.Common.{sym, ◌∙◌, rules}
use Rattle.std.proofs.lemmas.Bool.{true≢false}
use Rattle.line_gate.specs.Passes.{IsPass}
use Rattle.arc_serving.proofs.Moments.{no_ticks, answered, missed, tick_stopped}
use Rattle.arc_serving.proofs.ticking.ticker.Goals as goal

pub loop-init : goal.loop-init
loop-init g c =
    let pass : IsPass g.N.GateName.terms c.args.pass = search rules in
    no_ticks g.N.GateName.terms c.args.pass _ pass

pub loop-preserved : goal.loop-preserved
loop-preserved g c = answered g.N.GateName.terms c.args.pass c.loop.pass c.tick_at.new.pass _ _ _ c.loop.refused c.in-Some-next.moment c.loop.invariant c.in-Some-next.ensures.told c.in_default-tick_at.ensures.ticks

pub loop-preserved-in-Some-tick_at : goal.loop-preserved-in-Some-tick_at
loop-preserved-in-Some-tick_at g c = missed g.N.GateName.terms c.args.pass c.loop.pass c.tick_at.new.pass _ _ _ c.loop.refused _ c.in-Some-next.moment
    c.in-Some-tick_at.stop c.loop.invariant c.in-Some-next.ensures.told c.in-Some-tick_at.ensures.ticks c.saturating_add-refused.ensures

pub returns-then-not-is_memory-clause-works : goal.returns-then-not-is_memory-clause-works
returns-then-not-is_memory-clause-works g c = tick_stopped g.N.GateName.terms c.args.pass c.loop.pass c.tick_at.new.pass _ _ _ c.loop.refused c.in-Some-next.moment
    c.in-Some-tick_at.stop (λ is. true≢false (sym (c.is_memory.ensures.1 is) ∙ c.if-not-is_memory.true)) c.loop.invariant c.in-Some-next.ensures.told c.in-Some-tick_at.ensures.ticks
