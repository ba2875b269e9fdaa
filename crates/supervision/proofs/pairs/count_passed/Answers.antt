use Rattle.std.proofs.Common.{sym, ap, ◌∙◌}
use Rattle.std.specs.Ordering.{is_lt}
use Rattle.supervision.proofs.Passed.{counted_more, counted_stop}
use Rattle.supervision.proofs.pairs.count_passed.Goals as goal

pub returns-then-not-is_lt-clause-passed : goal.returns-then-not-is_lt-clause-passed
returns-then-not-is_lt-clause-passed g c =
    let l = c.loop-place in
    counted_stop c.args.at c.args.sorted.now.pairs l.place c.args.steps.now l.steps c.at.result l.invariant c.at.ensures.pair c.at.ensures.ordered
    (sym (ap is_lt c.order.ensures.order) ∙ sym c.is_lt.ensures ∙ c.if-not-is_lt.true)

pub loop-place-preserved : goal.loop-place-preserved
loop-place-preserved g c =
    let l = c.loop-place in
    counted_more c.args.at c.args.sorted.now.pairs l.place c.args.steps.now l.steps c.order.new.steps c.at.result l.invariant c.at.ensures.pair
    (sym (ap is_lt c.order.ensures.order) ∙ sym c.is_lt.ensures ∙ c.if-not-is_lt.false) c.order.ensures.step
