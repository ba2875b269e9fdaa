use Rattle.std.proofs.Common.{length, sym, ap, ◌∙◌, ℕ, subst}
use Rattle.arc_text.specs.Comparisons.{TakesFew, order_of}
use Rattle.operator_queue.proofs.Halves.{Narrowed, looked_at, on_less, on_equal, on_greater, last_step}
use Rattle.operator_queue.proofs.search.search.Goals as goal

pub loop-low-preserved-in-Less : goal.loop-low-preserved-in-Less
loop-low-preserved-in-Less g c =
    let l = c.loop-low in
    let here = looked_at c.args.pair c.args.pairs.now.items l.low l.high c.args.steps.now l.steps c.index.result.now l.invariant c.loop-low-test.true
    c.index.ensures in
    subst (Narrowed c.args.pair c.args.pairs.now.items _ l.high c.args.steps.now) (sym c.order.ensures.step)
    (on_less c.args.pair c.args.pairs.now.items l.low l.high c.args.steps.now l.steps l.invariant c.requires c.loop-low-test.true
    (ap (λ (p : ℕ × ℕ). order_of p c.args.pair) here ∙ sym c.order.ensures.order ∙ c.in-Less.is))

pub returns-in-Equal-clause-found : goal.returns-in-Equal-clause-found
returns-in-Equal-clause-found g c =
    let l = c.loop-low in
    let here = looked_at c.args.pair c.args.pairs.now.items l.low l.high c.args.steps.now l.steps c.index.result.now l.invariant c.loop-low-test.true
    c.index.ensures in
    on_equal c.args.pair c.args.pairs.now.items l.low l.high c.args.steps.now l.steps l.invariant c.loop-low-test.true
    (ap (λ (p : ℕ × ℕ). order_of p c.args.pair) here ∙ sym c.order.ensures.order ∙ c.in-Equal.is)

pub returns-in-Equal-clause-cost : goal.returns-in-Equal-clause-cost
returns-in-Equal-clause-cost g c =
    let l = c.loop-low in
    subst (TakesFew (length c.args.pairs.now.items) c.args.steps.now) (sym c.order.ensures.step)
    (last_step c.args.pair c.args.pairs.now.items l.low l.high c.args.steps.now l.steps l.invariant c.loop-low-test.true)

pub loop-low-preserved : goal.loop-low-preserved
loop-low-preserved g c =
    let l = c.loop-low in
    let here = looked_at c.args.pair c.args.pairs.now.items l.low l.high c.args.steps.now l.steps c.index.result.now l.invariant c.loop-low-test.true
    c.index.ensures in
    subst (Narrowed c.args.pair c.args.pairs.now.items l.low _ c.args.steps.now) (sym c.order.ensures.step)
    (on_greater c.args.pair c.args.pairs.now.items l.low l.high c.args.steps.now l.steps l.invariant c.requires c.loop-low-test.true
    (ap (λ (p : ℕ × ℕ). order_of p c.args.pair) here ∙ sym c.order.ensures.order ∙ c.in-Greater.is))
