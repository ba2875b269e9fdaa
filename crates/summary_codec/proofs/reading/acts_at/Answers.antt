-- One act after another.
use Rattle.std.proofs.Common.{◌≡◌, ◌<◌, ◌+◌, ◌∷◌, ◌++◌, [], None, List, Bool, cond, length, length-append, ap, ◌∙◌, sym, subst, arith}
use Rattle.arc_data.specs.declared.step.Acted.{Acted}
use Rattle.summary_codec.specs.Reading.{acted_at}
use Rattle.summary_codec.proofs.Times.{GoesOn, goes_more, goes_none, goes_end, few_is}
use Rattle.summary_codec.proofs.reading.acts_at.Goals as goal

pub returns-in_default : goal.returns-in_default
returns-in_default c =
    let w = c.loop.invariant in
    few_is acted_at 10 c.in_ok-count.count c.args.bytes.now c.in_ok-count.rest.now None c.in_ok-count.ensures (omega arith)
    (goes_none acted_at c.in_ok-count.count c.loop.counter c.in_ok-count.rest.now c.loop.acts c.loop.rest.now w.read c.in_default.ensures c.loop-test.true)

pub loop-preserved : goal.loop-preserved
loop-preserved c =
    let w = c.loop.invariant in
    let old = c.loop.acts in
    let x = c.in-Some.acted in
    let few : length old < 10 = omega arith in
    let put : c.push.new.self ≡ old ++ x ∷ [] = c.push.ensures.pushed ∙ ap (λ (b : Bool). cond b (old ++ x ∷ []) old) (c.push.ensures.room.1 few) in
    record {
      count = omega arith;
      long = ap length put ∙ length-append old (x ∷ []) ∙ omega arith;
      read = subst (λ (l : List Acted). GoesOn acted_at c.in_ok-count.count (c.loop.counter + 1) c.in_ok-count.rest.now l c.in-Some.behind.now) (sym put)
          (goes_more acted_at c.in_ok-count.count c.loop.counter c.in_ok-count.rest.now old x c.loop.rest.now c.in-Some.behind.now w.read c.in-Some.ensures);
    }

pub returns : goal.returns
returns c =
    let w = c.loop.invariant in
    few_is acted_at 10 c.in_ok-count.count c.args.bytes.now c.in_ok-count.rest.now _ c.in_ok-count.ensures (omega arith)
    (goes_end acted_at c.in_ok-count.count c.loop.counter c.in_ok-count.rest.now c.loop.acts c.loop.rest.now w.read w.count c.loop-test.false)
