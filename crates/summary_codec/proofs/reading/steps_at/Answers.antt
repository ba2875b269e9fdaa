-- One step after another.
use Rattle.std.proofs.Common.{◌≡◌, ◌<◌, ◌+◌, ◌∷◌, ◌++◌, [], None, List, Bool, cond, length, length-append, ap, ◌∙◌, sym, subst, arith}
use Rattle.arc_data.specs.declared.step.Step.{Step}
use Rattle.event_codec.specs.Reading.{coded_at, step_of}
use Rattle.summary_codec.proofs.Times.{GoesOn, goes_more, goes_none, goes_end, few_is}
use Rattle.summary_codec.proofs.reading.steps_at.Goals as goal

pub returns-in_default : goal.returns-in_default
returns-in_default c =
    let w = c.loop.invariant in
    few_is (coded_at step_of) 10 c.in_ok-count.count c.args.bytes.now c.in_ok-count.rest.now None c.in_ok-count.ensures (omega arith)
    (goes_none (coded_at step_of) c.in_ok-count.count c.loop.counter c.in_ok-count.rest.now c.loop.steps c.loop.rest.now w.read c.in_default.ensures c.loop-test.true)

pub loop-preserved : goal.loop-preserved
loop-preserved c =
    let w = c.loop.invariant in
    let old = c.loop.steps in
    let x = c.in-Some.step in
    let few : length old < 10 = omega arith in
    let put : c.push.new.self ≡ old ++ x ∷ [] = c.push.ensures.pushed ∙ ap (λ (b : Bool). cond b (old ++ x ∷ []) old) (c.push.ensures.room.1 few) in
    record {
      count = omega arith;
      long = ap length put ∙ length-append old (x ∷ []) ∙ omega arith;
      read = subst (λ (l : List Step). GoesOn (coded_at step_of) c.in_ok-count.count (c.loop.counter + 1) c.in_ok-count.rest.now l c.in-Some.behind.now) (sym put)
          (goes_more (coded_at step_of) c.in_ok-count.count c.loop.counter c.in_ok-count.rest.now old x c.loop.rest.now c.in-Some.behind.now w.read c.in-Some.ensures);
    }

pub returns : goal.returns
returns c =
    let w = c.loop.invariant in
    few_is (coded_at step_of) 10 c.in_ok-count.count c.args.bytes.now c.in_ok-count.rest.now _ c.in_ok-count.ensures (omega arith)
    (goes_end (coded_at step_of) c.in_ok-count.count c.loop.counter c.in_ok-count.rest.now c.loop.steps c.loop.rest.now w.read w.count c.loop-test.false)
