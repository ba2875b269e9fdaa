use Rattle.std.proofs.Common.{sym}
use Rattle.std.proofs.lemmas.List.{take_rest}
use Rattle.sia_codes.proofs.Steps.{not_empty, reading-start, reading-found, reading-full}
use Rattle.sia_codes.proofs.reading.signals_of.Goals as goal

pub loop-rest-init : goal.loop-rest-init
loop-rest-init c = rw c.new-signals.ensures (reading-start c.args.items.now c.after_slash-rest.result.now c.after_slash-rest.ensures.value c.after_slash-rest.ensures.within)

pub returns-then-not-put : goal.returns-then-not-put
returns-then-not-put c =
    let some = not_empty c.loop-rest.rest.now c.is_empty.result c.is_empty.ensures c.loop-rest-test.true in
    sym (reading-full c.args.items.now c.loop-rest.signals c.loop-rest.rest.now c.in_ok-signal.field-0 c.loop-rest.invariant some c.in_ok-signal.ensures.value c.if-not-put.ensures.full.0 c.if-not-put.ensures.full.1)

pub loop-rest-preserved : goal.loop-rest-preserved
loop-rest-preserved c =
    let some = not_empty c.loop-rest.rest.now c.is_empty.result c.is_empty.ensures c.loop-rest-test.true in
    let kept = c.in_ok-signal.ensures in
    let put = c.if-not-put.ensures in
    let next = c.after_slash-rest-in-loop-rest.ensures in
    reading-found c.args.items.now c.loop-rest.signals c.put.new.signals c.loop-rest.rest.now _ c.after_slash-rest-in-loop-rest.result.now c.in_ok-signal.field-0 c.loop-rest.invariant some kept.value kept.some_bytes put.last put.within (take_rest c.loop-rest.rest.now c.in_ok-signal.field-0.length) next.value next.within
