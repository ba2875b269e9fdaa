use Rattle.std.proofs.Common.{◌≤◌, ◌<◌, length, arith}
use Rattle.centre_store.proofs.OpeningLoop.{gate_fits, at_first, at_next, all_done, bad_at}
use Rattle.centre_store.proofs.open.replay.Goals as goal

pub loop-i-init : goal.loop-i-init
loop-i-init c = at_first c.args.version c.args.bodies.now c.args.from c.args.at c.args.centre c.requires.within c.requires.place

pub overflow_add-at-in-Ok-true : goal.overflow_add-at-in-Ok-true
overflow_add-at-in-Ok-true c =
    let below : c.loop-i.i < length c.args.bodies.now = omega arith in
    omega (arith, gate_fits c.args.bodies.now c.loop-i.i c.loop-i.at c.at-body.result.now below c.at-body.ensures c.loop-i.invariant.gate, c.requires.fits)

pub returns-in-Ok-false-clause-broken : goal.returns-in-Ok-false-clause-broken
returns-in-Ok-false-clause-broken c base first stands few firsts =
    let below : c.loop-i.i < length c.args.bodies.now = omega arith in
    bad_at c.args.version c.args.bodies.now c.args.from c.loop-i.i c.loop-i.at c.at-body.result.now c.args.centre c.loop-i.centre base first below c.at-body.ensures
    c.loop-i.invariant stands few firsts (c.in-Ok-false.ensures.broken c.in-Ok-false.field-0-test base)

pub loop-i-preserved : goal.loop-i-preserved
loop-i-preserved c =
    let below : c.loop-i.i < length c.args.bodies.now = omega arith in
    at_next c.args.version c.args.bodies.now c.args.from c.loop-i.i c.loop-i.at c.at-body.result.now c.args.centre c.loop-i.centre c.take_in.new.centre below
    c.at-body.ensures c.loop-i.invariant (c.in-Ok-true.ensures.taken c.in-Ok-true.field-0-test)

pub returns-clause-replayed : goal.returns-clause-replayed
returns-clause-replayed c base stands few =
    let all : length c.args.bodies.now ≤ c.loop-i.i = omega arith in
    all_done c.args.version c.args.bodies.now c.args.from c.loop-i.i c.loop-i.at c.args.centre c.loop-i.centre all c.loop-i.invariant base stands few
