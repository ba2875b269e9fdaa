-- The next of those that are claimed is held by the operator, or is passed.
use Rattle.std.proofs.Common.{refl, sym, ap, ◌∙◌, length, arith}
use Rattle.std.proofs.lemmas.List.{length-map}
use Rattle.std.specs.Option.{option_map}
use Rattle.open_incidents.proofs.FindHeld.{next, none_first, this, passed, none_left, is_there, holders}
use Rattle.open_incidents.proofs.held.find_held.Goals as goal
use Rattle.open_incidents.proofs.held.find_held.Goals.{in-Some+else-holds, in_default}

pub loop-number-init : goal.loop-number-init
loop-number-init c = none_first c.args.lapse c.args.at c.args.operator.now c.args.table.now.incidents

pub returns-then-holds : goal.returns-then-holds
returns-then-holds c =
    let t = c.args.table.now in
    let k = c.loop-number.number-index in
    let one = next t.incidents t.opened k _ c.args.numbers.now c.slots-slots.ensures.ascends c.requires c.loop-number-test.true refl in
    this c.args.lapse c.args.at c.args.operator.now t.incidents k _ c.in-Some.i.now one c.loop-number.invariant
    (sym c.get.ensures ∙ ap (option_map (λ i. i.now)) c.in-Some.is) c.if-holds.ensures

pub loop-number-preserved : goal.loop-number-preserved
loop-number-preserved c =
    let t = c.args.table.now in
    let k = c.loop-number.number-index in
    let one = next t.incidents t.opened k _ c.args.numbers.now c.slots-slots.ensures.ascends c.requires c.loop-number-test.true refl in
    elim c.match-get.branch [
      | in-Some+else-holds w ↦
          passed c.args.lapse c.args.at c.args.operator.now t.incidents k _ w.in-Some.i.now one c.loop-number.invariant
          (sym c.get.ensures ∙ ap (option_map (λ i. i.now)) w.in-Some.is) w.if-holds.ensures
      | in_default w ↦ absurd (is_there t.incidents k _ one (sym c.get.ensures ∙ ap (option_map (λ i. i.now)) w.in_default.is))
    ]

pub returns : goal.returns
returns c =
    let is = c.args.table.now.incidents in
    none_left c.args.lapse c.args.at c.args.operator.now is c.loop-number.number-index c.loop-number.invariant
    (omega (arith, c.loop-number-test.false, ap length c.requires, length-map (holders is) (λ i. i.number)))
