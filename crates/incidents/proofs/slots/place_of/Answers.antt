-- A search by halves finds the place of a number, since numbers rise.
use Rattle.std.proofs.Common.{rules, sym, ap, ◌∙◌, arith}
use Rattle.incidents.specs.Slots.{has_open}
use Rattle.incidents.proofs.Rising.{splits, cut_past, cut_here, cut_apart}
use Rattle.incidents.proofs.slots.place_of.Goals as goal

pub first_from-place-requires : goal.first_from-place-requires
first_from-place-requires c = splits c.args.number 0 c.args.slots.now c.requires.0 c.requires.1

pub returns-then-place-slots : goal.returns-then-place-slots
returns-then-place-slots c = sym (cut_past c.args.number c.args.slots.now c.first_from-place.result c.first_from-place.ensures.cut (omega (arith, c.if-place-slots.true)))

pub returns-then-has_open : goal.returns-then-has_open
returns-then-has_open c =
    sym (cut_here c.args.number c.args.slots.now c.first_from-place.result c.index-slots-place.result c.first_from-place.ensures.cut (search rules) (sym (c.if-has_open.ensures ∙ ap (has_open c.args.number) c.index-slots-place.is)))

pub returns-else-has_open : goal.returns-else-has_open
returns-else-has_open c =
    sym (cut_apart 0 c.args.number c.args.slots.now c.requires.0 c.first_from-place.result c.index-slots-place.result c.requires.1 c.first_from-place.ensures.cut (search rules) (sym (c.if-has_open.ensures ∙ ap (has_open c.args.number) c.index-slots-place.is)))
