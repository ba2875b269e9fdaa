-- One incident is changed, at the place of its number.
use Rattle.std.proofs.Common.{Some, refl, sym, ap, ◌∙◌}
use Rattle.std.specs.List.{find}
use Rattle.std.specs.Option.{option_map}
use Rattle.arc_data.specs.Incidents.{has_number}
use Rattle.incidents.specs.Slots.{SlotsValue}
use Rattle.incidents.specs.Tables.{held, former_of}
use Rattle.incidents.proofs.Places.{find_free}
use Rattle.incidents.proofs.Opened.{there, found_there, changed_are, changed_value, free_now, same_value}
use Rattle.incidents.proofs.slots.Slots.hold.Goals as goal

pub invariant_of-self : goal.invariant_of-self
invariant_of-self c =
    let slots = c.self.inside.slots.items in
    let x = c.index_mut.result.now in
    let w = there c.args.number slots c.deref.result.now c.in-Some.place x c.place_of.result c.deref.ensures.value c.place_of.ensures c.in-Some.is c.index_mut.ensures.value in
    rw c.touched-touched.ensures (changed_are c.args.number c.self.inside.count c.self.inside.highest (held c.args.holder c.args.at) slots c.in-Some.place x c.self.invariant w refl)

pub returns-in-Some-clause-held : goal.returns-in-Some-clause-held
returns-in-Some-clause-held c =
    let slots = c.self.inside.slots.items in
    let x = c.index_mut.result.now in
    let w = there c.args.number slots c.deref.result.now c.in-Some.place x c.place_of.result c.deref.ensures.value c.place_of.ensures c.in-Some.is c.index_mut.ensures.value in
    rw c.touched-touched.ensures (changed_value c.args.number c.self.inside.count c.self.inside.highest _ (held c.args.holder c.args.at) slots c.args.self.now c.in-Some.place x c.self.view_is c.self.invariant w)

pub returns-in-Some-clause-former : goal.returns-in-Some-clause-former
returns-in-Some-clause-former c =
    let slots = c.self.inside.slots.items in
    let x = c.index_mut.result.now in
    let w = there c.args.number slots c.deref.result.now c.in-Some.place x c.place_of.result c.deref.ensures.value c.place_of.ensures c.in-Some.is c.index_mut.ensures.value in
    let found = sym (found_there c.args.number slots c.in-Some.place x w) ∙ ap (λ (t : SlotsValue). find (has_number c.args.number) t.incidents) c.self.view_is in
    ap Some c.of-former.ensures ∙ ap (option_map former_of) found

pub returns-in-None-clause-held : goal.returns-in-None-clause-held
returns-in-None-clause-held c =
    same_value c.args.number (held c.args.holder c.args.at) c.args.self.now (free_now c.args.number c.self.inside.slots.items c.deref.result.now _ c.args.self.now c.self.view_is c.deref.ensures.value (sym c.place_of.ensures ∙ c.in-None.is))

pub returns-in-None-clause-former : goal.returns-in-None-clause-former
returns-in-None-clause-former c =
    ap (option_map former_of) (sym (find_free c.args.number c.args.self.now.incidents (free_now c.args.number c.self.inside.slots.items c.deref.result.now _ c.args.self.now c.self.view_is c.deref.ensures.value (sym c.place_of.ensures ∙ c.in-None.is))))
