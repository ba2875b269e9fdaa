-- One incident is changed, at the place of its number.
use Rattle.std.proofs.Common.{◌<◌, length, refl, sym, ◌∙◌}
use Rattle.arc_data.specs.declared.step.Acted.{Acted}
use Rattle.incidents.specs.Tables.{acted}
use Rattle.incidents.proofs.Opened.{there, found_there, pushed_one, changed_are, changed_value, free_now, same_value}
use Rattle.incidents.proofs.slots.Slots.act.Goals as goal

pub invariant_of-self : goal.invariant_of-self
invariant_of-self c =
    let slots = c.self.inside.slots.items in
    let x = c.index_mut.result.now in
    let w = there c.args.number slots c.deref.result.now c.in-Some.place x c.place_of.result c.deref.ensures.value c.place_of.ensures c.in-Some.is c.index_mut.ensures.value in
    let act : Acted = record { step = c.args.step; outcome = c.args.outcome; at = c.args.at; operator = c.args.operator } in
    let few : length x.incident.acts < 10 = rw (← c.self.view_is, found_there c.args.number slots c.in-Some.place x w) at c.requires in
    let e = pushed_one c.push.result x.incident.acts c.push.new.self act c.push.ensures.room c.push.ensures.pushed few in
    rw e (changed_are c.args.number c.self.inside.count c.self.inside.highest (acted act) slots c.in-Some.place x c.self.invariant w refl)

pub returns-in-Some : goal.returns-in-Some
returns-in-Some c =
    let slots = c.self.inside.slots.items in
    let x = c.index_mut.result.now in
    let w = there c.args.number slots c.deref.result.now c.in-Some.place x c.place_of.result c.deref.ensures.value c.place_of.ensures c.in-Some.is c.index_mut.ensures.value in
    let act : Acted = record { step = c.args.step; outcome = c.args.outcome; at = c.args.at; operator = c.args.operator } in
    let few : length x.incident.acts < 10 = rw (← c.self.view_is, found_there c.args.number slots c.in-Some.place x w) at c.requires in
    let e = pushed_one c.push.result x.incident.acts c.push.new.self act c.push.ensures.room c.push.ensures.pushed few in
    rw e (changed_value c.args.number c.self.inside.count c.self.inside.highest _ (acted act) slots c.args.self.now c.in-Some.place x c.self.view_is c.self.invariant w)

pub returns-in_default : goal.returns-in_default
returns-in_default c =
    same_value c.args.number (acted (record { step = c.args.step; outcome = c.args.outcome; at = c.args.at; operator = c.args.operator })) c.args.self.now (free_now c.args.number c.self.inside.slots.items c.deref.result.now _ c.args.self.now c.self.view_is c.deref.ensures.value (sym c.place_of.ensures ∙ c.in_default.is))
