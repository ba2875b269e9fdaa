-- What stands at the place of a number is the incident of that number.
use Rattle.std.proofs.Common.{sym, ap, ◌∙◌}
use Rattle.std.specs.List.{find}
use Rattle.arc_data.specs.Incidents.{has_number}
use Rattle.incidents.specs.Slots.{SlotsValue}
use Rattle.incidents.proofs.Opened.{there, found_there, free_now}
use Rattle.incidents.proofs.Places.{find_free}
use Rattle.incidents.proofs.slots.Slots.get.Goals as goal

pub returns-in-Some : goal.returns-in-Some
returns-in-Some c =
    let slots = c.self.inside.slots.items in
    let x = c.index.result.now in
    let w = there c.args.number slots c.deref.result.now c.in-Some.place x c.place_of.result c.deref.ensures.value c.place_of.ensures c.in-Some.is c.index.ensures in
    sym (found_there c.args.number slots c.in-Some.place x w) ∙ ap (λ (t : SlotsValue). find (has_number c.args.number) t.incidents) c.self.view_is

pub returns-in-None : goal.returns-in-None
returns-in-None c =
    sym (find_free c.args.number c.args.self.now.incidents (free_now c.args.number c.self.inside.slots.items c.deref.result.now _ c.args.self.now c.self.view_is c.deref.ensures.value (sym c.place_of.ensures ∙ c.in-None.is)))
