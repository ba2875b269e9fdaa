-- The slice is the whole list.
use Rattle.incidents.specs.Slots.{released}
use Rattle.incidents.proofs.Opened.{whole, released_are, released_value}
use Rattle.incidents.proofs.slots.Slots.release_all.Goals as goal

pub invariant_of-self : goal.invariant_of-self
invariant_of-self c =
    let slots = c.self.inside.slots.items in
    let w = whole released c.deref_mut.result.now slots c.release.new.slots c.self.inside.slots.len c.deref_mut.ensures.value c.deref_mut.ensures.len c.release.ensures in
    rw w (released_are c.self.inside.count c.self.inside.highest slots c.self.invariant)

pub returns : goal.returns
returns c =
    let slots = c.self.inside.slots.items in
    let w = whole released c.deref_mut.result.now slots c.release.new.slots c.self.inside.slots.len c.deref_mut.ensures.value c.deref_mut.ensures.len c.release.ensures in
    rw w (released_value slots _ c.args.self.now c.self.view_is)
