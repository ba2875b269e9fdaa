-- The next number is above all others, and no incident of the account and class is open.
use Rattle.std.proofs.Common.{◌≡◌, ◌<◌, length, refl, None}
use Rattle.std.specs.List.{find}
use Rattle.arc_data.specs.Incidents.{is_of}
use Rattle.incidents.proofs.Kept.{more_kept}
use Rattle.incidents.proofs.Numbers.{ascends_within}
use Rattle.incidents.proofs.table.Table.raise.Goals as goal

pub push-requires-clause-above : goal.push-requires-clause-above
push-requires-clause-above c = ascends_within 0 c.self.inside.slots.incidents c.self.inside.opened c.self.invariant.table.ascends

pub invariant_of-self : goal.invariant_of-self
invariant_of-self c =
    let is = c.self.inside.slots.incidents in
    let room : length is < c.self.inside.room = rw (← c.self.view_is) at c.requires.room in
    let none : find (is_of c.args.account c.args.class) is ≡ None = rw (← c.self.view_is) at c.requires.none in
    rw c.push.ensures.incidents (more_kept c.self.inside.opened c.self.inside.room _ _ c.self.inside.index _ is _ c.push.ensures.room c.self.invariant refl none room c.put.ensures.tells c.put.ensures.spare)
