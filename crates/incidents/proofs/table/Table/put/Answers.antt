-- The number is above all others, and no incident of the account and class is open.
use Rattle.std.proofs.Common.{◌≡◌, ◌<◌, ◌≤◌, length, None}
use Rattle.std.specs.List.{find}
use Rattle.arc_data.specs.Incidents.{is_of, Each}
use Rattle.incidents.proofs.Kept.{put_kept}
use Rattle.incidents.proofs.table.Table.put.Goals as goal

pub invariant_of-self : goal.invariant_of-self
invariant_of-self c =
    let is = c.self.inside.slots.incidents in
    let room : length is < c.self.inside.room = rw (← c.self.view_is) at c.requires.room in
    let above : Each (λ i. i.number < c.args.incident.number) is = rw (← c.self.view_is) at c.requires.above in
    let le : c.args.incident.number ≤ c.self.inside.opened = rw (← c.self.view_is) at c.requires.opened in
    let none : find (is_of c.args.incident.account c.args.incident.class) is ≡ None = rw (← c.self.view_is) at c.requires.none in
    rw c.push.ensures.incidents
    (put_kept c.self.inside.opened c.self.inside.room _ _ c.self.inside.index _ is c.args.incident c.push.ensures.room c.self.invariant c.requires.positive above le none room c.put.ensures.tells c.put.ensures.spare)
