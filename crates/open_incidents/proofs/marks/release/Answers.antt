-- The incident of the number is held by nobody, and no other changes.
use Rattle.std.proofs.Common.{List, refl, ap, ◌∙◌}
use Rattle.arc_data.specs.declared.incident.Incident.{Incident}
use Rattle.centre_rules.specs.Marks.{Releases}
use Rattle.open_incidents.proofs.ActRoom.{room_same}
use Rattle.open_incidents.proofs.Bounds.{few_same}
use Rattle.open_incidents.proofs.Pointwise.{releases_map}
use Rattle.open_incidents.proofs.marks.release.Goals as goal

pub returns-clause-marked : goal.returns-clause-marked
returns-clause-marked c =
    let t = c.args.table.now in
    c.hold.ensures.held ∙ ap (λ (is : List Incident). record t { incidents = is }) (releases_map c.args.number t.incidents)

pub returns-clause-few : goal.returns-clause-few
returns-clause-few c n w = rw (returns-clause-marked c) (few_same (Releases c.args.number) n c.args.table.now.opened c.args.table.now.incidents (λ i. refl) w)

pub returns-clause-room : goal.returns-clause-room
returns-clause-room c r = rw (returns-clause-marked c) (room_same (Releases c.args.number) c.args.table.now.incidents (λ i. refl) r)

pub returns-clause-was : goal.returns-clause-was
returns-clause-was c = record { opened = c.args.table.now.opened; ascends = c.hold.ensures.ascends; found = c.hold.ensures.former }
