-- An act that fits is recorded of the incident that is held.
use Rattle.std.proofs.Common.{List, refl, ap, ◌∙◌}
use Rattle.arc_data.specs.declared.incident.Incident.{Incident}
use Rattle.centre_rules.specs.History.{acted_by}
use Rattle.centre_rules.specs.Marks.{Acts}
use Rattle.open_incidents.proofs.ActRoom.{fits_few, fits_held, room_acts}
use Rattle.open_incidents.proofs.Bounds.{few_same}
use Rattle.open_incidents.proofs.Pointwise.{acts_map}
use Rattle.open_incidents.proofs.marks.act.Goals as goal

pub act-requires : goal.act-requires
act-requires c = fits_few c.args.number _ c.args.table.now.incidents c.requires.room c.requires.fits

pub returns-clause-marked : goal.returns-clause-marked
returns-clause-marked c =
    let t = c.args.table.now in
    let a = acted_by c.args.operator c.args.step c.args.outcome c.args.at in
    c.act.ensures.acted ∙ ap (λ (is : List Incident). record t { incidents = is }) (acts_map c.args.number a t.incidents t.opened c.act.ensures.ascends (fits_held c.args.number a t.incidents c.requires.fits))

pub returns-clause-few : goal.returns-clause-few
returns-clause-few c n w =
    let a = acted_by c.args.operator c.args.step c.args.outcome c.args.at in
    rw (returns-clause-marked c) (few_same (Acts c.args.number a) n c.args.table.now.opened c.args.table.now.incidents (λ i. refl) w)

pub returns-clause-room : goal.returns-clause-room
returns-clause-room c =
    let t = c.args.table.now in
    let a = acted_by c.args.operator c.args.step c.args.outcome c.args.at in
    rw (returns-clause-marked c) (room_acts c.args.number a t.incidents t.opened c.act.ensures.ascends c.requires.fits c.requires.room)
