-- The incident of the number is taken out.
use Rattle.std.proofs.Common.{ap, ◌∙◌}
use Rattle.incidents.specs.Tables.{TableValue}
use Rattle.open_incidents.proofs.ActRoom.{room_closes}
use Rattle.open_incidents.proofs.Bounds.{few_closes}
use Rattle.open_incidents.proofs.Pointwise.{closes_map}
use Rattle.open_incidents.proofs.marks.close.Goals as goal

pub returns-clause-opened : goal.returns-clause-opened
returns-clause-opened c = ap (λ (t : TableValue). t.opened) c.remove.ensures.removed

pub returns-clause-incidents : goal.returns-clause-incidents
returns-clause-incidents c = ap (λ (t : TableValue). t.incidents) c.remove.ensures.removed ∙ closes_map c.args.number c.args.table.now.incidents

pub returns-clause-few : goal.returns-clause-few
returns-clause-few c n w = rw (returns-clause-opened c, returns-clause-incidents c) (few_closes c.args.number n c.args.table.now.opened c.args.table.now.incidents w)

pub returns-clause-room : goal.returns-clause-room
returns-clause-room c r = rw (returns-clause-incidents c) (room_closes c.args.number c.args.table.now.opened c.args.table.now.incidents r)

pub returns-clause-was : goal.returns-clause-was
returns-clause-was c = record { opened = c.args.table.now.opened; ascends = c.remove.ensures.ascends; found = c.remove.ensures.former }
