-- What each arm makes of the table is what the mark does; the bounds follow from that.
use Rattle.std.proofs.Common.{◌<◌, ◌≤◌, sym, ◌∙◌, arith}
use Rattle.arc_data.specs.Classes.{priority_of}
use Rattle.open_incidents.proofs.Carrying.{attach_carries, restore_carries, restore_none, low_none, raise_carries, raised_table, others_carry, few_after, room_after, few_at}
use Rattle.open_incidents.proofs.marks.carry.Goals as goal

pub attach-requires : goal.attach-requires
attach-requires c = few_at c.in-Some.number c.args.table.now.incidents c.requires.signals

pub returns-in-Some-clause-marked : goal.returns-in-Some-clause-marked
returns-in-Some-clause-marked c =
    c.attach.ensures.attached
    ∙ attach_carries c.args.x.now c.args.table.now c.in-Some.number c.attach.ensures.ascends c.attach.ensures.single c.in-New.is (sym c.find.ensures ∙ c.in-Some.is)

pub returns-in-Some-clause-few : goal.returns-in-Some-clause-few
returns-in-Some-clause-few c = few_after c.args.x.now c.args.table.now c.attach.new.self (returns-in-Some-clause-marked c)

pub returns-in-Some-clause-room : goal.returns-in-Some-clause-room
returns-in-Some-clause-room c = room_after c.args.x.now c.args.table.now c.attach.new.self (returns-in-Some-clause-marked c) (omega arith)

pub returns-then-priority-gt0-clause-marked : goal.returns-then-priority-gt0-clause-marked
returns-then-priority-gt0-clause-marked c =
    let high : 0 < priority_of c.args.x.now.signal.class = omega (arith, c.priority.ensures) in
    raised_table c.args.table.now c.raise.new.self _ c.raise.ensures.opened (rw c.copy-steps.ensures at c.raise.ensures.incidents) c.raise.ensures.room
    ∙ raise_carries c.args.x.now c.args.table.now c.in-New.is high (sym c.find.ensures ∙ c.in-None.is)

pub returns-then-priority-gt0-clause-few : goal.returns-then-priority-gt0-clause-few
returns-then-priority-gt0-clause-few c = few_after c.args.x.now c.args.table.now c.raise.new.self (returns-then-priority-gt0-clause-marked c)

pub returns-then-priority-gt0-clause-room : goal.returns-then-priority-gt0-clause-room
returns-then-priority-gt0-clause-room c = room_after c.args.x.now c.args.table.now c.raise.new.self (returns-then-priority-gt0-clause-marked c) (omega arith)

pub returns-else-priority-gt0-clause-marked : goal.returns-else-priority-gt0-clause-marked
returns-else-priority-gt0-clause-marked c =
    let low : priority_of c.args.x.now.signal.class ≤ 0 = omega (arith, c.priority.ensures) in
    low_none c.args.x.now c.args.table.now low (sym c.find.ensures ∙ c.in-None.is)

pub returns-else-priority-gt0-clause-few : goal.returns-else-priority-gt0-clause-few
returns-else-priority-gt0-clause-few c = few_after c.args.x.now c.args.table.now c.args.table.now (returns-else-priority-gt0-clause-marked c)

pub returns-in-Some-find-clause-marked : goal.returns-in-Some-find-clause-marked
returns-in-Some-find-clause-marked c =
    c.mark_restored.ensures.restored
    ∙ restore_carries c.args.x.now c.args.table.now c.in-Some-find.number c.mark_restored.ensures.ascends c.mark_restored.ensures.single c.in-Restore.is (sym c.find-in-Restore.ensures ∙ c.in-Some-find.is)

pub returns-in-Some-find-clause-few : goal.returns-in-Some-find-clause-few
returns-in-Some-find-clause-few c = few_after c.args.x.now c.args.table.now c.mark_restored.new.self (returns-in-Some-find-clause-marked c)

pub returns-in-Some-find-clause-room : goal.returns-in-Some-find-clause-room
returns-in-Some-find-clause-room c = room_after c.args.x.now c.args.table.now c.mark_restored.new.self (returns-in-Some-find-clause-marked c) (omega arith)

pub returns-in_default-clause-marked : goal.returns-in_default-clause-marked
returns-in_default-clause-marked c = restore_none c.args.x.now c.args.table.now c.in-Restore.is (sym c.find-in-Restore.ensures ∙ c.in_default.is)

pub returns-in_default-clause-few : goal.returns-in_default-clause-few
returns-in_default-clause-few c = few_after c.args.x.now c.args.table.now c.args.table.now (returns-in_default-clause-marked c)

pub returns-in-Opening-clause-marked : goal.returns-in-Opening-clause-marked
returns-in-Opening-clause-marked c = others_carry c.args.x.now c.args.table.now c.in-Opening.is

pub returns-in-Opening-clause-few : goal.returns-in-Opening-clause-few
returns-in-Opening-clause-few c = few_after c.args.x.now c.args.table.now c.args.table.now (returns-in-Opening-clause-marked c)
