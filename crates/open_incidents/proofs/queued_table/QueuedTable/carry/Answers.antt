-- An incident more was opened, and put into the queue; or none was.
use Rattle.std.proofs.Common.{◌<◌, ◌≤◌, ◌∷◌, length, ℕ, ap, subst, arith}
use Rattle.std.specs.List.Sorted.{IsPermutation}
use Rattle.incidents.specs.Tables.{TableValue}
use Rattle.open_incidents.proofs.Parts.{few_wait}
use Rattle.open_incidents.proofs.HeldMarks.{held_carried}
use Rattle.open_incidents.proofs.QueuedMarks.{carried_new, carried_old, long_carried, long_kept, few_seen}
use Rattle.open_incidents.proofs.queued_table.QueuedTable.carry.Goals as goal
use Rattle.std.proofs.lemmas.List.Sorted.{length_permutation}
use Rattle.open_incidents.specs.Waiting.{waiting}

pub insert-requires : goal.insert-requires
insert-requires c =
    omega (
      arith,
      few_wait c.self.inside.table.incidents,
      length_permutation (waiting c.self.inside.table.incidents) c.self.inside.queue.pairs c.self.invariant.queue_of.same,
      c.requires.room,
      ap (λ (y : TableValue). length y.incidents) c.self.view_is,
      ap (λ (y : TableValue). y.room) c.self.view_is,
    )

pub invariant_of-self : goal.invariant_of-self
invariant_of-self c =
    let t = c.self.inside.table in
    let u = c.carry.new.table in
    let x = c.args.x.now in
    let rose : t.opened < u.opened = omega (arith, c.if-opened.true, c.opened-opened.ensures, c.opened.ensures) in
    record {
      queue_of = record {
        same = carried_new x t u c.self.inside.queue.pairs c.insert.new.queue.pairs c.carry.ensures.marked rose c.self.invariant.queue_of.same
            (subst (λ (n : ℕ). IsPermutation ((n, u.opened) ∷ c.self.inside.queue.pairs) c.insert.new.queue.pairs) c.priority.ensures
            (subst (λ (n : ℕ). IsPermutation ((c.priority.result, n) ∷ c.self.inside.queue.pairs) c.insert.new.queue.pairs)
            c.opened-then-opened.ensures c.insert.ensures.pairs));
        memory = omega (
          arith,
          long_carried x t u c.carry.ensures.marked,
          c.insert.ensures.room,
          c.requires.room,
          ap (λ (y : TableValue). length y.incidents) c.self.view_is,
          ap (λ (y : TableValue). y.room) c.self.view_is,
        );
      };
      held_of = record {
        numbers = held_carried x t.opened t.incidents u.incidents c.self.inside.held.numbers (ap (λ (y : TableValue). y.incidents) c.carry.ensures.marked)
            c.self.invariant.held_of.numbers;
        memory = omega (
          arith,
          long_carried x t u c.carry.ensures.marked,
          c.requires.room,
          ap (λ (y : TableValue). length y.incidents) c.self.view_is,
          ap (λ (y : TableValue). y.room) c.self.view_is,
        );
      };
    }

pub invariant_of-self-else-opened : goal.invariant_of-self-else-opened
invariant_of-self-else-opened c =
    let t = c.self.inside.table in
    let u = c.carry.new.table in
    let stayed : u.opened ≤ t.opened = omega (arith, c.if-opened.false, c.opened-opened.ensures, c.opened.ensures) in
    record {
      queue_of = record {
        same = carried_old c.args.x.now t u c.self.inside.queue.pairs c.carry.ensures.marked stayed c.self.invariant.queue_of.same;
        memory = omega (arith, long_kept c.args.x.now t u c.carry.ensures.marked stayed, c.self.invariant.queue_of.memory);
      };
      held_of = record {
        numbers = held_carried c.args.x.now t.opened t.incidents u.incidents c.self.inside.held.numbers
            (ap (λ (y : TableValue). y.incidents) c.carry.ensures.marked) c.self.invariant.held_of.numbers;
        memory = omega (arith, long_kept c.args.x.now t u c.carry.ensures.marked stayed, c.self.invariant.held_of.memory);
      };
    }

pub returns-then-opened-clause-few : goal.returns-then-opened-clause-few
returns-then-opened-clause-few c n few =
    c.carry.ensures.few n (few_seen c.self.inside.table c.args.self.now c.self.inside.queue c.self.inside.held n c.self.view_is few)

pub returns-else-opened-clause-few : goal.returns-else-opened-clause-few
returns-else-opened-clause-few c n few =
    c.carry.ensures.few n (few_seen c.self.inside.table c.args.self.now c.self.inside.queue c.self.inside.held n c.self.view_is few)
