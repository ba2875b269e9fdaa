-- The incident is put back into the queue.
use Rattle.std.proofs.Common.{ap, arith}
use Rattle.incidents.specs.Tables.{TableValue}
use Rattle.centre_rules.specs.Marks.{Releases}
use Rattle.open_incidents.proofs.HeldMarks.{held_released}
use Rattle.open_incidents.proofs.QueuedMarks.{released, long_same, few_seen}
use Rattle.open_incidents.proofs.queued_table.QueuedTable.release.Goals as goal

pub put_back-requires : goal.put_back-requires
put_back-requires c = (c.self.inside.table.incidents, c.release-former.ensures.was, c.self.invariant.queue_of)

pub invariant_of-self : goal.invariant_of-self
invariant_of-self c =
    let old = c.self.inside.table.incidents in
    let is = ap (λ (y : TableValue). y.incidents) c.release-former.ensures.marked in
    record {
      queue_of = record {
        same = released c.args.number old c.release-former.new.table.incidents c.put_back.new.queue.pairs is (c.put_back.ensures.pairs old c.release-former.ensures.was c.self.invariant.queue_of.same);
        memory = omega (
          arith,
          long_same (Releases c.args.number) old c.release-former.new.table.incidents is,
          c.self.invariant.queue_of.memory,
          c.put_back.ensures.room,
        );
      };
      held_of = record {
        numbers = held_released c.args.number old c.release-former.new.table.incidents c.self.inside.held.numbers c.remove.new.self.numbers is
            c.self.invariant.held_of.numbers c.remove.ensures.numbers;
        memory = omega (
          arith,
          long_same (Releases c.args.number) old c.release-former.new.table.incidents is,
          c.self.invariant.held_of.memory,
          c.remove.ensures.room,
        );
      };
    }

pub returns-clause-few : goal.returns-clause-few
returns-clause-few c n few = c.release-former.ensures.few n (few_seen c.self.inside.table c.args.self.now c.self.inside.queue c.self.inside.held n c.self.view_is few)
