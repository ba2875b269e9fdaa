-- The queue is that of the others that wait.
use Rattle.std.proofs.Common.{arith}
use Rattle.open_incidents.proofs.HeldMarks.{held_closed}
use Rattle.open_incidents.proofs.QueuedMarks.{closed, long_closed, few_seen}
use Rattle.open_incidents.proofs.queued_table.QueuedTable.close.Goals as goal

pub take_out-requires : goal.take_out-requires
take_out-requires c = (c.self.inside.table.incidents, c.close-former.ensures.was, c.self.invariant.queue_of.same)

pub invariant_of-self : goal.invariant_of-self
invariant_of-self c =
    let old = c.self.inside.table in
    record {
      queue_of = record {
        same = closed c.args.number old.opened old.incidents c.close-former.new.table.incidents c.take_out.new.queue.pairs c.close-former.ensures.incidents
            (c.take_out.ensures.pairs old.incidents c.close-former.ensures.was c.self.invariant.queue_of.same);
        memory = omega (
          arith,
          long_closed c.args.number old.opened old.incidents c.close-former.new.table.incidents c.close-former.ensures.incidents,
          c.self.invariant.queue_of.memory,
          c.take_out.ensures.room,
        );
      };
      held_of = record {
        numbers = held_closed c.args.number old.opened old.incidents c.close-former.new.table.incidents c.self.inside.held.numbers c.remove.new.self.numbers
            c.close-former.ensures.incidents c.self.invariant.held_of.numbers c.remove.ensures.numbers;
        memory = omega (
          arith,
          long_closed c.args.number old.opened old.incidents c.close-former.new.table.incidents c.close-former.ensures.incidents,
          c.self.invariant.held_of.memory,
          c.remove.ensures.room,
        );
      };
    }

pub returns-clause-few : goal.returns-clause-few
returns-clause-few c n few = c.close-former.ensures.few n (few_seen c.self.inside.table c.args.self.now c.self.inside.queue c.self.inside.held n c.self.view_is few)
