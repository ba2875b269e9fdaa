-- The queue is that of the others that wait.
use Rattle.std.proofs.Common.{ap, arith}
use Rattle.incidents.specs.Tables.{TableValue}
use Rattle.centre_rules.specs.Marks.{Claims}
use Rattle.open_incidents.proofs.HeldMarks.{held_claimed}
use Rattle.open_incidents.proofs.QueuedMarks.{claimed, long_same, few_seen}
use Rattle.open_incidents.proofs.queued_table.QueuedTable.claim.Goals as goal

pub take_out-requires : goal.take_out-requires
take_out-requires c = (c.self.inside.table.incidents, c.claim-former.ensures.was, c.self.invariant.queue_of.same)

pub hold-requires : goal.hold-requires
hold-requires c = (c.self.inside.table.incidents, c.claim-former.ensures.was, c.self.invariant.held_of)

pub invariant_of-self : goal.invariant_of-self
invariant_of-self c =
    let old = c.self.inside.table.incidents in
    let is = ap (λ (y : TableValue). y.incidents) c.claim-former.ensures.marked in
    record {
      queue_of = record {
        same = claimed c.args.operator c.args.number c.args.at old c.claim-former.new.table.incidents c.take_out.new.queue.pairs is (c.take_out.ensures.pairs old c.claim-former.ensures.was c.self.invariant.queue_of.same);
        memory = omega (
          arith,
          long_same (Claims c.args.operator c.args.number c.args.at) old c.claim-former.new.table.incidents is,
          c.self.invariant.queue_of.memory,
          c.take_out.ensures.room,
        );
      };
      held_of = record {
        numbers = held_claimed c.args.operator c.args.number c.args.at old c.claim-former.new.table.incidents c.hold.new.numbers.numbers is
            (c.hold.ensures.numbers old c.claim-former.ensures.was c.self.invariant.held_of.numbers c.args.operator c.args.at);
        memory = omega (
          arith,
          long_same (Claims c.args.operator c.args.number c.args.at) old c.claim-former.new.table.incidents is,
          c.self.invariant.held_of.memory,
          c.hold.ensures.room,
        );
      };
    }

pub returns-clause-few : goal.returns-clause-few
returns-clause-few c n few = c.claim-former.ensures.few n (few_seen c.self.inside.table c.args.self.now c.self.inside.queue c.self.inside.held n c.self.view_is few)
