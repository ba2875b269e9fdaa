-- The same incidents wait.
use Rattle.std.proofs.Common.{ap, arith}
use Rattle.incidents.specs.Tables.{TableValue}
use Rattle.centre_rules.specs.Marks.{Acts}
use Rattle.centre_rules.specs.History.{acted_by}
use Rattle.open_incidents.proofs.HeldMarks.{held_acted}
use Rattle.open_incidents.proofs.QueuedMarks.{acted, long_same, few_seen}
use Rattle.open_incidents.proofs.queued_table.QueuedTable.act.Goals as goal

pub invariant_of-self : goal.invariant_of-self
invariant_of-self c =
    let old = c.self.inside.table.incidents in
    let a = acted_by c.args.operator c.args.step c.args.outcome c.args.at in
    let is = ap (λ (y : TableValue). y.incidents) c.act.ensures.marked in
    record {
      queue_of = record {
        same = acted c.args.number a old c.act.new.table.incidents c.self.inside.queue.pairs is c.self.invariant.queue_of.same;
        memory = omega (arith, long_same (Acts c.args.number a) old c.act.new.table.incidents is, c.self.invariant.queue_of.memory);
      };
      held_of = record {
        numbers = held_acted c.args.number a old c.act.new.table.incidents c.self.inside.held.numbers is c.self.invariant.held_of.numbers;
        memory = omega (arith, long_same (Acts c.args.number a) old c.act.new.table.incidents is, c.self.invariant.held_of.memory);
      };
    }

pub returns-clause-few : goal.returns-clause-few
returns-clause-few c n few = c.act.ensures.few n (few_seen c.self.inside.table c.args.self.now c.self.inside.queue c.self.inside.held n c.self.view_is few)
