-- All wait: none has a claimer.
use Rattle.std.proofs.Common.{List, map, ap, subst, arith}
use Rattle.std.specs.List.Sorted.{IsPermutation}
use Rattle.arc_data.specs.declared.incident.Incident.{Incident}
use Rattle.incidents.specs.Tables.{TableValue}
use Rattle.centre_rules.specs.Marks.{Starts}
use Rattle.open_incidents.specs.Waiting.{pair_of}
use Rattle.open_incidents.proofs.HeldMarks.{held_started}
use Rattle.open_incidents.proofs.QueuedMarks.{started, long_same, few_seen}
use Rattle.open_incidents.proofs.queued_table.QueuedTable.release_all.Goals as goal

pub invariant_of-self : goal.invariant_of-self
invariant_of-self c =
    let old = c.self.inside.table.incidents in
    let is = ap (λ (y : TableValue). y.incidents) (c.release_all.ensures.started 0) in
    record {
      queue_of = record {
        same = started 0 old c.release_all.new.table.incidents c.put_held.new.queue.pairs is
            (subst (λ (l : List Incident). IsPermutation (map pair_of l) c.put_held.new.queue.pairs) c.slots.ensures.value c.put_held.ensures.pairs);
        memory = omega (arith, long_same (Starts 0) old c.release_all.new.table.incidents is, c.self.invariant.queue_of.memory, c.put_held.ensures.room);
      };
      held_of = record {
        numbers = held_started 0 old c.release_all.new.table.incidents c.clear.new.self.numbers is c.clear.ensures.numbers;
        memory = omega (arith, long_same (Starts 0) old c.release_all.new.table.incidents is, c.self.invariant.held_of.memory, c.clear.ensures.room);
      };
    }

pub returns-clause-few : goal.returns-clause-few
returns-clause-few c n few = c.release_all.ensures.few n (few_seen c.self.inside.table c.args.self.now c.self.inside.queue c.self.inside.held n c.self.view_is few)
