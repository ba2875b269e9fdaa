-- The queue and the list are those of the table with one more.
use Rattle.std.proofs.Common.{◌<◌, length, ap, arith, length-append, ◌∷◌, []}
use Rattle.std.proofs.lemmas.List.Sorted.{length_permutation}
use Rattle.arc_data.specs.Incidents.{Each}
use Rattle.incidents.specs.Tables.{TableValue}
use Rattle.open_incidents.specs.Waiting.{waiting}
use Rattle.open_incidents.proofs.Parts.{few_wait}
use Rattle.open_incidents.proofs.Holders.{few_held}
use Rattle.open_incidents.proofs.queued_table.QueuedTable.put.Goals as goal

pub put_aside-requires-clause-held : goal.put_aside-requires-clause-held
put_aside-requires-clause-held c =
    omega (
      arith,
      few_held c.self.inside.table.incidents,
      ap length c.self.invariant.held_of.numbers,
      c.requires.room,
      ap (λ (y : TableValue). length y.incidents) c.self.view_is,
      ap (λ (y : TableValue). y.room) c.self.view_is,
    )

pub put_aside-requires-clause-queue : goal.put_aside-requires-clause-queue
put_aside-requires-clause-queue c =
    omega (
      arith,
      few_wait c.self.inside.table.incidents,
      length_permutation (waiting c.self.inside.table.incidents) c.self.inside.queue.pairs c.self.invariant.queue_of.same,
      c.requires.room,
      ap (λ (y : TableValue). length y.incidents) c.self.view_is,
      ap (λ (y : TableValue). y.room) c.self.view_is,
    )

pub put-requires-clause-above : goal.put-requires-clause-above
put-requires-clause-above c = rw (← c.self.view_is) at c.requires.above

pub invariant_of-self : goal.invariant_of-self
invariant_of-self c =
    let is = c.self.inside.table.incidents in
    let above : Each (λ i. i.number < c.args.incident.number) is = rw (← c.self.view_is) at c.requires.above in
    rw (c.put.ensures) (record {
      queue_of = record {
        same = c.put_aside.ensures.pairs is c.self.invariant.queue_of.same;
        memory = omega (
          arith,
          length-append is (c.args.incident ∷ []),
          c.put_aside.ensures.queue_room,
          c.requires.room,
          ap (λ (y : TableValue). length y.incidents) c.self.view_is,
          ap (λ (y : TableValue). y.room) c.self.view_is,
        );
      };
      held_of = record {
        numbers = c.put_aside.ensures.numbers is above c.self.invariant.held_of.numbers;
        memory = omega (
          arith,
          length-append is (c.args.incident ∷ []),
          c.put_aside.ensures.held_room,
          c.requires.room,
          ap (λ (y : TableValue). length y.incidents) c.self.view_is,
          ap (λ (y : TableValue). y.room) c.self.view_is,
        );
      };
    })
