-- No more incidents wait than are open, and no more are held.
use Rattle.std.proofs.Common.{length, ap, arith}
use Rattle.std.proofs.lemmas.List.Sorted.{length_permutation}
use Rattle.open_incidents.specs.Waiting.{waiting}
use Rattle.open_incidents.proofs.Parts.{few_wait}
use Rattle.open_incidents.proofs.Holders.{few_held}
use Rattle.open_incidents.proofs.queued_table.QueuedTable.reserve.Goals as goal

pub overflow_sub-all : goal.overflow_sub-all
overflow_sub-all c =
    let old = c.self.inside.table.incidents in
    omega (
      arith,
      c.in-Some.ensures,
      c.count.ensures,
      c.count-2.ensures,
      ap length c.reserve.ensures.incidents,
      few_wait old,
      length_permutation (waiting old) c.self.inside.queue.pairs c.self.invariant.queue_of.same,
    )

pub overflow_sub-all-2 : goal.overflow_sub-all-2
overflow_sub-all-2 c =
    let old = c.self.inside.table.incidents in
    omega (
      arith,
      c.in-Some.ensures,
      c.count.ensures,
      ap length c.numbers.ensures,
      ap length c.reserve.ensures.incidents,
      few_held old,
      ap length c.self.invariant.held_of.numbers,
    )
