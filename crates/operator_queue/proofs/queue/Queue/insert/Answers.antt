use Rattle.std.proofs.Common.{arith}
use Rattle.operator_queue.proofs.Priorities.{with_one}
use Rattle.operator_queue.proofs.queue.Queue.insert.Goals as goal

pub invariant_of-self : goal.invariant_of-self
invariant_of-self g c =
    with_one (c.from.result, c.args.number) c.self.inside.pairs.pairs c.insert.new.self.pairs (omega arith) c.self.invariant c.insert.ensures.pairs
