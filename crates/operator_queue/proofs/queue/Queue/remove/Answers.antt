use Rattle.operator_queue.proofs.Priorities.{after_removal}
use Rattle.operator_queue.proofs.queue.Queue.remove.Goals as goal

pub invariant_of-self : goal.invariant_of-self
invariant_of-self g c =
    after_removal (c.from.result, c.args.number) c.self.inside.pairs.pairs c.remove.new.self.pairs c.remove.result c.self.invariant
    c.remove.ensures.taken c.remove.ensures.stays
