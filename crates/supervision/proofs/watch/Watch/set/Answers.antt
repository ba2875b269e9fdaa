use Rattle.std.proofs.Common.{◌<◌, length, ap, subst, arith}
use Rattle.supervision.specs.Deadlines.{pairs_of, TakesTwice}
use Rattle.supervision.proofs.Edits.{while_out, is_set}
use Rattle.supervision.proofs.Cost.{twice}
use Rattle.supervision.proofs.watch.Watch.set.Goals as goal

pub put_in-requires : goal.put_in-requires
put_in-requires g c =
    let within : c.args.place < length c.self.inside.deadlines.items = omega (arith, c.requires, ap length c.self.view_is) in
    (while_out c.self.inside.deadlines.items c.args.place c.index.result.now c.self.inside.sorted c.take_out.new.sorted within
    c.index.ensures c.self.invariant c.take_out.ensures.taken c.take_out.ensures.room).fewer

pub invariant_of-self : goal.invariant_of-self
invariant_of-self g c =
    let within : c.args.place < length c.self.inside.deadlines.items = omega (arith, c.requires, ap length c.self.view_is) in
    let out = while_out c.self.inside.deadlines.items c.args.place c.index.result.now c.self.inside.sorted c.take_out.new.sorted within
    c.index.ensures c.self.invariant c.take_out.ensures.taken c.take_out.ensures.room in
    is_set c.self.inside.deadlines.items c.args.place c.args.deadline c.self.inside.sorted c.take_out.new.sorted c.put_in.new.sorted within out
    c.put_in.ensures.put c.put_in.ensures.room

pub returns-clause-cost : goal.returns-clause-cost
returns-clause-cost g c =
    let within : c.args.place < length c.self.inside.deadlines.items = omega (arith, c.requires, ap length c.self.view_is) in
    let out = while_out c.self.inside.deadlines.items c.args.place c.index.result.now c.self.inside.sorted c.take_out.new.sorted within
    c.index.ensures c.self.invariant c.take_out.ensures.taken c.take_out.ensures.room in
    let count = out.long in
    let less = out.no_more in
    subst (λ l. TakesTwice (length (pairs_of l)) c.args.steps.now c.put_in.new.steps) c.self.view_is
    (subst (λ n. TakesTwice n c.args.steps.now c.put_in.new.steps) count
    (twice (length c.self.inside.sorted.pairs) (length c.take_out.new.sorted.pairs) c.args.steps.now c.take_out.new.steps c.put_in.new.steps
    (omega (arith, count, less)) c.take_out.ensures.cost c.put_in.ensures.cost))
