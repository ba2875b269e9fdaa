-- The incident of the number was held or waited; or there is none.
use Rattle.std.proofs.Common.{◌<◌, ◌∷◌, ℕ, length, subst, arith}
use Rattle.std.specs.List.Sorted.{IsPermutation}
use Rattle.open_incidents.proofs.Formers.{one, none, free_so, held_so, pair_so}
use Rattle.open_incidents.proofs.QueueEdits.{room_held, back_held, back_free, back_none}
use Rattle.open_incidents.proofs.waiting.put_back.Goals as goal

pub insert-requires : goal.insert-requires
insert-requires c =
    let is = c.requires.0 in
    let w = c.requires.1 in
    let n = c.args.number in
    let i = c.in-Some.i in
    let o = one is n c.args.former i w c.in-Some.is in
    let few : length c.args.queue.now.pairs < length is =
    room_held n is w.opened o.incident w.ascends o.found c.args.queue.now.pairs c.requires.2.same (held_so is n i o c.if-i.true) in
    omega (arith, few, c.requires.2.memory)

pub returns-then-i-clause-pairs : goal.returns-then-i-clause-pairs
returns-then-i-clause-pairs c is w same =
    let n = c.args.number in
    let i = c.in-Some.i in
    let o = one is n c.args.former i w c.in-Some.is in
    back_held n is w.opened o.incident w.ascends o.found c.args.queue.now.pairs same c.insert.new.queue.pairs (held_so is n i o c.if-i.true)
    (subst (λ (p : ℕ × ℕ). IsPermutation (p ∷ c.args.queue.now.pairs) c.insert.new.queue.pairs)
    (pair_so is n i c.priority.result o c.priority.ensures) c.insert.ensures.pairs)

pub returns-else-i-clause-pairs : goal.returns-else-i-clause-pairs
returns-else-i-clause-pairs c is w same =
    let n = c.args.number in
    let i = c.in-Some.i in
    let o = one is n c.args.former i w c.in-Some.is in
    back_free n is w.opened o.incident w.ascends o.found c.args.queue.now.pairs same (free_so is n i o c.if-i.false)

pub returns-in_default-clause-pairs : goal.returns-in_default-clause-pairs
returns-in_default-clause-pairs c is w same =
    back_none c.args.number is c.args.queue.now.pairs (none is c.args.number c.args.former w c.in_default.is) same
