-- It is held, or it waits.
use Rattle.std.proofs.Common.{◌≡◌, ◌∷◌, ℕ, true, false, sym, subst}
use Rattle.std.specs.List.Sorted.{IsPermutation}
use Rattle.open_incidents.specs.Holding.{is_held}
use Rattle.open_incidents.proofs.Parts.{free_by, held_by}
use Rattle.open_incidents.proofs.Put.{put_free, put_taken, held_not, held_put}
use Rattle.open_incidents.proofs.kept_incidents.put_aside.Goals as goal

pub returns-then-is_some-clause-pairs : goal.returns-then-is_some-clause-pairs
returns-then-is_some-clause-pairs c is same =
    put_taken is c.args.i.now c.args.queue.now.pairs (held_by c.args.i.now.holder c.if-is_some.ensures) same

pub returns-then-is_some-clause-numbers : goal.returns-then-is_some-clause-numbers
returns-then-is_some-clause-numbers c is above same =
    let held : is_held c.args.i.now ≡ true = sym c.if-is_some.ensures in
    held_put is c.args.i.now c.args.held.now.numbers c.insert.new.self.numbers held above same c.insert.ensures.numbers

pub returns-else-is_some-clause-pairs : goal.returns-else-is_some-clause-pairs
returns-else-is_some-clause-pairs c is same =
    put_free is c.args.i.now c.args.queue.now.pairs c.insert-else-is_some.new.queue.pairs (free_by c.args.i.now.holder c.if-is_some.ensures) same
    (subst (λ (p : ℕ). IsPermutation ((p, c.args.i.now.number) ∷ c.args.queue.now.pairs) c.insert-else-is_some.new.queue.pairs) c.priority.ensures c.insert-else-is_some.ensures.pairs)

pub returns-else-is_some-clause-numbers : goal.returns-else-is_some-clause-numbers
returns-else-is_some-clause-numbers c is above same =
    let free : is_held c.args.i.now ≡ false = sym c.if-is_some.ensures in
    held_not is c.args.i.now c.args.held.now.numbers free same
