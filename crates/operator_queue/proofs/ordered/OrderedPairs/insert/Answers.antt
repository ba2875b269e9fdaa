use Rattle.std.proofs.Common.{◌<◌, ◌∷◌, ℕ, List, length, ap, subst, arith}
use Rattle.std.specs.List.Sorted.{IsPermutation}
use Rattle.std.specs.VecDeque.{deque_len, deque_capacity}
use Rattle.operator_queue.specs.Pairs.{PairsValue}
use Rattle.operator_queue.proofs.Edits.{put_in}
use Rattle.operator_queue.proofs.ordered.OrderedPairs.insert.Goals as goal

pub returns-clause-pairs : goal.returns-clause-pairs
returns-clause-pairs g c =
    let pair : ℕ × ℕ = c.args.pair in
    let ps : List (ℕ × ℕ) = c.self.inside.pairs.items in
    let now : List (ℕ × ℕ) = c.insert.new.self.items in
    let items = ap (λ (v : PairsValue). v.pairs) c.self.view_is in
    let capacity = c.self.invariant.1 in
    let fits : deque_len c.self.inside.pairs < deque_capacity c.self.inside.pairs =
    omega (arith, c.requires, capacity, ap length items, ap (λ (v : PairsValue). v.room) c.self.view_is) in
    subst (λ l. IsPermutation (pair ∷ l) now) items
    (put_in c.insert.result ps now c.place_for-place.result pair (deque_len c.self.inside.pairs) (deque_capacity c.self.inside.pairs)
    c.insert.ensures.items c.insert.ensures.full fits)
