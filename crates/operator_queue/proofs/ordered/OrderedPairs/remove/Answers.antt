use Rattle.std.proofs.Common.{◌≡◌, ◌∷◌, ℕ, List, Some, slice_get, sym, ap, subst, arith}
use Rattle.std.specs.List.Sorted.{IsPermutation}
use Rattle.std.specs.VecDeque.{deque_len}
use Rattle.operator_queue.specs.Pairs.{PairsValue, IsApart, IsOrdered}
use Rattle.operator_queue.proofs.Edits.{contained, lacking, ordered_remove, taken_out, left}
use Rattle.operator_queue.proofs.ordered.OrderedPairs.remove.Goals as goal

pub returns-in_default-clause-found : goal.returns-in_default-clause-found
returns-in_default-clause-found g c =
    let pair : ℕ × ℕ = c.args.pair in
    let items = ap (λ (v : PairsValue). v.pairs) c.self.view_is in
    let apart = subst (λ l. IsApart pair l c.in_default.field-0) items c.in_default.ensures.apart in
    (λ is. absurd (cc), λ there. absurd (lacking c.in_default.field-0 c.args.self.now.pairs pair apart there))

pub invariant_of-self : goal.invariant_of-self
invariant_of-self g c =
    let ps : List (ℕ × ℕ) = c.self.inside.pairs.items in
    let now : List (ℕ × ℕ) = c.remove.new.self.items in
    let taken = left c.remove.result ps now c.in-Ok.place (deque_len c.self.inside.pairs) c.args.pair c.in-Ok.ensures.found (omega arith)
    c.remove.ensures.variant c.remove.ensures.items in
    let room = c.self.invariant.1 in
    (subst IsOrdered (sym taken) (ordered_remove c.in-Ok.place ps c.self.invariant.0), omega (arith, room, c.remove.ensures.capacity))

pub returns-clause-found : goal.returns-clause-found
returns-clause-found g c =
    let pair : ℕ × ℕ = c.args.pair in
    let items = ap (λ (v : PairsValue). v.pairs) c.self.view_is in
    let found = subst (λ l. slice_get l c.in-Ok.place ≡ Some pair) items c.in-Ok.ensures.found in
    (λ is. contained c.in-Ok.place c.args.self.now.pairs pair found, λ there. cc)

pub returns-clause-taken : goal.returns-clause-taken
returns-clause-taken g c is =
    let pair : ℕ × ℕ = c.args.pair in
    let ps : List (ℕ × ℕ) = c.self.inside.pairs.items in
    let now : List (ℕ × ℕ) = c.remove.new.self.items in
    let taken = left c.remove.result ps now c.in-Ok.place (deque_len c.self.inside.pairs) c.args.pair c.in-Ok.ensures.found (omega arith)
    c.remove.ensures.variant c.remove.ensures.items in
    subst (λ l. IsPermutation (pair ∷ now) l) (ap (λ (v : PairsValue). v.pairs) c.self.view_is)
    (subst (λ l. IsPermutation (pair ∷ l) ps) (sym taken) (taken_out c.in-Ok.place ps pair c.in-Ok.ensures.found))

pub returns-clause-ordered : goal.returns-clause-ordered
returns-clause-ordered g c =
    let ps : List (ℕ × ℕ) = c.self.inside.pairs.items in
    let now : List (ℕ × ℕ) = c.remove.new.self.items in
    let taken = left c.remove.result ps now c.in-Ok.place (deque_len c.self.inside.pairs) c.args.pair c.in-Ok.ensures.found (omega arith)
    c.remove.ensures.variant c.remove.ensures.items in
    subst IsOrdered (sym taken) (ordered_remove c.in-Ok.place ps c.self.invariant.0)
