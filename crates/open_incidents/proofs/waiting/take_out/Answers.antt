-- The incident of the number waited or was held; or there is none.
use Rattle.std.proofs.Common.{◌∷◌, ℕ, sym, subst}
use Rattle.std.specs.List.{Contains}
use Rattle.std.specs.List.Sorted.{IsPermutation}
use Rattle.std.proofs.lemmas.Bool.{not-true, not-false}
use Rattle.open_incidents.proofs.Formers.{one, none, free_so, held_so, pair_so}
use Rattle.open_incidents.proofs.QueueEdits.{in_queue, out_free, out_held, out_none}
use Rattle.open_incidents.proofs.waiting.take_out.Goals as goal

pub remove-requires : goal.remove-requires
remove-requires c =
    let is = c.requires.0 in
    let w = c.requires.1 in
    let n = c.args.number in
    let i = c.in-Some.i in
    let o = one is n c.args.former i w c.in-Some.is in
    subst (λ (p : ℕ × ℕ). Contains c.args.queue.now.pairs p) (sym (pair_so is n i c.priority.result o c.priority.ensures))
    (in_queue n is w.opened o.incident w.ascends o.found c.args.queue.now.pairs c.requires.2 (free_so is n i o (not-true i.is_held c.if-not-i.true)))

pub returns-then-not-i-clause-pairs : goal.returns-then-not-i-clause-pairs
returns-then-not-i-clause-pairs c is w same =
    let n = c.args.number in
    let i = c.in-Some.i in
    let o = one is n c.args.former i w c.in-Some.is in
    out_free n is w.opened o.incident w.ascends o.found c.args.queue.now.pairs same c.remove.new.queue.pairs (free_so is n i o (not-true i.is_held c.if-not-i.true))
    (subst (λ (p : ℕ × ℕ). IsPermutation (p ∷ c.remove.new.queue.pairs) c.args.queue.now.pairs)
    (pair_so is n i c.priority.result o c.priority.ensures) c.remove.ensures.pairs)

pub returns-else-not-i-clause-pairs : goal.returns-else-not-i-clause-pairs
returns-else-not-i-clause-pairs c is w same =
    let n = c.args.number in
    let i = c.in-Some.i in
    let o = one is n c.args.former i w c.in-Some.is in
    out_held n is w.opened o.incident w.ascends o.found c.args.queue.now.pairs same (held_so is n i o (not-false i.is_held c.if-not-i.false))

pub returns-in_default-clause-pairs : goal.returns-in_default-clause-pairs
returns-in_default-clause-pairs c is w same =
    out_none c.args.number is c.args.queue.now.pairs (none is c.args.number c.args.former w c.in_default.is) same
