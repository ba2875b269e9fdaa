-- One signal more.
use Rattle.std.proofs.Common.{◌≡◌, ◌+◌, ◌++◌, ◌∷◌, [], List, take, length, map, sym, ap, ◌∙◌, arith}
use Rattle.std.proofs.lemmas.List.{take_more, take_all}
use Rattle.centre_rules.specs.Marks.{Carried}
use Rattle.known_accounts.specs.Rows.{lacking}
use Rattle.centre_core.proofs.Taking.{lacking_more}
use Rattle.centre_core.proofs.reserving.rows_of.Goals as goal

pub overflow_add-count : goal.overflow_add-count
overflow_add-count c = omega (arith, c.loop-x.invariant.few, c.loop-x-test.true, c.requires, c.row_for-count.ensures.one)

pub loop-x-preserved : goal.loop-x-preserved
loop-x-preserved c =
    let xs = c.args.carried.now in
    let i = c.loop-x.x-index in
    let x = c.x-item.result in
    let next : take (i + 1) xs ≡ take i xs ++ x ∷ [] =
    take_more xs i x c.loop-x-test.true ∙ ap (λ (y : Carried). take i xs ++ y ∷ []) (sym c.x-item.is) in
    record {
      so_far = omega (arith, c.loop-x.invariant.so_far, c.row_for-count.ensures.value, lacking_more c.args.rows.now.rows (take i xs) (take (i + 1) xs) x next);
      few = omega (arith, c.loop-x.invariant.few, c.row_for-count.ensures.one);
    }

pub returns : goal.returns
returns c =
    c.loop-x.invariant.so_far
    ∙ ap (λ (xs : List Carried). length (lacking c.args.rows.now.rows (map (λ (x : Carried). x.account) xs))) (take_all c.loop-x.x-index c.args.carried.now (omega arith))
