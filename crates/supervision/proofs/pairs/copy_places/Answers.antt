use Rattle.std.proofs.Common.{◌≡◌, ◌+◌, ◌++◌, ◌∷◌, [], ℕ, List, suc, map, take, ap, ◌∙◌, arith}
use Rattle.supervision.proofs.Passed.{copied}
use Rattle.supervision.proofs.pairs.copy_places.Goals as goal

pub loop-place-preserved : goal.loop-place-preserved
loop-place-preserved c =
    let l = c.loop-place in
    let pairs : List (ℕ × ℕ) = c.args.sorted.now.pairs in
    let on : suc l.place ≡ l.place + 1 = omega arith in
    c.in-Ok.ensures.items ∙ ap (λ (places : List ℕ). places ++ c.at.result.1 ∷ []) l.invariant
    ∙ copied l.place pairs c.at.result c.at.ensures.pair ∙ ap (λ k. map (λ (p : ℕ × ℕ). p.1) (take k pairs)) on
