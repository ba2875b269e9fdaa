-- Pairs whose first number is a priority stay so where one is put in, and where one is taken out.
use Rattle.std.proofs.Common.{◌≡◌, ◌<◌, ℕ, List, ◌∷◌, Bool, true, false, refl, sym, subst}
use Rattle.std.specs.Prelude.{IsTrue}
use Rattle.std.specs.List.Sorted.{IsPermutation}
use Rattle.std.proofs.lemmas.List.Sorted.{All-permutation, IsPermutation-sym}
use Rattle.std.proofs.lemmas.List.Elements.{All-cons, All-tail}
use Rattle.operator_queue.specs.Pairs.{ArePriorities}

pub with_one : (p : ℕ × ℕ) (old now : List (ℕ × ℕ)) → p.0 < 256 → ArePriorities old → IsPermutation (p ∷ old) now → ArePriorities now
with_one p old now one all put =
    All-permutation (λ (q : ℕ × ℕ). q.0 < 256) (p ∷ old) now put (All-cons (λ (q : ℕ × ℕ). q.0 < 256) p old one all)

pub without_one : (p : ℕ × ℕ) (old now : List (ℕ × ℕ)) → ArePriorities old → IsPermutation (p ∷ now) old → ArePriorities now
without_one p old now all taken =
    All-tail (λ (q : ℕ × ℕ). q.0 < 256) p now
    (All-permutation (λ (q : ℕ × ℕ). q.0 < 256) old (p ∷ now) (IsPermutation-sym (p ∷ now) old taken) all)

-- whether or not one was taken out
pub after_removal : (p : ℕ × ℕ) (old now : List (ℕ × ℕ)) (found : Bool) → ArePriorities old
    → (IsTrue found → IsPermutation (p ∷ now) old) → (found ≡ false → now ≡ old) → ArePriorities now
after_removal p old now true all taken stays = without_one p old now all (taken refl)
after_removal p old now false all taken stays = subst ArePriorities (sym (stays refl)) all
