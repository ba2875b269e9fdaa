-- The first so many messages of a window, turned round, and one more.
use Rattle.std.proofs.Common.{◌≡◌, ◌<◌, ◌≤◌, ◌+◌, ◌∷◌, ◌++◌, [], ℕ, List, length, take, Some, refl, sym, ap, ◌∙◌, arith}
use Rattle.std.specs.Prelude.{reverse, slice_get}
use Rattle.std.proofs.lemmas.List.{take_more, take_all, reverse-append, length-reverse, length-take}
use Rattle.std.proofs.lemmas.Option.{slice_get_within, get_or_from_slice_get}

next_of : {A : Type 0} (xs : List A) (i : ℕ) (x : A) → slice_get xs i ≡ Some x → take (i + 1) xs ≡ take i xs ++ x ∷ []
next_of xs i x e = take_more xs i x (slice_get_within xs i x e) ∙ ap (λ y. take i xs ++ y ∷ []) (get_or_from_slice_get xs i x x e)

-- the newest of them put in front, where no more than 32 are there
pub copied_more : {A : Type 0} (w copy : List A) (i : ℕ) (x : A) → length w ≤ 32 → slice_get (reverse w) i ≡ Some x → copy ≡ reverse (take i (reverse w))
    → take 32 (x ∷ copy) ≡ reverse (take (i + 1) (reverse w))
copied_more w copy i x few at is =
    let more : reverse (take (i + 1) (reverse w)) ≡ x ∷ reverse (take i (reverse w)) =
    ap reverse (next_of (reverse w) i x at) ∙ reverse-append (take i (reverse w)) (x ∷ []) in
    let within = slice_get_within (reverse w) i x at in
    let long : length (x ∷ reverse (take i (reverse w))) ≤ 32 = omega (arith, few, within, length-reverse w, length-reverse (take i (reverse w)), length-take i (reverse w)) in
    ap (λ l. take 32 (x ∷ l)) is ∙ take_all 32 (x ∷ reverse (take i (reverse w))) long ∙ sym more
