-- The rows of the first so many accounts, and one more.
use Rattle.std.proofs.Common.{◌≡◌, ◌+◌, ℕ, zero, suc, List, [], ◌∷◌, ◌++◌, map, take, Bool, true, false, Some, refl, sym, ap, ◌∙◌, append_assoc, append-nil}
use Rattle.std.specs.Prelude.{slice_get, ◌||◌}
use Rattle.std.specs.List.{flat_map, list_any}
use Rattle.std.specs.Str.{bytes_eq}
use Rattle.std.proofs.lemmas.Grind.{flat_map-append}
use Rattle.std.proofs.lemmas.List.{map-append}
use Rattle.std.proofs.lemmas.Slice.Eq.{bytes_eq-Decides}
use Rattle.centre_rules.specs.Summary.{AccountRow}

or_true : (b : Bool) → (b || true) ≡ true
or_true true = refl
or_true false = refl

-- what stands at a place is among them
pub among_at : (xs : List (List ℕ)) (i : ℕ) (a : List ℕ) → slice_get xs i ≡ Some a → list_any (λ x. bytes_eq x a) xs ≡ true
among_at [] i a at = absurd (cc)
among_at (x ∷ xs) zero a at = let same : x ≡ a = cc in ap (λ b. b || list_any (λ y. bytes_eq y a) xs) ((bytes_eq-Decides x a).1 same)
among_at (x ∷ xs) (suc i) a at = ap (λ b. bytes_eq x a || b) (among_at xs i a at) ∙ or_true (bytes_eq x a)

-- the text of one row more
pub rows_more : (row : List ℕ → AccountRow) (text : AccountRow → List ℕ) (xs : List (List ℕ)) (i : ℕ) (a old out new : List ℕ) → take (i + 1) xs ≡ take i xs ++ a ∷ []
    → out ≡ old ++ flat_map text (map row (take i xs)) → new ≡ out ++ text (row a) → new ≡ old ++ flat_map text (map row (take (i + 1) xs))
rows_more row text xs i a old out new one so_far more =
    let next : flat_map text (map row (take (i + 1) xs)) ≡ flat_map text (map row (take i xs)) ++ text (row a) =
    ap (λ l. flat_map text (map row l)) one ∙ ap (flat_map text) (map-append row (take i xs) (a ∷ []))
    ∙ flat_map-append text (map row (take i xs)) (row a ∷ []) ∙ ap (λ ys. flat_map text (map row (take i xs)) ++ ys) (append-nil (text (row a))) in
    more ∙ ap (λ l. l ++ text (row a)) so_far ∙ append_assoc old (flat_map text (map row (take i xs))) (text (row a)) ∙ ap (λ l. old ++ l) (sym next)
