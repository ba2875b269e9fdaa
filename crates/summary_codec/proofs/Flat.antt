-- The texts of the first so many of a list, and one more.
use Rattle.std.proofs.Common.{◌≡◌, ◌+◌, ◌<◌, ◌≤◌, ℕ, zero, suc, List, [], ◌∷◌, ◌++◌, take, length, Some, sym, ap, ◌∙◌, append_assoc, append-nil, get_or, arith}
use Rattle.std.specs.Prelude.{slice_get}
use Rattle.std.specs.List.{flat_map}
use Rattle.std.proofs.lemmas.Grind.{flat_map-append}
use Rattle.std.proofs.lemmas.List.{take_more, take_all}
use Rattle.std.proofs.lemmas.Option.{slice_get_within, get_or_from_slice_get}
use Rattle.summary_rules.specs.Lists.{Every}

pub next_of : {A : Type 0} (xs : List A) (i : ℕ) (x : A) → slice_get xs i ≡ Some x → take (i + 1) xs ≡ take i xs ++ x ∷ []
next_of xs i x e = take_more xs i x (slice_get_within xs i x e) ∙ ap (λ y. take i xs ++ y ∷ []) (get_or_from_slice_get xs i x x e)

-- behind what stood there, the texts of the first so many, and one more
pub texts_more : {A : Type 0} (f : A → List ℕ) (xs : List A) (i : ℕ) (x : A) (old out new : List ℕ) → take (i + 1) xs ≡ take i xs ++ x ∷ []
    → out ≡ old ++ flat_map f (take i xs) → new ≡ out ++ f x → new ≡ old ++ flat_map f (take (i + 1) xs)
texts_more f xs i x old out new one so_far more =
    let next : flat_map f (take (i + 1) xs) ≡ flat_map f (take i xs) ++ f x =
    ap (flat_map f) one ∙ flat_map-append f (take i xs) (x ∷ []) ∙ ap (λ ys. flat_map f (take i xs) ++ ys) (append-nil (f x)) in
    more ∙ ap (λ l. l ++ f x) so_far ∙ append_assoc old (flat_map f (take i xs)) (f x) ∙ ap (λ l. old ++ l) (sym next)

-- the texts of all
pub texts_all : {A : Type 0} (f : A → List ℕ) (xs : List A) (n : ℕ) (old out : List ℕ) → length xs ≤ n → out ≡ old ++ flat_map f (take n xs) → out ≡ old ++ flat_map f xs
texts_all f xs n old out all so_far = so_far ∙ ap (λ ys. old ++ flat_map f ys) (take_all n xs all)

-- behind a count, the texts of all
pub counted : (old front texts out : List ℕ) → out ≡ (old ++ front) ++ texts → out ≡ old ++ (front ++ texts)
counted old front texts out is = is ∙ append_assoc old front texts

-- what holds of each holds of the one at a place
pub every_get : {A : Type 0} (P : A → Type 0) (xs : List A) (i : ℕ) (d : A) → i < length xs → Every P xs → P (get_or xs i d)
every_get P [] i d lt all = absurd (omega (arith, lt))
every_get P (x ∷ xs) zero d lt all = all.0
every_get P (x ∷ xs) (suc i) d lt all = every_get P xs i d (omega (arith, lt)) all.1

-- Texts put one behind another.

pub four_behind : (old a b c d : List ℕ) → (((old ++ a) ++ b) ++ c) ++ d ≡ old ++ (a ++ (b ++ (c ++ d)))
four_behind old a b c d = append_assoc ((old ++ a) ++ b) c d ∙ append_assoc (old ++ a) b (c ++ d) ∙ append_assoc old a (b ++ (c ++ d))

pub five_behind : (old a b c d e : List ℕ) → ((((old ++ a) ++ b) ++ c) ++ d) ++ e ≡ old ++ (a ++ (b ++ (c ++ (d ++ e))))
five_behind old a b c d e = append_assoc (((old ++ a) ++ b) ++ c) d e ∙ four_behind old a b c (d ++ e)

pub six_behind : (old a b c d e f : List ℕ) → (((((old ++ a) ++ b) ++ c) ++ d) ++ e) ++ f ≡ old ++ (a ++ (b ++ (c ++ (d ++ (e ++ f)))))
six_behind old a b c d e f = append_assoc ((((old ++ a) ++ b) ++ c) ++ d) e f ∙ five_behind old a b c d (e ++ f)

-- what an incident was opened by, and what stands behind that
pub opened_behind : (n a k v t x : List ℕ) (c : ℕ) → (n ++ (a ++ (c ∷ (k ++ (v ++ t))))) ++ x ≡ n ++ (a ++ (c ∷ (k ++ (v ++ (t ++ x)))))
opened_behind n a k v t x c =
    append_assoc n (a ++ (c ∷ (k ++ (v ++ t)))) x
    ∙ ap (λ l. n ++ l) (append_assoc a (c ∷ (k ++ (v ++ t))) x ∙ ap (λ l. a ++ (c ∷ l)) (append_assoc k (v ++ t) x ∙ ap (λ l. k ++ l) (append_assoc v t x)))

-- the head of a summary, and what stands behind it
pub head_behind : (g l r o x : List ℕ) (tag : ℕ) → (tag ∷ (g ++ (l ++ (r ++ o)))) ++ x ≡ tag ∷ (g ++ (l ++ (r ++ (o ++ x))))
head_behind g l r o x tag =
    ap (λ y. tag ∷ y) (append_assoc g (l ++ (r ++ o)) x ∙ ap (λ y. g ++ y) (append_assoc l (r ++ o) x ∙ ap (λ y. l ++ y) (append_assoc r o x)))
