-- What holds of each item of a list, and of each two, as far as a loop has come.
use Rattle.std.proofs.Common.{◌≡◌, ◌≤◌, ◌+◌, ℕ, List, [], ◌∷◌, ◌++◌, take, length, Some, sym, subst}
use Rattle.std.specs.Prelude.{slice_get, reverse}
use Rattle.std.proofs.lemmas.List.{take_all, reverse-append, reverse-reverse}
use Rattle.summary_rules.specs.Lists.{Every, EveryTwo}
use Rattle.summary_rules.proofs.Everies.{every_append, every_take, two_take}
use Rattle.summary_rules.proofs.Pairs.{two_more}
use Rattle.summary_codec.proofs.Flat.{next_of}
use Rattle.summary_codec.proofs.RowReading.{every_reverse}

-- each

every_last : {A : Type 0} (P : A → Type 0) (xs : List A) (x : A) → Every P (xs ++ x ∷ []) → P x
every_last P [] x w = w.0
every_last P (y ∷ xs) x w = every_last P xs x w.1

every_front : {A : Type 0} (P : A → Type 0) (xs ys : List A) → Every P (xs ++ ys) → Every P xs
every_front P [] ys w = tt
every_front P (x ∷ xs) ys w = (w.0, every_front P xs ys w.1)

pub every_more : {A : Type 0} (P : A → Type 0) (xs : List A) (i : ℕ) (x : A) → slice_get xs i ≡ Some x → P x → Every P (take i xs) → Every P (take (i + 1) xs)
every_more P xs i x at p w = subst (Every P) (sym (next_of xs i x at)) (every_append P (take i xs) (x ∷ []) w (p, tt))

pub every_one : {A : Type 0} (P : A → Type 0) (xs : List A) (i : ℕ) (x : A) → slice_get xs i ≡ Some x → Every P xs → P x
every_one P xs i x at w = every_last P (take i xs) x (subst (Every P) (next_of xs i x at) (every_take P (i + 1) xs w))

pub every_whole : {A : Type 0} (P : A → Type 0) (xs : List A) (n : ℕ) → length xs ≤ n → Every P (take n xs) → Every P xs
every_whole P xs n le w = subst (Every P) (take_all n xs le) w

-- each two

pub two_last : {A : Type 0} (R : A → A → Type 0) (xs : List A) (x : A) → EveryTwo R (xs ++ x ∷ []) → Every (λ y. R y x) xs
two_last R [] x w = tt
two_last R (y ∷ xs) x w = (every_last (R y) xs x w.0, two_last R xs x w.1)

pub two_front : {A : Type 0} (R : A → A → Type 0) (xs ys : List A) → EveryTwo R (xs ++ ys) → EveryTwo R xs
two_front R [] ys w = tt
two_front R (x ∷ xs) ys w = (every_front (R x) xs ys w.0, two_front R xs ys w.1)

pub two_next : {A : Type 0} (R : A → A → Type 0) (xs : List A) (i : ℕ) (x : A) → slice_get xs i ≡ Some x → Every (λ y. R y x) (take i xs)
    → EveryTwo R (take i xs) → EveryTwo R (take (i + 1) xs)
two_next R xs i x at v w = subst (EveryTwo R) (sym (next_of xs i x at)) (two_more R (take i xs) x w v)

pub two_before : {A : Type 0} (R : A → A → Type 0) (xs : List A) (i : ℕ) (x : A) → slice_get xs i ≡ Some x → EveryTwo R (take (i + 1) xs) → Every (λ y. R y x) (take i xs)
two_before R xs i x at w = two_last R (take i xs) x (subst (EveryTwo R) (next_of xs i x at) w)

pub two_whole : {A : Type 0} (R : A → A → Type 0) (xs : List A) (n : ℕ) → length xs ≤ n → EveryTwo R (take n xs) → EveryTwo R xs
two_whole R xs n le w = subst (EveryTwo R) (take_all n xs le) w

pub two_part : {A : Type 0} (R : A → A → Type 0) (xs : List A) (n : ℕ) → EveryTwo R xs → EveryTwo R (take n xs)
two_part R xs n w = two_take R n xs w

-- where the relation goes on from two to two, it holds of an item and each before it, if it holds of it and the one before
carried : {A : Type 0} (R : A → A → Type 0) → ((x y z : A) → R x y → R y z → R x z) → (xs : List A) (y z : A) → R y z → Every (λ x. R x y) xs → Every (λ x. R x z) xs
carried R trans [] y z r w = tt
carried R trans (x ∷ xs) y z r w = (trans x y z w.0 r, carried R trans xs y z r w.1)

pub two_step : {A : Type 0} (R : A → A → Type 0) → ((x y z : A) → R x y → R y z → R x z) → (xs : List A) (k : ℕ) (y z : A) → slice_get xs k ≡ Some y
    → slice_get xs (k + 1) ≡ Some z → R y z → EveryTwo R (take (k + 1) xs) → EveryTwo R (take (k + 1 + 1) xs)
two_step R trans xs k y z here next r w =
    let before : Every (λ x. R x y) (take k xs) = two_before R xs k y here w in
    let all : Every (λ x. R x z) (take (k + 1) xs) =
    subst (Every (λ x. R x z)) (sym (next_of xs k y here)) (every_append (λ x. R x z) (take k xs) (y ∷ []) (carried R trans (take k xs) y z r before) (r, tt)) in
    two_next R xs (k + 1) z next all w

pub two_neighbours : {A : Type 0} (R : A → A → Type 0) (xs : List A) (k : ℕ) (y z : A) → slice_get xs k ≡ Some y → slice_get xs (k + 1) ≡ Some z
    → EveryTwo R (take (k + 1 + 1) xs) → R y z
two_neighbours R xs k y z here next w =
    let all : Every (λ x. R x z) (take (k + 1) xs) = two_before R xs (k + 1) z next w in
    every_last (λ x. R x z) (take k xs) y (subst (Every (λ x. R x z)) (next_of xs k y here) all)

-- a list turned round

pub two_reverse : {A : Type 0} (R : A → A → Type 0) (xs : List A) → EveryTwo R xs → EveryTwo (λ x y. R y x) (reverse xs)
two_reverse R [] w = tt
two_reverse R (x ∷ xs) w =
    subst (EveryTwo (λ x y. R y x)) (sym (reverse-append (x ∷ []) xs)) (two_more (λ x y. R y x) (reverse xs) x (two_reverse R xs w.1) (every_reverse (R x) xs w.0))

pub every_turned : {A : Type 0} (P : A → Type 0) (xs : List A) → Every P (reverse xs) → Every P xs
every_turned P xs w = subst (Every P) (reverse-reverse xs) (every_reverse P (reverse xs) w)

pub two_turned : {A : Type 0} (R : A → A → Type 0) (xs : List A) → EveryTwo (λ x y. R y x) (reverse xs) → EveryTwo R xs
two_turned R xs w = subst (EveryTwo R) (reverse-reverse xs) (two_reverse (λ x y. R y x) (reverse xs) w)

-- at places that are named otherwise

pub two_step_at : {A : Type 0} (R : A → A → Type 0) → ((x y z : A) → R x y → R y z → R x z) → (xs : List A) (i k : ℕ) (y z : A) → i ≡ k + 1 → slice_get xs k ≡ Some y
    → slice_get xs i ≡ Some z → R y z → EveryTwo R (take i xs) → EveryTwo R (take (i + 1) xs)
two_step_at R trans xs i k y z e here next r w =
    subst (λ (n : ℕ). EveryTwo R (take (n + 1) xs)) (sym e)
    (two_step R trans xs k y z here (subst (λ (n : ℕ). slice_get xs n ≡ Some z) e next) r (subst (λ (n : ℕ). EveryTwo R (take n xs)) e w))

pub two_neighbours_at : {A : Type 0} (R : A → A → Type 0) (xs : List A) (i k : ℕ) (y z : A) → i ≡ k + 1 → slice_get xs k ≡ Some y → slice_get xs i ≡ Some z
    → EveryTwo R (take (i + 1) xs) → R y z
two_neighbours_at R xs i k y z e here next w =
    two_neighbours R xs k y z here (subst (λ (n : ℕ). slice_get xs n ≡ Some z) e next) (subst (λ (n : ℕ). EveryTwo R (take (n + 1) xs)) e w)
