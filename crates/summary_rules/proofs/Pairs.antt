-- What holds of each two of a list after a change of the list.
use Rattle.std.proofs.Common.{List, [], ◌∷◌, ◌++◌, map, Bool, true, false, cond}
use Rattle.std.specs.List.{filter}
use Rattle.summary_rules.specs.Lists.{Every, EveryTwo}
use Rattle.summary_rules.proofs.Everies.{every_weaker, every_append, every_filter}

-- both of two relations
pub every_both : {A : Type 0} (P Q R : A → Type 0) → ((x : A) → P x → Q x → R x) → (xs : List A) → Every P xs → Every Q xs → Every R xs
every_both P Q R f [] v w = tt
every_both P Q R f (x ∷ xs) v w = (f x v.0 w.0, every_both P Q R f xs v.1 w.1)

pub two_both : {A : Type 0} (R S T : A → A → Type 0) → ((x y : A) → R x y → S x y → T x y) → (xs : List A) → EveryTwo R xs → EveryTwo S xs → EveryTwo T xs
two_both R S T f [] v w = tt
two_both R S T f (x ∷ xs) v w = (every_both (R x) (S x) (T x) (f x) xs v.0 w.0, two_both R S T f xs v.1 w.1)

-- what holds of each item holds of each two
paired_with : {A : Type 0} (P : A → Type 0) (R : A → A → Type 0) → ((x y : A) → P x → P y → R x y) → (x : A) → P x → (xs : List A) → Every P xs → Every (R x) xs
paired_with P R f x p [] w = tt
paired_with P R f x p (y ∷ ys) w = (f x y p w.0, paired_with P R f x p ys w.1)

pub two_of : {A : Type 0} (P : A → Type 0) (R : A → A → Type 0) → ((x y : A) → P x → P y → R x y) → (xs : List A) → Every P xs → EveryTwo R xs
two_of P R f [] w = tt
two_of P R f (x ∷ xs) w = (paired_with P R f x w.0 xs w.1, two_of P R f xs w.1)

-- each item changed
mapped_with : {A : Type 0} (R S : A → A → Type 0) (f : A → A) → ((x y : A) → R x y → S (f x) (f y)) → (x : A) (xs : List A) → Every (R x) xs → Every (S (f x)) (map f xs)
mapped_with R S f g x [] w = tt
mapped_with R S f g x (y ∷ ys) w = (g x y w.0, mapped_with R S f g x ys w.1)

pub two_map : {A : Type 0} (R S : A → A → Type 0) (f : A → A) → ((x y : A) → R x y → S (f x) (f y)) → (xs : List A) → EveryTwo R xs → EveryTwo S (map f xs)
two_map R S f g [] w = tt
two_map R S f g (x ∷ xs) w = (mapped_with R S f g x xs w.0, two_map R S f g xs w.1)

unmapped_with : {A : Type 0} (R S : A → A → Type 0) (f : A → A) → ((x y : A) → S (f x) (f y) → R x y) → (x : A) (xs : List A) → Every (S (f x)) (map f xs) → Every (R x) xs
unmapped_with R S f g x [] w = tt
unmapped_with R S f g x (y ∷ ys) w = (g x y w.0, unmapped_with R S f g x ys w.1)

-- and back
pub two_unmap : {A : Type 0} (R S : A → A → Type 0) (f : A → A) → ((x y : A) → S (f x) (f y) → R x y) → (xs : List A) → EveryTwo S (map f xs) → EveryTwo R xs
two_unmap R S f g [] w = tt
two_unmap R S f g (x ∷ xs) w = (unmapped_with R S f g x xs w.0, two_unmap R S f g xs w.1)

-- a weaker relation
pub two_weaker : {A : Type 0} (R S : A → A → Type 0) → ((x y : A) → R x y → S x y) → (xs : List A) → EveryTwo R xs → EveryTwo S xs
two_weaker R S f [] w = tt
two_weaker R S f (x ∷ xs) w = (every_weaker (R x) (S x) (f x) xs w.0, two_weaker R S f xs w.1)

-- some left out
two_if : {A : Type 0} (R : A → A → Type 0) (b : Bool) (x : A) (xs : List A) → Every (R x) xs → EveryTwo R xs → EveryTwo R (cond b (x ∷ xs) xs)
two_if R true x xs v w = (v, w)
two_if R false x xs v w = w

pub two_filter : {A : Type 0} (R : A → A → Type 0) (test : A → Bool) (xs : List A) → EveryTwo R xs → EveryTwo R (filter test xs)
two_filter R test [] w = tt
two_filter R test (x ∷ xs) w = two_if R (test x) x (filter test xs) (every_filter (R x) test xs w.0) (two_filter R test xs w.1)

-- one more at the end
pub two_more : {A : Type 0} (R : A → A → Type 0) (xs : List A) (y : A) → EveryTwo R xs → Every (λ x. R x y) xs → EveryTwo R (xs ++ y ∷ [])
two_more R [] y w v = (tt, tt)
two_more R (x ∷ xs) y w v = (every_append (R x) xs (y ∷ []) w.0 (v.0, tt), two_more R xs y w.1 v.1)
