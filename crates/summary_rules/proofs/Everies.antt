-- What holds of each item of a list, and of each two, after a change of the list.
use Rattle.std.proofs.Common.{ℕ, zero, suc, List, [], ◌∷◌, ◌++◌, map, take, Bool, true, false, cond}
use Rattle.std.specs.List.{filter, flat_map}
use Rattle.summary_rules.specs.Lists.{Every, EveryTwo}

pub every_weaker : {A : Type 0} (P Q : A → Type 0) → ((x : A) → P x → Q x) → (xs : List A) → Every P xs → Every Q xs
every_weaker P Q f [] w = tt
every_weaker P Q f (x ∷ xs) w = (f x w.0, every_weaker P Q f xs w.1)

pub every_append : {A : Type 0} (P : A → Type 0) (xs ys : List A) → Every P xs → Every P ys → Every P (xs ++ ys)
every_append P [] ys v w = w
every_append P (x ∷ xs) ys v w = (v.0, every_append P xs ys v.1 w)

pub every_take : {A : Type 0} (P : A → Type 0) (n : ℕ) (xs : List A) → Every P xs → Every P (take n xs)
every_take P zero xs w = tt
every_take P (suc n) [] w = tt
every_take P (suc n) (x ∷ xs) w = (w.0, every_take P n xs w.1)

pub two_take : {A : Type 0} (R : A → A → Type 0) (n : ℕ) (xs : List A) → EveryTwo R xs → EveryTwo R (take n xs)
two_take R zero xs w = tt
two_take R (suc n) [] w = tt
two_take R (suc n) (x ∷ xs) w = (every_take (R x) n xs w.0, two_take R n xs w.1)

-- each item of a list made by a function
pub every_made : {A B : Type 0} (P : B → Type 0) (f : A → B) → ((x : A) → P (f x)) → (xs : List A) → Every P (map f xs)
every_made P f g [] = tt
every_made P f g (x ∷ xs) = (g x, every_made P f g xs)

pub every_flat : {A B : Type 0} (P : B → Type 0) (f : A → List B) → ((x : A) → Every P (f x)) → (xs : List A) → Every P (flat_map f xs)
every_flat P f g [] = tt
every_flat P f g (x ∷ xs) = every_append P (f x) (flat_map f xs) (g x) (every_flat P f g xs)

pub every_if : {A : Type 0} (P : A → Type 0) (b : Bool) (x : A) (xs : List A) → P x → Every P xs → Every P (cond b (x ∷ xs) xs)
every_if P true x xs p w = (p, w)
every_if P false x xs p w = w

pub every_filter : {A : Type 0} (P : A → Type 0) (test : A → Bool) (xs : List A) → Every P xs → Every P (filter test xs)
every_filter P test [] w = tt
every_filter P test (x ∷ xs) w = every_if P (test x) x (filter test xs) w.0 (every_filter P test xs w.1)

pub every_map : {A B : Type 0} (P : A → Type 0) (Q : B → Type 0) (f : A → B) → ((x : A) → P x → Q (f x)) → (xs : List A) → Every P xs → Every Q (map f xs)
every_map P Q f g [] w = tt
every_map P Q f g (x ∷ xs) w = (g x w.0, every_map P Q f g xs w.1)
