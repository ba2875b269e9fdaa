-- Two functions of numbers that give the same list of their first values agree on each of these. A table is compared so by
-- computation.
use Rattle.std.proofs.Common.{◌≡◌, ℕ, suc, ◌<◌, List, [], ◌∷◌, arith, inl, inr, subst}
use Rattle.std.proofs.lemmas.Bool.{cases_lt}
use Prim.Native.Nat.{zero}

-- the values below a limit, the last first
abbrev pub values_below : {A : Type 0} → (ℕ → A) → ℕ → List A
values_below f zero = []
values_below f (suc limit) = f limit ∷ values_below f limit

first_is : {A : Type 0} (x y : A) (xs ys : List A) → x ∷ xs ≡ y ∷ ys → x ≡ y
first_is x y xs ys e = cc

rest_is : {A : Type 0} (x y : A) (xs ys : List A) → x ∷ xs ≡ y ∷ ys → xs ≡ ys
rest_is x y xs ys e = cc

pub agree_below : {A : Type 0} (f g : ℕ → A) (limit n : ℕ) → values_below f limit ≡ values_below g limit → n < limit → f n ≡ g n
agree_below f g zero n all lt = absurd (omega arith)
agree_below {A} f g (suc limit) n all lt = elim (cases_lt n limit) [
  | inl less ↦ agree_below f g limit n (rest_is (f limit) (g limit) (values_below f limit) (values_below g limit) all) less
  | inr more ↦ let same : limit ≡ n = omega arith in let P : ℕ → Type 0 = λ m. f m ≡ g m in subst P same (first_is (f limit) (g limit) (values_below f limit) (values_below g limit) all)
]
