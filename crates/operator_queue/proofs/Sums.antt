-- Lists over which each sum is the same: they have the same elements, each as often.
use Rattle.std.proofs.Common.{◌≡◌, ◌<◌, ◌≤◌, ◌+◌, ℕ, suc, List, [], ◌∷◌, Bool, true, false, cond, length, get_or, map, refl, sym, ap, ◌∙◌, arith}
use Rattle.std.specs.List.{filter, sum_by, remove}
use Rattle.std.specs.List.Sorted.{IsPermutation, IsNonDecreasing}
use Rattle.std.proofs.lemmas.Bool.{eqb-true, eq-eqb, and_parts, and_from}
use Rattle.std.proofs.Math.Dec.{eqb}
use Rattle.std.specs.Prelude.{◌&&◌}
use Rattle.std.proofs.lemmas.List.Sums.{sum_by-cons, sum_by-remove}
use Rattle.std.proofs.lemmas.List.Sorted.{sum_by-IsPermutation, IsPermutation-refl, IsPermutation-remove, IsPermutation-cons, IsPermutation-trans, IsPermutation-sym}

pub record Same {X : Type 0} (xs ys : List X) : Type 0 where
  pub sums : (f : X → ℕ) → sum_by f xs ≡ sum_by f ys

pub same_from_permutation : {X : Type 0} (xs ys : List X) → IsPermutation xs ys → Same xs ys
same_from_permutation xs ys moved = record { sums = λ f. sym (sum_by-IsPermutation f xs ys moved) }

pub same_back : {X : Type 0} (xs ys : List X) → Same xs ys → Same ys xs
same_back xs ys same = record { sums = λ f. sym (same.sums f) }

pub same_on : {X : Type 0} (xs ys zs : List X) → Same xs ys → Same ys zs → Same xs zs
same_on xs ys zs first then = record { sums = λ f. first.sums f ∙ then.sums f }

ones : {X : Type 0} (xs : List X) → sum_by (λ x. 1) xs ≡ length xs
ones [] = refl
ones {X} (x ∷ xs) = let head = sum_by-cons (λ (y : X). 1) x xs in let rest = ones xs in omega (arith, head, rest)

pub same_length : {X : Type 0} (xs ys : List X) → Same xs ys → length xs ≡ length ys
same_length {X} xs ys same = sym (ones xs) ∙ same.sums (λ (y : X). 1) ∙ ones ys

one_filtered : {X : Type 0} (f : X → ℕ) (x : X) (kept : List X) (b : Bool) → sum_by f (cond b (x ∷ kept) kept) ≡ cond b (f x) 0 + sum_by f kept
one_filtered f x kept true = sum_by-cons f x kept
one_filtered f x kept false = omega arith

filtered : {X : Type 0} (p : X → Bool) (f : X → ℕ) (xs : List X) → sum_by f (filter p xs) ≡ sum_by (λ x. cond (p x) (f x) 0) xs
filtered p f [] = refl
filtered {X} p f (x ∷ xs) =
    one_filtered f x (filter p xs) (p x)
    ∙ ap (λ rest. cond (p x) (f x) 0 + rest) (filtered p f xs)
    ∙ sym (sum_by-cons (λ (y : X). cond (p y) (f y) 0) x xs)

pub same_filtered : {X : Type 0} (p : X → Bool) (xs ys : List X) → Same xs ys → Same (filter p xs) (filter p ys)
same_filtered {X} p xs ys same = record {
  sums = λ f. filtered p f xs ∙ same.sums (λ (x : X). cond (p x) (f x) 0) ∙ sym (filtered p f ys);
}

mapped : {X Y : Type 0} (g : X → Y) (f : Y → ℕ) (xs : List X) → sum_by f (map g xs) ≡ sum_by (λ x. f (g x)) xs
mapped g f [] = refl
mapped {X} g f (x ∷ xs) =
    sum_by-cons f (g x) (map g xs) ∙ ap (λ rest. f (g x) + rest) (mapped g f xs) ∙ sym (sum_by-cons (λ (y : X). f (g y)) x xs)

pub same_mapped : {X Y : Type 0} (g : X → Y) (xs ys : List X) → Same xs ys → Same (map g xs) (map g ys)
same_mapped {X} g xs ys same = record {
  sums = λ f. mapped g f xs ∙ same.sums (λ (x : X). f (g x)) ∙ sym (mapped g f ys);
}

pub same_rest : {X : Type 0} (x : X) (xs ys : List X) → Same (x ∷ xs) (x ∷ ys) → Same xs ys
same_rest x xs ys same = record {
  sums = λ f.
      let left = sum_by-cons f x xs in
      let right = sum_by-cons f x ys in
      let both = same.sums f in
      omega (arith, left, right, both);
}

-- where an element stands
Place : {X : Type 0} → X → List X → Type 0
Place x ys = (k : ℕ) × (k < length ys) × (x ≡ get_or ys k x)

module _ {X : Type 0} (eq : X → X → Bool) (sound : (x y : X) → eq x y ≡ true → x ≡ y) (reflexive : (x : X) → eq x x ≡ true) where
  found_by : (x y : X) (ys : List X) (b : Bool) → eq x y ≡ b → 0 < cond b 1 0 + sum_by (λ z. cond (eq x z) 1 0) ys
      → (0 < sum_by (λ z. cond (eq x z) 1 0) ys → Place x ys) → Place x (y ∷ ys)
  unfolding Place
  found_by x y ys true is some rest = (0, omega arith, sound x y is)
  found_by x y ys false is some rest =
      let r = rest (omega (arith, some)) in
      (suc r.0, omega (arith, r.1), r.2)

  found : (x : X) (ys : List X) → 0 < sum_by (λ z. cond (eq x z) 1 0) ys → Place x ys
  found x [] some = absurd (omega (arith, some))
  found x (y ∷ ys) some =
      let head = sum_by-cons (λ (z : X). cond (eq x z) 1 0) y ys in
      found_by x y ys (eq x y) refl (omega (arith, head, some)) (found x ys)

  in_there : (x : X) (xs ys : List X) → Same (x ∷ xs) ys → Place x ys
  in_there x xs ys same =
      let counted = λ (z : X). cond (eq x z) 1 0 in
      let head = sum_by-cons counted x xs in
      let both = same.sums counted in
      let one : counted x ≡ 1 = ap {B = ℕ} (λ (b : Bool). cond b 1 0) (reflexive x) in
      found x ys (omega (arith, head, both, one))

  permuted : (xs ys : List X) → Same xs ys → IsPermutation xs ys
  unfolding Place
  permuted [] [] same = IsPermutation-refl []
  permuted [] (y ∷ ys) same =
      let head = sum_by-cons (λ (z : X). 1) y ys in
      let both = same.sums (λ (z : X). 1) in
      absurd (omega (arith, head, both))
  permuted (x ∷ xs) ys same =
      let place = in_there x xs ys same in
      let left = remove ys place.0 in
      let rest : Same xs left = record {
        sums = λ f.
            let head = sum_by-cons f x xs in
            let out = sum_by-remove f ys place.0 x place.1 in
            let there = ap f place.2 in
            let both = same.sums f in
            omega (arith, head, out, there, both);
      } in
      let there : IsPermutation ys (x ∷ left) = IsPermutation-remove ys place.0 x place.1 place.2 in
      IsPermutation-trans (x ∷ xs) (x ∷ left) ys (IsPermutation-cons x xs left (permuted xs left rest)) (IsPermutation-sym ys (x ∷ left) there)

pair_eq : ℕ × ℕ → ℕ × ℕ → Bool
pair_eq p q = eqb p.0 q.0 && eqb p.1 q.1

pair_sound : (p q : ℕ × ℕ) → pair_eq p q ≡ true → p ≡ q
unfolding pair_eq
pair_sound p q is =
    let both = and_parts (eqb p.0 q.0) (eqb p.1 q.1) is in
    ap (λ a. (a, p.1)) (eqb-true p.0 q.0 both.0) ∙ ap (λ b. (q.0, b)) (eqb-true p.1 q.1 both.1)

pair_itself : (p : ℕ × ℕ) → pair_eq p p ≡ true
unfolding pair_eq
pair_itself p = and_from (eqb p.0 p.0) (eqb p.1 p.1) (eq-eqb p.0 p.0 refl) (eq-eqb p.1 p.1 refl)

pub permuted_pairs : (xs ys : List (ℕ × ℕ)) → Same xs ys → IsPermutation xs ys
permuted_pairs xs ys same = permuted pair_eq pair_sound pair_itself xs ys same

-- where both have one pair more, and it is the same, they are in each other's order without it
pub permuted_rest : (p : ℕ × ℕ) (xs ys : List (ℕ × ℕ)) → IsPermutation (p ∷ xs) (p ∷ ys) → IsPermutation xs ys
permuted_rest p xs ys moved = permuted_pairs xs ys (same_rest p xs ys (same_from_permutation (p ∷ xs) (p ∷ ys) moved))

-- a list in order whose first number is no greater than another has no lesser number
least : (x y : ℕ) (ys : List ℕ) → IsNonDecreasing (y ∷ ys) → Place x (y ∷ ys) → y ≤ x
unfolding Place
least x y ys rising place =
    let below = rising 0 place.0 x (omega arith) place.1 in
    let is = place.2 in
    omega (arith, below, is)

rest_rises : (x : ℕ) (xs : List ℕ) → IsNonDecreasing (x ∷ xs) → IsNonDecreasing xs
rest_rises x xs rising i j d le within = rising (suc i) (suc j) d (omega (arith, le)) (omega (arith, within))

-- two lists of numbers in order that have the same elements are one
pub one_order : (xs ys : List ℕ) → IsNonDecreasing xs → IsNonDecreasing ys → Same xs ys → xs ≡ ys
one_order [] [] up rise same = refl
one_order [] (y ∷ ys) up rise same =
    let head = sum_by-cons (λ (z : ℕ). 1) y ys in
    let both = same.sums (λ (z : ℕ). 1) in
    absurd (omega (arith, head, both))
one_order (x ∷ xs) [] up rise same =
    let head = sum_by-cons (λ (z : ℕ). 1) x xs in
    let both = same.sums (λ (z : ℕ). 1) in
    absurd (omega (arith, head, both))
one_order (x ∷ xs) (y ∷ ys) up rise same =
    let from_x = in_there eqb eqb-true (λ z. eq-eqb z z refl) x xs (y ∷ ys) same in
    let from_y = in_there eqb eqb-true (λ z. eq-eqb z z refl) y ys (x ∷ xs) (same_back (x ∷ xs) (y ∷ ys) same) in
    let low = least x y ys rise from_x in
    let high = least y x xs up from_y in
    let head : x ≡ y = omega (arith, low, high) in
    let rest : Same xs ys = record {
      sums = λ f.
          let left = sum_by-cons f x xs in
          let right = sum_by-cons f y ys in
          let both = same.sums f in
          let at_head = ap f head in
          omega (arith, left, right, both, at_head);
    } in
    ap (λ z. z ∷ xs) head ∙ ap (λ l. y ∷ l) (one_order xs ys (rest_rises x xs up) (rest_rises y ys rise) rest)
