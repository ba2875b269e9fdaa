-- A change of the one thing of a map that has a name.
use Rattle.std.proofs.Common.{◌≡◌, ℕ, zero, suc, List, [], ◌∷◌, Bool, true, false, Some, Result, Ok, Err, map, set, slice_get, refl, sym, ap, ◌∙◌}
use Rattle.std.specs.Prelude.{if◌then◌else◌, IfSome, OnOk}
use Rattle.std.specs.Bool.{OnTrue}
use Rattle.std.specs.List.{AllByRecursion, IsDistinct}
use Rattle.std.specs.Map.{keys_of, values_of}
use Rattle.std.specs.Str.{bytes_eq}
use Rattle.std.proofs.lemmas.Bool.{cond-true, cond-false, false_from_ne_true, both_ways}
use Rattle.std.proofs.lemmas.Slice.Eq.{bytes_eq-Decides}
use Rattle.indexmap.specs.IndexMap.{set_value_at}
use Rattle.accounts.specs.Keyed.{keyed, IsKeyed}

pub bytes_eq-same : (a : List ℕ) → bytes_eq a a ≡ true
bytes_eq-same a = (bytes_eq-Decides a a).1 refl

pub bytes_eq-other : (a b : List ℕ) → bytes_eq a b ≡ false → bytes_eq b a ≡ false
bytes_eq-other a b other =
    false_from_ne_true (bytes_eq b a) (λ same. both_ways (bytes_eq a b) other ((bytes_eq-Decides a b).1 (sym ((bytes_eq-Decides b a).0 same))))

-- Writes by place.

module _ {A : Type 0} where
  keys-set : (entries : List (List ℕ × A)) (i : ℕ) (w : A) → keys_of (set_value_at entries i w) ≡ keys_of entries
  keys-set [] i w = refl
  keys-set (e ∷ es) zero w = refl
  keys-set (e ∷ es) (suc i) w = ap (λ keys. e.0 ∷ keys) (keys-set es i w)

  pub values-set : (entries : List (List ℕ × A)) (i : ℕ) (w : A) → values_of (set_value_at entries i w) ≡ set (values_of entries) i w
  values-set [] i w = refl
  values-set (e ∷ es) zero w = refl
  values-set (e ∷ es) (suc i) w = ap (λ values. e.1 ∷ values) (values-set es i w)

  set-keyed : (name : A → List ℕ) (xs : List A) (i : ℕ) (x w : A) → slice_get xs i ≡ Some x → name w ≡ name x
      → set_value_at (map (keyed name) xs) i w ≡ map (keyed name) (set xs i w)
  set-keyed name [] i x w at same = refl
  set-keyed name (y ∷ ys) zero x w at same =
      let here : y ≡ x = cc in
      let names : name y ≡ name w = ap name here ∙ sym same in
      ap (λ n. (n, w) ∷ map (keyed name) ys) names
  set-keyed name (y ∷ ys) (suc i) x w at same = ap (λ es. keyed name y ∷ es) (set-keyed name ys i x w at same)

  -- a write that keeps the name
  pub keyed-set : (name : A → List ℕ) (entries : List (List ℕ × A)) (i : ℕ) (x w : A) → IsKeyed name entries → slice_get (values_of entries) i ≡ Some x → name w ≡ name x
      → IsKeyed name (set_value_at entries i w)
  keyed-set name entries i x w is at same = record {
    named =
        ap (λ es. set_value_at es i w) is.named ∙ set-keyed name (values_of entries) i x w at same
        ∙ sym (ap (λ xs. map (keyed name) xs) (values-set entries i w));
    distinct = rw (keys-set entries i w) is.distinct;
  }

-- Such a write of a changed thing changes the one thing of its name.

module _ {A : Type 0} (name : A → List ℕ) (change : A → A) where
  abbrev changed_one : List ℕ → A → A
  changed_one sought x = if bytes_eq (name x) sought then change x else x

  unchanged : (sought : List ℕ) (xs : List A) → AllByRecursion (λ k. bytes_eq sought k ≡ false) (map name xs) → map (changed_one sought) xs ≡ xs
  unchanged sought [] none = refl
  unchanged sought (x ∷ xs) none =
      let same = cond-false (bytes_eq (name x) sought) (change x) x (bytes_eq-other sought (name x) none.0) in
      λ i. same i ∷ unchanged sought xs none.1 i

  among : (sought : List ℕ) (xs : List A) (i : ℕ) (x : A) → AllByRecursion (λ k. bytes_eq sought k ≡ false) (map name xs) → slice_get xs i ≡ Some x
      → bytes_eq sought (name x) ≡ false
  among sought [] i x none at = cc
  among sought (y ∷ ys) zero x none at = let same : y ≡ x = cc in rw (← same) none.0
  among sought (y ∷ ys) (suc i) x none at = among sought ys i x none.1 at

  set-changed : (xs : List A) (i : ℕ) (x : A) → IsDistinct bytes_eq (map name xs) → slice_get xs i ≡ Some x → set xs i (change x) ≡ map (changed_one (name x)) xs
  unfolding IsDistinct
  set-changed [] i x distinct at = cc
  set-changed (y ∷ ys) zero x distinct at =
      let same : y ≡ x = cc in
      let here = cond-true (bytes_eq (name y) (name x)) (change y) y (ap (λ z. bytes_eq (name y) (name z)) (sym same) ∙ bytes_eq-same (name y)) in
      let rest = unchanged (name x) ys (rw same at distinct.0) in
      ap (λ z. change z ∷ ys) (sym same) ∙ sym (λ j. here j ∷ rest j)
  set-changed (y ∷ ys) (suc i) x distinct at =
      let apart = among (name y) ys i x distinct.0 at in
      let here = cond-false (bytes_eq (name y) (name x)) (change y) y apart in
      ap (λ zs. y ∷ zs) (set-changed ys i x distinct.1 at) ∙ ap (λ z. z ∷ map (changed_one (name x)) ys) (sym here)

  keys-keyed : (xs : List A) → keys_of (map (keyed name) xs) ≡ map name xs
  keys-keyed [] = refl
  keys-keyed (x ∷ xs) = ap (λ keys. name x ∷ keys) (keys-keyed xs)

  pub values-changed : (entries : List (List ℕ × A)) (i : ℕ) (x : A) → IsKeyed name entries → slice_get (values_of entries) i ≡ Some x
      → values_of (set_value_at entries i (change x)) ≡ map (λ y. if bytes_eq (name y) (name x) then change y else y) (values_of entries)
  values-changed entries i x is at =
      let names : keys_of entries ≡ map name (values_of entries) = ap keys_of is.named ∙ keys-keyed (values_of entries) in
      values-set entries i (change x) ∙ set-changed (values_of entries) i x (rw names at is.distinct) at

-- What a write left, where it changed the thing that was found there.
module _ {A : Type 0} (name : A → List ℕ) (change : A → A) (entries : List (List ℕ × A)) (xs : List A) (i : ℕ) (x w : A)
    (is : IsKeyed name entries) (values : values_of entries ≡ xs) (at : slice_get (values_of entries) i ≡ Some x) where
  -- the things after it, and the thing before it
  abbrev pub WroteAt : Type 0
  WroteAt = IfSome (slice_get xs i) (λ y. values_of (set_value_at entries i w) ≡ map (λ z. if bytes_eq (name z) (name y) then change z else z) xs)

  wrote-changed : w ≡ change x → WroteAt
  wrote-changed same =
      rw (sym (ap (λ ys. slice_get ys i) values) ∙ at)
      (ap (λ v. values_of (set_value_at entries i v)) same ∙ values-changed name change entries i x is at
      ∙ ap (λ ys. map (λ z. if bytes_eq (name z) (name x) then change z else z) ys) values)

  pub wrote-where-true : (b : Bool) → OnTrue b (w ≡ change x) → OnTrue b WroteAt
  wrote-where-true true same = wrote-changed same
  wrote-where-true false same = tt

  pub wrote-where-ok : {T E : Type 0} (r : Result T E) → OnOk r (w ≡ change x) → OnOk r WroteAt
  wrote-where-ok (Ok t) same = wrote-changed same
  wrote-where-ok (Err e) same = tt
