-- Of the same accounts there is one order.
use Rattle.std.proofs.Common.{◌≡◌, ℕ, List, [], ◌∷◌, Bool, true, false, refl, sym, ap, ◌∙◌, subst}
use Rattle.std.specs.Prelude.{◌||◌}
use Rattle.std.specs.declared.cmp.Ordering.{Ordering}
use Rattle.std.specs.declared.cmp.Ordering.TheVariants.{Less, Equal, Greater}
use Rattle.std.specs.Cmp.Lexicographic.{slice_cmp}
use Rattle.std.specs.List.{list_any}
use Rattle.std.specs.Ordering.{nat_cmp, is_lt, ordering_reverse}
use Rattle.std.specs.Str.{bytes_eq}
use Rattle.std.proofs.lemmas.Bool.{false≢true}
use Rattle.std.proofs.lemmas.Cmp.{nat_list_cmp_total}
use Rattle.std.proofs.lemmas.Slice.Eq.{bytes_eq-Decides}
use Rattle.centre_rules.specs.Sums.{AscendByBytes}

abbrev before : List ℕ → List ℕ → Bool
before a b = is_lt (slice_cmp nat_cmp a b)

abbrev among : List ℕ → List (List ℕ) → Bool
among a xs = list_any (λ x. bytes_eq x a) xs

less : (o : Ordering) → is_lt o ≡ true → o ≡ Less
less Less e = refl
less Equal e = absurd (false≢true e)
less Greater e = absurd (false≢true e)

before_both : (a b c : List ℕ) → before a b ≡ true → before b c ≡ true → before a c ≡ true
before_both a b c p q = ap is_lt (nat_list_cmp_total.trans a b c (less (slice_cmp nat_cmp a b) p) (less (slice_cmp nat_cmp b c) q))

self_not : (o : Ordering) → o ≡ ordering_reverse o → is_lt o ≡ false
self_not Less e = ap is_lt e
self_not Equal e = refl
self_not Greater e = refl

-- none stands before itself
not_self : (a : List ℕ) → before a a ≡ true → ⊥
not_self a p = false≢true (sym (self_not (slice_cmp nat_cmp a a) (nat_list_cmp_total.antisymm a a)) ∙ p)

equal_self : (a : List ℕ) → bytes_eq a a ≡ true
equal_self a = (bytes_eq-Decides a a).1 refl

ascend_tail : (x : List ℕ) (xs : List (List ℕ)) → AscendByBytes (x ∷ xs) → AscendByBytes xs
ascend_tail x [] up = tt
ascend_tail x (y ∷ xs) up = up.1

or_cases : (b c : Bool) (P : Type 0) → (b || c) ≡ true → (b ≡ true → P) → (c ≡ true → P) → P
or_cases true c P e f g = f refl
or_cases false c P e f g = g e

-- the first stands before each of the others
first_before : (x : List ℕ) (xs : List (List ℕ)) (a : List ℕ) → AscendByBytes (x ∷ xs) → among a xs ≡ true → before x a ≡ true
first_before x [] a up there = absurd (false≢true there)
first_before x (y ∷ xs) a up there =
    or_cases (bytes_eq y a) (among a xs) (before x a ≡ true) there
    (λ is. subst (λ (z : List ℕ). before x z ≡ true) ((bytes_eq-Decides y a).0 is) up.0)
    (λ later. before_both x y a up.0 (first_before y xs a up.1 later))

not_later : (x : List ℕ) (xs : List (List ℕ)) → AscendByBytes (x ∷ xs) → among x xs ≡ false
not_later x xs up = no (among x xs) refl
  where
    no : (b : Bool) → among x xs ≡ b → b ≡ false
    no true e = absurd (not_self x (first_before x xs x up e))
    no false e = refl

here : (x : List ℕ) (xs : List (List ℕ)) → among x (x ∷ xs) ≡ true
here x xs = ap (λ b. b || among x xs) (equal_self x)

-- both begin with the same
heads : (x y : List ℕ) (xs ys : List (List ℕ)) → AscendByBytes (x ∷ xs) → AscendByBytes (y ∷ ys) → ((a : List ℕ) → among a (x ∷ xs) ≡ among a (y ∷ ys)) → x ≡ y
heads x y xs ys up vp same =
    or_cases (bytes_eq y x) (among x ys) (x ≡ y) (sym (same x) ∙ here x xs) (λ is. sym ((bytes_eq-Decides y x).0 is))
    (λ later. or_cases (bytes_eq x y) (among y xs) (x ≡ y) (same y ∙ here y ys) (λ is. (bytes_eq-Decides x y).0 is)
    (λ after. absurd (not_self x (before_both x y x (first_before x xs y up after) (first_before y ys x vp later)))))

rest_if : (x a : List ℕ) (xs ys : List (List ℕ)) (b : Bool) → bytes_eq x a ≡ b → AscendByBytes (x ∷ xs) → AscendByBytes (x ∷ ys) → (b || among a xs) ≡ (b || among a ys) → among a xs ≡ among a ys
rest_if x a xs ys true is up vp e =
    let same : x ≡ a = (bytes_eq-Decides x a).0 is in
    subst (λ (z : List ℕ). among z xs ≡ among z ys) same (not_later x xs up ∙ sym (not_later x ys vp))
rest_if x a xs ys false is up vp e = e

pub one_order : (xs ys : List (List ℕ)) → AscendByBytes xs → AscendByBytes ys → ((a : List ℕ) → among a xs ≡ among a ys) → xs ≡ ys
one_order [] [] up vp same = refl
one_order [] (y ∷ ys) up vp same = absurd (false≢true (same y ∙ here y ys))
one_order (x ∷ xs) [] up vp same = absurd (false≢true (sym (same x) ∙ here x xs))
one_order (x ∷ xs) (y ∷ ys) up vp same =
    let first : x ≡ y = heads x y xs ys up vp same in
    let wp : AscendByBytes (x ∷ ys) = subst (λ (z : List ℕ). AscendByBytes (z ∷ ys)) (sym first) vp in
    let alike : (a : List ℕ) → among a (x ∷ xs) ≡ among a (x ∷ ys) = λ a. same a ∙ ap (λ (z : List ℕ). among a (z ∷ ys)) (sym first) in
    let rest : xs ≡ ys = one_order xs ys (ascend_tail x xs up) (ascend_tail x ys wp) (λ a. rest_if x a xs ys (bytes_eq x a) refl up wp (alike a)) in
    λ i. first i ∷ rest i
