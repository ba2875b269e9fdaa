-- Accounts of which none stands twice, put in order: each stands before the next.
use Rattle.std.proofs.Common.{◌≡◌, ◌≤◌, ◌+◌, ◌<◌, ℕ, zero, suc, List, [], ◌∷◌, length, Bool, true, false, cond, refl, sym, ap, ◌∙◌, arith, subst, get_or, add-one}
use Rattle.std.specs.declared.cmp.Ordering.{Ordering}
use Rattle.std.specs.declared.cmp.Ordering.TheVariants.{Less, Equal, Greater}
use Rattle.std.specs.Cmp.{unsigned_ties}
use Rattle.std.specs.Cmp.Lexicographic.{slice_cmp, lists_ties}
use Rattle.std.specs.List.{AllByRecursion, IsDistinct, count_by}
use Rattle.std.specs.List.Sorted.{IsPermutation, IsSortedBy}
use Rattle.std.specs.Ordering.{nat_cmp, is_lt, is_eq, ordering_reverse}
use Rattle.std.specs.Str.{bytes_eq}
use Rattle.std.proofs.lemmas.Bool.{false≢true}
use Rattle.std.proofs.lemmas.Cmp.{nat_list_cmp_total}
use Rattle.std.proofs.lemmas.List.Sorted.{sum_by-IsPermutation}
use Rattle.std.proofs.lemmas.List.Sums.{sum_by-cons}
use Rattle.std.proofs.lemmas.Map.Keys.{IsDistinct-head, IsDistinct-tail}
use Rattle.std.proofs.lemmas.Slice.Eq.{bytes_eq-Decides}
use Rattle.centre_rules.specs.Sums.{AscendByBytes}
use Rattle.known_accounts.proofs.Found.{equal_both}

-- the first account stands before the other
abbrev pub before : List ℕ → List ℕ → Bool
before a b = is_lt (slice_cmp nat_cmp a b)

turned : (o r : Ordering) → r ≡ ordering_reverse o → is_lt r ≡ false → is_eq o ≡ false → is_lt o ≡ true
turned Less r e lt eq = refl
turned Equal r e lt eq = absurd (false≢true (sym eq))
turned Greater r e lt eq = absurd (false≢true (sym lt ∙ ap is_lt e))

-- of two that are not equal, and the second of which stands not before the first, the first stands before the second
behind : (a b : List ℕ) → before b a ≡ false → bytes_eq a b ≡ false → before a b ≡ true
behind a b lt apart =
    turned (slice_cmp nat_cmp a b) (slice_cmp nat_cmp b a) (nat_list_cmp_total.antisymm b a) lt (sym (lists_ties nat_cmp unsigned_ties a b) ∙ apart)

-- How often an account stands there.

abbrev one_if : Bool → ℕ
one_if b = cond b 1 0

abbrev times : List ℕ → List (List ℕ) → ℕ
times a xs = count_by (λ x. bytes_eq x a) xs

times_more : (a x : List ℕ) (xs : List (List ℕ)) → times a (x ∷ xs) ≡ cond (bytes_eq x a) 1 0 + times a xs
times_more a x xs = sum_by-cons (λ y. cond (bytes_eq y a) 1 0) x xs

none_times : (a : List ℕ) (xs : List (List ℕ)) → AllByRecursion (λ y. bytes_eq a y ≡ false) xs → times a xs ≡ 0
none_times a [] all = refl
none_times a (x ∷ xs) all =
    let zero : one_if (bytes_eq x a) ≡ 0 = ap one_if (equal_both x a ∙ all.0) in
    omega (arith, times_more a x xs, zero, none_times a xs all.1)

once_if : (a x : List ℕ) (xs : List (List ℕ)) (b : Bool) → bytes_eq x a ≡ b → AllByRecursion (λ y. bytes_eq x y ≡ false) xs → times a xs ≤ 1 → cond b 1 0 + times a xs ≤ 1
once_if a x xs true is all rest = omega (arith, none_times a xs (subst (λ (z : List ℕ). AllByRecursion (λ y. bytes_eq z y ≡ false) xs) ((bytes_eq-Decides x a).0 is) all))
once_if a x xs false is all rest = omega (arith, rest)

-- where none stands twice, each stands there at most once
once : (a : List ℕ) (xs : List (List ℕ)) → IsDistinct bytes_eq xs → times a xs ≤ 1
once a [] distinct = omega arith
once a (x ∷ xs) distinct =
    let rest = once_if a x xs (bytes_eq x a) refl (IsDistinct-head bytes_eq x xs distinct) (once a xs (IsDistinct-tail bytes_eq x xs distinct)) in
    omega (arith, times_more a x xs, rest)

equal_self : (a : List ℕ) → bytes_eq a a ≡ true
equal_self a = (bytes_eq-Decides a a).1 refl

-- two neighbours differ
apart_if : (a b : List ℕ) (xs : List (List ℕ)) (t : Bool) → bytes_eq b a ≡ t → cond (bytes_eq a a) 1 0 + (cond t 1 0 + times a xs) ≤ 1 → t ≡ false
apart_if a b xs true is le = let itself : one_if (bytes_eq a a) ≡ 1 = ap one_if (equal_self a) in absurd (omega (arith, itself, le))
apart_if a b xs false is le = refl

apart : (a b : List ℕ) (xs : List (List ℕ)) → times a (a ∷ b ∷ xs) ≤ 1 → bytes_eq a b ≡ false
apart a b xs le =
    equal_both a b ∙ apart_if a b xs (bytes_eq b a) refl (omega (arith, times_more a a (b ∷ xs), times_more a b xs, le))

fewer : (a x : List ℕ) (xs : List (List ℕ)) → times a (x ∷ xs) ≤ 1 → times a xs ≤ 1
fewer a x xs le = omega (arith, times_more a x xs, le)

rises : (xs : List (List ℕ)) → ((a : List ℕ) → times a xs ≤ 1) → ((k : ℕ) (d : List ℕ) → suc k < length xs → before (get_or xs (suc k) d) (get_or xs k d) ≡ false) → AscendByBytes xs
rises [] few up = tt
rises (a ∷ []) few up = tt
rises (a ∷ b ∷ xs) few up = (
  behind a b (up 0 a (omega arith)) (apart a b xs (few a)),
  rises (b ∷ xs) (λ x. fewer x a (b ∷ xs) (few x)) (λ k d lt. up (suc k) d (omega (arith, lt))),
)

-- a list in which none stands twice, in order
pub in_order_of : (xs ys : List (List ℕ)) → IsDistinct bytes_eq xs → IsPermutation xs ys → IsSortedBy before ys → AscendByBytes ys
in_order_of xs ys distinct same up =
    rises ys (λ a. subst (λ n. n ≤ 1) (sym (sum_by-IsPermutation (λ x. cond (bytes_eq x a) 1 0) xs ys same)) (once a xs distinct))
    (λ k d lt. subst (λ n. before (get_or ys n d) (get_or ys k d) ≡ false) (add-one k) (up k d (omega arith) (omega (arith, lt))))
