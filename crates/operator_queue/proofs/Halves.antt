-- A search by halves among pairs in order, and how many comparisons it takes.
use Rattle.std.proofs.Common.{◌≡◌, ◌≤◌, ◌<◌, ◌+◌, ◌-◌, ◌*◌, ◌/◌, ◌^◌, ℕ, zero, suc, List, [], ◌∷◌, length, take, drop, slice_get, slice_index_or, false, Some, sym, ap, ◌∙◌, subst, arith}
use Rattle.std.specs.List.{AllByRecursion}
use Rattle.std.specs.Ordering.{is_gt}
use Rattle.std.specs.declared.cmp.Ordering.TheVariants.{Less, Equal, Greater}
use Rattle.std.proofs.lemmas.Option.{slice_get-get_or, get_or_from_slice_get}
use Rattle.std.proofs.Math.Nat.{mul-le-mul_left, mul_assoc, mul_left_comm, pow-succ'}
use Rattle.arc_text.specs.Comparisons.{order_of, TakesFew}
use Rattle.operator_queue.specs.Pairs.{IsBeforeAll, IsOrdered}
use Rattle.operator_queue.proofs.Orders.{below, above, equal}

-- what is left to look at stands from low up to high, and its length halves with each comparison
pub record Narrowed (pair : ℕ × ℕ) (pairs : List (ℕ × ℕ)) (low high before now : ℕ) : Type 0 where
  pub rise : low ≤ high
  pub within : high ≤ length pairs
  pub below : AllByRecursion (λ p. order_of p pair ≡ Less) (take low pairs)
  pub above : AllByRecursion (λ p. order_of p pair ≡ Greater) (drop high pairs)
  pub kept : before ≤ now
  pub left : 2 ^ (now - before) * (high - low) ≤ length pairs
  pub few : 2 ^ (now - before) ≤ 2 * length pairs + 1

-- P holds of an element of which a list says so
pub one_of : (P : ℕ × ℕ → Type 0) (k : ℕ) (ps : List (ℕ × ℕ)) (p : ℕ × ℕ) → AllByRecursion P ps → slice_get ps k ≡ Some p → P p
one_of P k [] p all is = absurd (cc)
one_of P zero (x ∷ ps) p all is = let same : x ≡ p = cc in subst P same all.0
one_of P (suc k) (x ∷ ps) p all is = one_of P k ps p all.1 is

-- what stands no later than a pair that is less is less
pub below_here : (w : ℕ × ℕ) (k : ℕ) (ps : List (ℕ × ℕ)) (p : ℕ × ℕ) → IsOrdered ps → slice_get ps k ≡ Some p → order_of p w ≡ Less
    → AllByRecursion (λ q. order_of q w ≡ Less) (take (suc k) ps)
below_here w k [] p ordered is less = absurd (cc)
below_here w zero (x ∷ ps) p ordered is less = let same : p ≡ x = cc in (ap (λ q. order_of q w) (sym same) ∙ less, tt)
below_here w (suc k) (x ∷ ps) p ordered is less =
    (below x p w (one_of (λ q. is_gt (order_of x q) ≡ false) k ps p ordered.0 is) less, below_here w k ps p ordered.1 is less)

all_above : (w p : ℕ × ℕ) (ps : List (ℕ × ℕ)) → IsBeforeAll p ps → order_of p w ≡ Greater → AllByRecursion (λ q. order_of q w ≡ Greater) ps
all_above w p [] before greater = tt
all_above w p (x ∷ ps) before greater = (above p x w before.0 greater, all_above w p ps before.1 greater)

-- what stands no earlier than a pair that is greater is greater
pub above_here : (w : ℕ × ℕ) (k : ℕ) (ps : List (ℕ × ℕ)) (p : ℕ × ℕ) → IsOrdered ps → slice_get ps k ≡ Some p → order_of p w ≡ Greater
    → AllByRecursion (λ q. order_of q w ≡ Greater) (drop k ps)
above_here w k [] p ordered is greater = absurd (cc)
above_here w zero (x ∷ ps) p ordered is greater =
    let same : p ≡ x = cc in
    let here : order_of x w ≡ Greater = ap (λ q. order_of q w) (sym same) ∙ greater in
    (here, all_above w x ps ordered.0 here)
above_here w (suc k) (x ∷ ps) p ordered is greater = above_here w k ps p ordered.1 is greater

-- with half as much left, twice as many are no more
halved : (x n wide narrow : ℕ) → x * wide ≤ n → narrow + narrow ≤ wide → (2 * x) * narrow ≤ n
halved x n wide narrow le half =
    let two : 2 * narrow ≡ narrow + narrow = omega arith in
    let twice : (2 * x) * narrow ≡ x * (narrow + narrow) = mul_assoc 2 x narrow ∙ mul_left_comm 2 x narrow ∙ ap (λ k. x * k) two in
    let less : x * (narrow + narrow) ≤ x * wide = mul-le-mul_left x half in
    omega (arith, twice, less, le)

doubled : (x n wide : ℕ) → x * wide ≤ n → 0 < wide → 2 * x ≤ 2 * n + 1
doubled x n wide le some =
    let less : x * 1 ≤ x * wide = mul-le-mul_left x (omega (arith, some)) in
    omega (arith, less, le)

-- one comparison more, and at most half of what was left
pub step : (before now n wide narrow : ℕ) → before ≤ now → 2 ^ (now - before) * wide ≤ n → 0 < wide → narrow + narrow ≤ wide
    → (2 ^ (now + 1 - before) * narrow ≤ n) × (2 ^ (now + 1 - before) ≤ 2 * n + 1)
step before now n wide narrow kept left some half =
    let x = 2 ^ (now - before) in
    let more : now + 1 - before ≡ suc (now - before) = omega (arith, kept) in
    let power : 2 ^ (now + 1 - before) ≡ 2 * x = ap (λ k. 2 ^ k) more ∙ pow-succ' 2 (now - before) in
    (subst (λ y. y * narrow ≤ n) (sym power) (halved x n wide narrow left half), subst (λ y. y ≤ 2 * n + 1) (sym power) (doubled x n wide left some))

there : (ps : List (ℕ × ℕ)) (place : ℕ) → place < length ps → slice_get ps place ≡ Some (slice_index_or ps place (0, 0))
there ps place within = slice_get-get_or ps place (0, 0) within

-- the pair that was looked at is that of the middle
pub looked_at : (w : ℕ × ℕ) (ps : List (ℕ × ℕ)) (low high before now : ℕ) (p : ℕ × ℕ) → Narrowed w ps low high before now → low < high
    → p ≡ slice_index_or ps (low + (high - low) / 2) p → slice_index_or ps (low + (high - low) / 2) (0, 0) ≡ p
looked_at w ps low high before now p is some same =
    let mid = low + (high - low) / 2 in
    let within : mid < length ps = omega (arith, some, is.within) in
    get_or_from_slice_get ps mid p (0, 0) (slice_get-get_or ps mid p within ∙ ap (λ q. Some q) (sym same))

-- the pair in the middle is less: what is left begins behind it
pub on_less : (w : ℕ × ℕ) (ps : List (ℕ × ℕ)) (low high before now : ℕ) → Narrowed w ps low high before now → IsOrdered ps → low < high
    → order_of (slice_index_or ps (low + (high - low) / 2) (0, 0)) w ≡ Less → Narrowed w ps (low + (high - low) / 2 + 1) high before (now + 1)
on_less w ps low high before now is ordered some less =
    let mid = low + (high - low) / 2 in
    let within : mid < length ps = omega (arith, some, is.within) in
    let behind : mid + 1 ≡ suc mid = omega arith in
    let wide : 0 < high - low = omega (arith, some) in
    let half : (high - (mid + 1)) + (high - (mid + 1)) ≤ high - low = omega (arith, some) in
    let cost = step before now (length ps) (high - low) (high - (mid + 1)) is.kept is.left wide half in
    record {
      rise = omega (arith, some);
      within = is.within;
      below = subst (λ k. AllByRecursion (λ p. order_of p w ≡ Less) (take k ps)) (sym behind)
          (below_here w mid ps (slice_index_or ps mid (0, 0)) ordered (there ps mid within) less);
      above = is.above;
      kept = omega (arith, is.kept);
      left = cost.0;
      few = cost.1;
    }

-- it is greater: what is left ends before it
pub on_greater : (w : ℕ × ℕ) (ps : List (ℕ × ℕ)) (low high before now : ℕ) → Narrowed w ps low high before now → IsOrdered ps → low < high
    → order_of (slice_index_or ps (low + (high - low) / 2) (0, 0)) w ≡ Greater → Narrowed w ps low (low + (high - low) / 2) before (now + 1)
on_greater w ps low high before now is ordered some greater =
    let mid = low + (high - low) / 2 in
    let within : mid < length ps = omega (arith, some, is.within) in
    let wide : 0 < high - low = omega (arith, some) in
    let half : (mid - low) + (mid - low) ≤ high - low = omega (arith, some) in
    let cost = step before now (length ps) (high - low) (mid - low) is.kept is.left wide half in
    record {
      rise = omega arith;
      within = omega (arith, within);
      below = is.below;
      above = above_here w mid ps (slice_index_or ps mid (0, 0)) ordered (there ps mid within) greater;
      kept = omega (arith, is.kept);
      left = cost.0;
      few = cost.1;
    }

-- it is equal
pub on_equal : (w : ℕ × ℕ) (ps : List (ℕ × ℕ)) (low high before now : ℕ) → Narrowed w ps low high before now → low < high
    → order_of (slice_index_or ps (low + (high - low) / 2) (0, 0)) w ≡ Equal → slice_get ps (low + (high - low) / 2) ≡ Some w
on_equal w ps low high before now is some same =
    let mid = low + (high - low) / 2 in
    let within : mid < length ps = omega (arith, some, is.within) in
    there ps mid within ∙ ap (λ p. Some p) (equal (slice_index_or ps mid (0, 0)) w same)

pub last_step : (w : ℕ × ℕ) (ps : List (ℕ × ℕ)) (low high before now : ℕ) → Narrowed w ps low high before now → low < high
    → TakesFew (length ps) before (now + 1)
last_step w ps low high before now is some =
    let cost = step before now (length ps) (high - low) 0 is.kept is.left (omega (arith, some)) (omega arith) in
    record { kept = omega (arith, is.kept); few = cost.1 }
