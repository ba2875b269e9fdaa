-- The first of the sorted pairs are those whose deadline is passed, and their places in order are the places that are due.
use Rattle.std.proofs.Common.{◌≡◌, ◌<◌, ◌≤◌, ◌+◌, ℕ, zero, suc, List, [], ◌∷◌, Bool, true, false, cond, length, map, take, drop, get_or, nat_lt, ◌++◌, slice_get, refl, sym, ap, ◌∙◌, subst, arith, append-nil}
use Rattle.std.proofs.lemmas.List.{length-map}
use Rattle.std.specs.Prelude.{Option, None, Some}
use Rattle.std.specs.List.{cons_option, filter, filter_map, range_with_len}
use Rattle.std.specs.List.Sorted.{IsPermutation, IsNonDecreasing, IsSorted}
use Rattle.std.specs.Ordering.{MatchOrdering, is_gt, is_lt, nat_cmp, ordering_then}
use Rattle.std.specs.declared.cmp.Ordering.{Ordering}
use Rattle.std.specs.declared.cmp.Ordering.TheVariants.{Less, Equal, Greater}
use Rattle.std.specs.Cmp.{ranks}
use Rattle.std.proofs.lemmas.Bool.{lt-ltb, le-ltb, ltb-false}
use Rattle.std.proofs.lemmas.Option.{slice_get_within}
use Rattle.std.proofs.lemmas.List.FromFn.{get_or-range_with_len, length-range_with_len}
use Rattle.std.proofs.lemmas.List.Kept.{IsNonDecreasingBy-filter}
use Rattle.std.proofs.lemmas.List.Sorted.{IsNonDecreasingBy-from_sort}
use Rattle.arc_text.specs.Comparisons.{order_of}
use Rattle.operator_queue.specs.Pairs.{IsBeforeAll, IsOrdered}
use Rattle.supervision.specs.Deadlines.{is_past, pair_of, pairs_of, places, due_at, TakesOneMore}
use Rattle.operator_queue.proofs.Sums.{Same, same_from_permutation, same_back, same_on, same_length, same_filtered, same_mapped, one_order}

-- whether a pair's deadline is passed
abbrev pub passed : ℕ → ℕ × ℕ → Bool
passed at p = nat_lt p.0 at

-- a pair comes before the first that there may be of a moment where its deadline is passed
before_by : (a at place : ℕ) (o t : Ordering) → MatchOrdering o (a < at) (a ≡ at) (at < a) → MatchOrdering t (place < 0) (place ≡ 0) (0 < place)
    → is_lt (ordering_then o t) ≡ nat_lt a at
before_by a at place Less t rank tie = sym (lt-ltb a at rank)
before_by a at place Equal Less rank tie = absurd (omega (arith, tie))
before_by a at place Equal Equal rank tie = sym (le-ltb a at (omega (arith, rank)))
before_by a at place Equal Greater rank tie = sym (le-ltb a at (omega (arith, rank)))
before_by a at place Greater t rank tie = sym (le-ltb a at (omega (arith, rank)))

pub is_before : (at : ℕ) (p : ℕ × ℕ) → is_lt (order_of p (at, 0)) ≡ passed at p
is_before at p = before_by p.0 at p.1 (nat_cmp p.0 at) (nat_cmp p.1 0) (ranks p.0 at) (ranks p.1 0)

rises_by : (a b : ℕ) (o t : Ordering) → MatchOrdering o (a < b) (a ≡ b) (b < a) → is_gt (ordering_then o t) ≡ false → a ≤ b
rises_by a b Less t rank past = omega (arith, rank)
rises_by a b Equal t rank past = omega (arith, rank)
rises_by a b Greater t rank past = absurd (cc)

later : (at : ℕ) (p q : ℕ × ℕ) → is_gt (order_of p q) ≡ false → at ≤ p.0 → at ≤ q.0
later at p q past reached =
    let rise = rises_by p.0 q.0 (nat_cmp p.0 q.0) (nat_cmp p.1 q.1) (ranks p.0 q.0) past in
    omega (arith, rise, reached)

none_later : (at : ℕ) (p : ℕ × ℕ) (ps : List (ℕ × ℕ)) → IsBeforeAll p ps → at ≤ p.0 → filter (passed at) ps ≡ []
none_later at p [] before reached = refl
none_later at p (q ∷ ps) before reached =
    ap (λ b. cond b (q ∷ filter (passed at) ps) (filter (passed at) ps)) (le-ltb q.0 at (later at p q before.0 reached))
    ∙ none_later at p ps before.1 reached

none_from : (at : ℕ) (p : ℕ × ℕ) (ps : List (ℕ × ℕ)) → IsOrdered (p ∷ ps) → at ≤ p.0 → filter (passed at) (p ∷ ps) ≡ []
none_from at p ps ordered reached =
    ap (λ b. cond b (p ∷ filter (passed at) ps) (filter (passed at) ps)) (le-ltb p.0 at reached)
    ∙ none_later at p ps ordered.0 reached

-- the pair at a place is not passed: none from there on is
pub none_left : (at k : ℕ) (ps : List (ℕ × ℕ)) (p : ℕ × ℕ) → IsOrdered ps → slice_get ps k ≡ Some p → passed at p ≡ false → filter (passed at) (drop k ps) ≡ []
none_left at k [] p ordered is out = absurd (cc)
none_left at zero (x ∷ ps) p ordered is out =
    let same : p ≡ x = cc in
    let reached = ltb-false x.0 at (sym (ap (passed at) same) ∙ out) in
    none_from at x ps ordered reached
none_left at (suc k) (x ∷ ps) p ordered is out = none_left at k ps p ordered.1 is out

-- it is passed: it is one more of the first
one_more : (at k : ℕ) (ps : List (ℕ × ℕ)) (p : ℕ × ℕ) → slice_get ps k ≡ Some p → passed at p ≡ true
    → take k ps ++ filter (passed at) (drop k ps) ≡ take (suc k) ps ++ filter (passed at) (drop (suc k) ps)
one_more at k [] p is in' = absurd (cc)
one_more at zero (x ∷ ps) p is in' =
    let same : p ≡ x = cc in
    ap (λ b. cond b (x ∷ filter (passed at) ps) (filter (passed at) ps)) (sym (ap (passed at) same) ∙ in')
one_more at (suc k) (x ∷ ps) p is in' = ap (λ l. x ∷ l) (one_more at k ps p is in')

-- so many pairs were looked at, and are passed
pub record Counted (at : ℕ) (pairs : List (ℕ × ℕ)) (count before now : ℕ) : Type 0 where
  pub within : count ≤ length pairs
  pub kept : filter (passed at) pairs ≡ take count pairs ++ filter (passed at) (drop count pairs)
  pub cost : now ≡ before + count

pub counted_none : (at : ℕ) (pairs : List (ℕ × ℕ)) (before : ℕ) → Counted at pairs 0 before before
counted_none at pairs before = record { within = omega arith; kept = refl; cost = omega arith }

pub counted_more : (at : ℕ) (pairs : List (ℕ × ℕ)) (count before now after : ℕ) (p : ℕ × ℕ) → Counted at pairs count before now
    → slice_get pairs count ≡ Some p → is_lt (order_of p (at, 0)) ≡ true → after ≡ now + 1 → Counted at pairs (count + 1) before after
counted_more at pairs count before now after p is there less one =
    let some = slice_get_within pairs count p there in
    let on : suc count ≡ count + 1 = omega arith in
    let cost = is.cost in
    record {
      within = omega (arith, some);
      kept = is.kept ∙ one_more at count pairs p there (sym (is_before at p) ∙ less)
          ∙ ap (λ k. take k pairs ++ filter (passed at) (drop k pairs)) on;
      cost = omega (arith, cost, one);
    }

pub counted_stop : (at : ℕ) (pairs : List (ℕ × ℕ)) (count before now : ℕ) (p : ℕ × ℕ) → Counted at pairs count before now
    → slice_get pairs count ≡ Some p → IsOrdered pairs → is_lt (order_of p (at, 0)) ≡ false → take count pairs ≡ filter (passed at) pairs
counted_stop at pairs count before now p is there ordered past =
    sym (is.kept ∙ ap (λ l. take count pairs ++ l) (none_left at count pairs p ordered there (sym (is_before at p) ∙ past)) ∙ append-nil (take count pairs))

drop_all : (k : ℕ) (ps : List (ℕ × ℕ)) → length ps ≤ k → drop k ps ≡ []
drop_all zero [] long = refl
drop_all zero (x ∷ ps) long = absurd (omega (arith, long))
drop_all (suc k) [] long = refl
drop_all (suc k) (x ∷ ps) long = drop_all k ps (omega (arith, long))

pub counted_all : (at : ℕ) (pairs : List (ℕ × ℕ)) (count before now : ℕ) → Counted at pairs count before now → length pairs ≤ count
    → take count pairs ≡ filter (passed at) pairs
counted_all at pairs count before now is all =
    sym (is.kept ∙ ap (λ l. take count pairs ++ filter (passed at) l) (drop_all count pairs all) ∙ append-nil (take count pairs))

-- one place more is that of the pair that comes next
pub copied : (k : ℕ) (ps : List (ℕ × ℕ)) (p : ℕ × ℕ) → slice_get ps k ≡ Some p → map (λ q. q.1) (take k ps) ++ p.1 ∷ [] ≡ map (λ q. q.1) (take (suc k) ps)
copied k [] p is = absurd (cc)
copied zero (x ∷ ps) p is = let same : p ≡ x = cc in ap (λ q. q.1 ∷ []) same
copied (suc k) (x ∷ ps) p is = ap (λ l. x.1 ∷ l) (copied k ps p is)

range_rises : (a n : ℕ) → IsNonDecreasing (range_with_len a n)
range_rises a n i j d le within =
    let long = length-range_with_len a n in
    let low = get_or-range_with_len a n i d (omega (arith, le, within, long)) in
    let high = get_or-range_with_len a n j d (omega (arith, within, long)) in
    omega (arith, low, high, le)

due_rises : (at : ℕ) (deadlines : List (Option ℕ)) → IsNonDecreasing (due_at at deadlines)
due_rises at deadlines =
    IsNonDecreasingBy-filter (λ x. x) (λ place. is_past at (get_or deadlines place None)) (places deadlines) (range_rises 0 (length deadlines))

one_place : (place moment : ℕ) (b : Bool) (rest : List ℕ) (pairs : List (ℕ × ℕ)) → rest ≡ map (λ p. p.1) pairs
    → cond b (place ∷ rest) rest ≡ map (λ p. p.1) (cond b ((moment, place) ∷ pairs) pairs)
one_place place moment true rest pairs same = ap (λ l. place ∷ l) same
one_place place moment false rest pairs same = same

one_deadline : (at place : ℕ) (deadline : Option ℕ) (rest : List ℕ) (pairs : List (ℕ × ℕ)) → rest ≡ map (λ p. p.1) (filter (passed at) pairs)
    → cond (is_past at deadline) (place ∷ rest) rest ≡ map (λ p. p.1) (filter (passed at) (cons_option (pair_of place deadline) pairs))
one_deadline at place None rest pairs same = same
one_deadline at place (Some moment) rest pairs same = one_place place moment (nat_lt moment at) rest (filter (passed at) pairs) same

places_of : (at : ℕ) (g : ℕ → Option ℕ) (ps : List ℕ)
    → filter (λ p. is_past at (g p)) ps ≡ map (λ q. q.1) (filter (passed at) (filter_map (λ p. pair_of p (g p)) ps))
places_of at g [] = refl
places_of at g (p ∷ ps) =
    one_deadline at p (g p) (filter (λ q. is_past at (g q)) ps) (filter_map (λ q. pair_of q (g q)) ps) (places_of at g ps)

same_due : (at : ℕ) (deadlines : List (Option ℕ)) (sorted : List (ℕ × ℕ)) → IsPermutation (pairs_of deadlines) sorted
    → Same (map (λ p. p.1) (filter (passed at) sorted)) (due_at at deadlines)
same_due at deadlines sorted moved =
    subst (λ l. Same (map (λ (p : ℕ × ℕ). p.1) (filter (passed at) sorted)) l) (sym (places_of at (λ p. get_or deadlines p None) (places deadlines)))
    (same_mapped (λ (p : ℕ × ℕ). p.1) (filter (passed at) sorted) (filter (passed at) (pairs_of deadlines))
    (same_filtered (passed at) sorted (pairs_of deadlines)
    (same_back (pairs_of deadlines) sorted (same_from_permutation (pairs_of deadlines) sorted moved))))

-- the places of the first pairs, sorted, are those that are due
pub all_due : (at : ℕ) (deadlines : List (Option ℕ)) (sorted first : List (ℕ × ℕ)) (now : List ℕ) → IsPermutation (pairs_of deadlines) sorted
    → first ≡ filter (passed at) sorted → IsPermutation (map (λ p. p.1) first) now → IsSorted nat_cmp now → now ≡ due_at at deadlines
all_due at deadlines sorted first now moved is ordered up =
    let found = map (λ (p : ℕ × ℕ). p.1) first in
    let due : Same found (due_at at deadlines) =
    subst (λ l. Same (map (λ (p : ℕ × ℕ). p.1) l) (due_at at deadlines)) (sym is) (same_due at deadlines sorted moved) in
    one_order now (due_at at deadlines) (IsNonDecreasingBy-from_sort (λ x. x) now up) (due_rises at deadlines)
    (same_on now found (due_at at deadlines) (same_back found now (same_from_permutation found now ordered)) due)

-- they are as many as the first pairs
pub as_many : (at : ℕ) (deadlines : List (Option ℕ)) (sorted first : List (ℕ × ℕ)) → IsPermutation (pairs_of deadlines) sorted
    → first ≡ filter (passed at) sorted → length first ≡ length (due_at at deadlines)
as_many at deadlines sorted first moved is =
    ap length is ∙ sym (length-map (filter (passed at) sorted) (λ (p : ℕ × ℕ). p.1))
    ∙ same_length (map (λ (p : ℕ × ℕ). p.1) (filter (passed at) sorted)) (due_at at deadlines) (same_due at deadlines sorted moved)

shorter : (k : ℕ) (ps : List (ℕ × ℕ)) → k ≤ length ps → length (take k ps) ≡ k
shorter zero ps within = refl
shorter (suc k) [] within = absurd (omega (arith, within))
shorter (suc k) (p ∷ ps) within = ap suc (shorter k ps (omega (arith, within)))

-- one comparison more than there are places due
pub cost_is : (at : ℕ) (inside deadlines : List (Option ℕ)) (sorted : List (ℕ × ℕ)) (count before now : ℕ) → inside ≡ deadlines
    → IsPermutation (pairs_of inside) sorted → count ≤ length sorted → take count sorted ≡ filter (passed at) sorted
    → TakesOneMore count before now → TakesOneMore (length (due_at at deadlines)) before now
cost_is at inside deadlines sorted count before now view moved within is cost =
    let many : count ≡ length (due_at at inside) = sym (shorter count sorted within) ∙ as_many at inside sorted (take count sorted) moved is in
    subst (λ n. TakesOneMore n before now) (many ∙ ap (λ l. length (due_at at l)) view) cost
