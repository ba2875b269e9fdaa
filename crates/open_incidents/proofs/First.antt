-- The first pair of the queue is that of the most urgent incident that nobody holds.
use Rattle.std.proofs.Common.{◌≡◌, ℕ, List, [], ◌∷◌, map, length, Bool, true, false, cond, refl, sym, ap, ◌∙◌, Some, None, arith}
use Rattle.std.specs.Prelude.{◌&&◌, ◌||◌, ◌==◌, nat_lt}
use Rattle.std.specs.List.{filter, Contains}
use Rattle.std.specs.List.Sorted.{IsPermutation}
use Rattle.std.specs.Cmp.{tied_itself, upto}
use Rattle.std.specs.Ordering.{is_gt, is_lt, ordering_then, ordering_reverse}
use Rattle.std.specs.declared.cmp.Ordering.{Ordering}
use Rattle.std.specs.declared.cmp.Ordering.TheVariants.{Less, Equal, Greater}
use Rattle.std.proofs.lemmas.Bool.{false≢true}
use Rattle.std.proofs.lemmas.List.Elements.{All-contains, All-from_recursion, Contains-append_right}
use Rattle.std.proofs.lemmas.List.Sorted.{IsPermutation-sym, Contains-permutation, length_permutation}
use Rattle.arc_text.specs.Comparisons.{order_of}
use Rattle.arc_data.specs.Classes.{priority_of}
use Rattle.arc_data.specs.Incidents.{Ascends}
use Rattle.arc_data.specs.declared.incident.Incident.{Incident}
use Rattle.centre_rules.specs.Desks.{is_free, is_before, lesser, least, best, numbered}
use Rattle.centre_rules.proofs.Tables.{best_found}
use Rattle.operator_queue.specs.Pairs.{IsBeforeAll}
use Rattle.operator_queue.proofs.Orders.{total, equal, turn_back}
use Rattle.open_incidents.specs.Waiting.{pair_of, waiting}

-- An incident comes before another exactly as its pair does.

by_tests : (less same below level : Bool)
    → (less || (same && below)) ≡ is_lt (ordering_then (cond less Less (cond same Equal Greater)) (cond below Less (cond level Equal Greater)))
by_tests true same below level = refl
by_tests false true true level = refl
by_tests false true false true = refl
by_tests false true false false = refl
by_tests false false below level = refl

pub before_is : (i j : Incident) → is_before i j ≡ is_lt (order_of (pair_of i) (pair_of j))
before_is i j =
    by_tests (nat_lt (priority_of i.class) (priority_of j.class)) (priority_of i.class == priority_of j.class) (nat_lt i.number j.number)
    (i.number == j.number)

pub not_both : (o : Ordering) → is_lt o ≡ true → is_gt o ≡ false
not_both Less e = refl
not_both Equal e = refl
not_both Greater e = absurd (false≢true e)

pub turned : (o : Ordering) → is_gt (ordering_reverse o) ≡ is_lt o
turned Less = refl
turned Equal = refl
turned Greater = refl

level_if : (p q : ℕ × ℕ) (o : Ordering) → order_of p q ≡ o → is_gt o ≡ false → is_gt (order_of q p) ≡ false → order_of p q ≡ Equal
level_if p q Less e low high = absurd (false≢true (sym high ∙ ap is_gt (turn_back p q e)))
level_if p q Equal e low high = e
level_if p q Greater e low high = absurd (false≢true (sym low))

-- of two pairs neither of which comes after the other
pub level : (p q : ℕ × ℕ) → is_gt (order_of p q) ≡ false → is_gt (order_of q p) ≡ false → p ≡ q
level p q low high = equal p q (level_if p q (order_of p q) refl low high)

before_more : (p q : ℕ × ℕ) (ps : List (ℕ × ℕ)) → is_gt (order_of p q) ≡ false → IsBeforeAll q ps → IsBeforeAll p ps
before_more p q [] le all = tt
before_more p q (r ∷ ps) le all = (upto total p q r le all.0, before_more p q ps le all.1)

-- the least of some incidents has the least pair
record LeastOf (is : List Incident) : Type 0 where
  one : Incident
  found : least is ≡ Some one
  first : IsBeforeAll (pair_of one) (map pair_of is)
  there : Contains (map pair_of is) (pair_of one)

lesser_if : (x m : Incident) (is : List Incident) (b : Bool) → is_before m x ≡ b → least is ≡ Some m → IsBeforeAll (pair_of m) (map pair_of is)
    → Contains (map pair_of is) (pair_of m) → LeastOf (x ∷ is)
lesser_if x m is true t found first there = record {
  one = m;
  found = ap (lesser x) found ∙ ap (λ (b : Bool). cond b (Some m) (Some x)) t;
  first = (not_both (order_of (pair_of m) (pair_of x)) (sym (before_is m x) ∙ t), first);
  there = Contains-append_right (pair_of x ∷ []) (map pair_of is) (pair_of m) there;
}
lesser_if x m is false t found first there =
    let low : is_gt (order_of (pair_of x) (pair_of m)) ≡ false =
    ap is_gt (total.antisymm (pair_of x) (pair_of m)) ∙ turned (order_of (pair_of m) (pair_of x)) ∙ sym (before_is m x) ∙ t in
    record {
      one = x;
      found = ap (lesser x) found ∙ ap (λ (b : Bool). cond b (Some m) (Some x)) t;
      first = (ap is_gt (tied_itself total (pair_of x)), before_more (pair_of x) (pair_of m) (map pair_of is) low first);
      there = (0, omega arith, refl);
    }

least_of : (x : Incident) (is : List Incident) → LeastOf (x ∷ is)
least_of x [] = record {
  one = x;
  found = refl;
  first = (ap is_gt (tied_itself total (pair_of x)), tt);
  there = (0, omega arith, refl);
}
least_of x (y ∷ is) = let w = least_of y is in lesser_if x w.one (y ∷ is) (is_before w.one x) refl w.found w.first w.there

least_where : (is : List Incident) (p : ℕ × ℕ) → Contains (map pair_of is) p → LeastOf is
least_where [] p there = absurd (omega (arith, there.1))
least_where (x ∷ is) p there = least_of x is

-- the incident of its number
pub first_best : (is : List Incident) (high : ℕ) (queue : List (ℕ × ℕ)) (p : ℕ × ℕ) → Ascends 0 is high → IsPermutation (waiting is) queue
    → Contains queue p → IsBeforeAll p queue → numbered p.1 is ≡ best is
first_best is high queue p rise same there first =
    let free = filter is_free is in
    let in_all : Contains (waiting is) p = Contains-permutation queue (waiting is) p (IsPermutation-sym (waiting is) queue same) there in
    let w = least_where free p in_all in
    let low : is_gt (order_of p (pair_of w.one)) ≡ false =
    All-contains (λ (r : ℕ × ℕ). is_gt (order_of p r) ≡ false) queue (pair_of w.one)
    (All-from_recursion (λ (r : ℕ × ℕ). is_gt (order_of p r) ≡ false) queue first)
    (Contains-permutation (waiting is) queue (pair_of w.one) same w.there) in
    let high_ : is_gt (order_of (pair_of w.one) p) ≡ false =
    All-contains (λ (r : ℕ × ℕ). is_gt (order_of (pair_of w.one) r) ≡ false) (waiting is) p
    (All-from_recursion (λ (r : ℕ × ℕ). is_gt (order_of (pair_of w.one) r) ≡ false) (waiting is) w.first) in_all in
    let pair : p ≡ pair_of w.one = level p (pair_of w.one) low high_ in
    ap (λ (r : ℕ × ℕ). numbered r.1 is) pair ∙ (best_found is high rise w.one w.found).0 ∙ sym w.found

none_least : (is : List Incident) → length (map pair_of is) ≡ 0 → least is ≡ None
none_least [] e = refl
none_least (i ∷ is) e = absurd (omega (arith, e))

-- no pair: nobody waits
pub none_best : (is : List Incident) (queue : List (ℕ × ℕ)) → IsPermutation (waiting is) queue → queue ≡ [] → best is ≡ None
none_best is queue same none = none_least (filter is_free is) (sym (length_permutation (waiting is) queue same) ∙ ap length none)
