-- The pairs of the deadlines with their places, where one deadline changes and where places come in.
use Rattle.std.proofs.Common.{◌≡◌, ◌<◌, ◌≤◌, ◌≢◌, ◌+◌, ◌↔◌, ℕ, zero, suc, List, [], ◌∷◌, length, Bool, get_or, set, refl, sym, ap, ◌∙◌, subst, arith, ⊎_elim, length-set, get_or-set_same, get_or-set_other}
use Rattle.std.specs.Prelude.{IsTrue, Option, None, Some}
use Rattle.std.specs.List.{Contains, cons_option, filter_map, range_with_len, sum_by}
use Rattle.std.specs.List.Sorted.{IsPermutation}
use Rattle.std.proofs.lemmas.Bool.{cases_eq}
use Rattle.std.proofs.lemmas.List.{set-get_or}
use Rattle.std.proofs.lemmas.List.FromFn.{length-range_with_len}
use Rattle.std.proofs.lemmas.List.Sums.{sum_by-cons}
use Rattle.std.proofs.lemmas.List.Sorted.{IsPermutation-cons, IsPermutation-trans, IsPermutation-sym, Contains-permutation, length_permutation}
use Rattle.std.proofs.lemmas.Option.{same_Some, slice_get-get_or}
use Rattle.operator_queue.specs.Pairs.{PairsValue}
use Rattle.supervision.specs.Deadlines.{pair_of, pairs_of, places, IsSortedFrom}
use Rattle.operator_queue.proofs.Sums.{Same, same_from_permutation, same_back, same_on, same_rest, permuted_pairs}

taken_pair : (p : ℕ × ℕ) (old now rest : List (ℕ × ℕ)) (found : Bool) → (IsTrue found ↔ Contains old p) → (IsTrue found → IsPermutation (p ∷ now) old)
    → IsPermutation (p ∷ rest) old → IsPermutation rest now
taken_pair p old now rest found there taken moved =
    let stands : Contains old p = Contains-permutation (p ∷ rest) old p moved (0, omega arith, refl) in
    let out = taken (there.1 stands) in
    permuted_pairs rest now
    (same_rest p rest now
    (same_on (p ∷ rest) old (p ∷ now) (same_from_permutation (p ∷ rest) old moved) (same_back (p ∷ now) old (same_from_permutation (p ∷ now) old out))))

-- the pair of a deadline is taken out
pub taken_out : (deadline : Option ℕ) (place moment : ℕ) (old now rest : List (ℕ × ℕ)) (found : Bool) → deadline ≡ Some moment
    → (IsTrue found ↔ Contains old (moment, place)) → (IsTrue found → IsPermutation ((moment, place) ∷ now) old)
    → IsPermutation (cons_option (pair_of place deadline) rest) old → IsPermutation rest now
taken_out deadline place moment old now rest found is there taken moved =
    taken_pair (moment, place) old now rest found there taken (subst (λ d. IsPermutation (cons_option (pair_of place d) rest) old) is moved)

-- what a function gives of each place
weight : (ℕ × ℕ → ℕ) → ℕ → Option ℕ → ℕ
weight f place None = 0
weight f place (Some moment) = f (moment, place)

one_weighed : (f : ℕ × ℕ → ℕ) (place : ℕ) (deadline : Option ℕ) (rest : List (ℕ × ℕ))
    → sum_by f (cons_option (pair_of place deadline) rest) ≡ weight f place deadline + sum_by f rest
unfolding weight
one_weighed f place None rest = omega arith
one_weighed f place (Some moment) rest = sum_by-cons f (moment, place) rest

weighed : (f : ℕ × ℕ → ℕ) (g : ℕ → Option ℕ) (ps : List ℕ)
    → sum_by f (filter_map (λ p. pair_of p (g p)) ps) ≡ sum_by (λ p. weight f p (g p)) ps
weighed f g [] = refl
weighed f g (p ∷ ps) =
    one_weighed f p (g p) (filter_map (λ q. pair_of q (g q)) ps)
    ∙ ap (λ rest. weight f p (g p) + rest) (weighed f g ps)
    ∙ sym (sum_by-cons (λ q. weight f q (g q)) p ps)

-- sums over places behind the one at which two functions differ
behind : (u v : ℕ → ℕ) (k a n : ℕ) → ((p : ℕ) → p ≢ k → u p ≡ v p) → k < a → sum_by u (range_with_len a n) ≡ sum_by v (range_with_len a n)
behind u v k a zero alike past = refl
behind u v k a (suc n) alike past =
    let left = sum_by-cons u a (range_with_len (a + 1) n) in
    let right = sum_by-cons v a (range_with_len (a + 1) n) in
    let rest = behind u v k (a + 1) n alike (omega (arith, past)) in
    let here = alike a (λ is. omega (arith, is, past)) in
    omega (arith, left, right, rest, here)

differs_at : (u v : ℕ → ℕ) (k a n : ℕ) → ((p : ℕ) → p ≢ k → u p ≡ v p) → a ≤ k → k < a + n
    → sum_by u (range_with_len a n) + v k ≡ sum_by v (range_with_len a n) + u k
differs_at u v k a zero alike low high = absurd (omega (arith, low, high))
differs_at u v k a (suc n) alike low high =
    let left = sum_by-cons u a (range_with_len (a + 1) n) in
    let right = sum_by-cons v a (range_with_len (a + 1) n) in
    ⊎_elim
    (λ is.
    let rest = behind u v k (a + 1) n alike (omega (arith, is)) in
    let one = ap u is in
    let other = ap v is in
    omega (arith, left, right, rest, one, other))
    (λ apart.
    let rest = differs_at u v k (a + 1) n alike (omega (arith, apart, low)) (omega (arith, high)) in
    let here = alike a apart in
    omega (arith, left, right, rest, here))
    (cases_eq a k)

-- the deadlines but for that of one place
pub others : List (Option ℕ) → ℕ → List (ℕ × ℕ)
others deadlines k = pairs_of (set deadlines k None)

around_sums : (deadlines : List (Option ℕ)) (k : ℕ) (d : Option ℕ) → k < length deadlines
    → Same (cons_option (pair_of k d) (others deadlines k)) (pairs_of (set deadlines k d))
unfolding others weight
around_sums deadlines k d within = record {
  sums = λ f.
      let n = length deadlines in
      let bare = λ (p : ℕ). get_or (set deadlines k None) p None in
      let full = λ (p : ℕ). get_or (set deadlines k d) p None in
      let u = λ (p : ℕ). weight f p (bare p) in
      let v = λ (p : ℕ). weight f p (full p) in
      let long : length (set deadlines k None) ≡ n = length-set deadlines k None in
      let wide : length (set deadlines k d) ≡ n = length-set deadlines k d in
      let without : sum_by f (pairs_of (set deadlines k None)) ≡ sum_by u (range_with_len 0 n) =
      weighed f bare (places (set deadlines k None)) ∙ ap (λ m. sum_by u (range_with_len 0 m)) long in
      let all : sum_by f (pairs_of (set deadlines k d)) ≡ sum_by v (range_with_len 0 n) =
      weighed f full (places (set deadlines k d)) ∙ ap (λ m. sum_by v (range_with_len 0 m)) wide in
      let alike : (p : ℕ) → p ≢ k → u p ≡ v p = λ p apart.
      ap (λ o. weight f p o) (get_or-set_other deadlines k p None None apart ∙ sym (get_or-set_other deadlines k p d None apart)) in
      let turned = differs_at u v k 0 n alike (omega arith) (omega (arith, within)) in
      let none : u k ≡ 0 = ap (λ o. weight f k o) (get_or-set_same deadlines k None None within) in
      let one : v k ≡ weight f k d = ap (λ o. weight f k o) (get_or-set_same deadlines k d None within) in
      let head = one_weighed f k d (pairs_of (set deadlines k None)) in
      omega (arith, without, all, turned, none, one, head);
}

-- a place's deadline and all others are the deadlines
pub around : (deadlines : List (Option ℕ)) (k : ℕ) (d : Option ℕ) → k < length deadlines
    → IsPermutation (cons_option (pair_of k d) (others deadlines k)) (pairs_of (set deadlines k d))
around deadlines k d within =
    permuted_pairs (cons_option (pair_of k d) (others deadlines k)) (pairs_of (set deadlines k d)) (around_sums deadlines k d within)

cons_longer : (o : Option (ℕ × ℕ)) (rest : List (ℕ × ℕ)) → (length rest ≤ length (cons_option o rest)) × (length (cons_option o rest) ≤ length rest + 1)
cons_longer None rest = (omega arith, omega arith)
cons_longer (Some p) rest = (omega arith, omega arith)

map_shorter : (h : ℕ → Option (ℕ × ℕ)) (ps : List ℕ) → length (filter_map h ps) ≤ length ps
map_shorter h [] = omega arith
map_shorter h (p ∷ ps) =
    let head = cons_longer (h p) (filter_map h ps) in
    let rest = map_shorter h ps in
    omega (arith, head.1, rest)

pairs_fit : (deadlines : List (Option ℕ)) → length (pairs_of deadlines) ≤ length deadlines
pairs_fit deadlines =
    let short = map_shorter (λ p. pair_of p (get_or deadlines p None)) (places deadlines) in
    let long = length-range_with_len 0 (length deadlines) in
    omega (arith, short, long)

-- fewer than there are places
others_fewer : (deadlines : List (Option ℕ)) (k : ℕ) → k < length deadlines → length (others deadlines k) < length deadlines
others_fewer deadlines k within =
    let full = set deadlines k (Some 0) in
    let same = length_permutation ((0, k) ∷ others deadlines k) (pairs_of full) (around deadlines k (Some 0) within) in
    let fit = pairs_fit full in
    let wide = length-set deadlines k (Some 0) in
    omega (arith, same, fit, wide)

cons_moved : (o : Option (ℕ × ℕ)) (xs ys : List (ℕ × ℕ)) → IsPermutation xs ys → IsPermutation (cons_option o xs) (cons_option o ys)
cons_moved None xs ys moved = moved
cons_moved (Some p) xs ys moved = IsPermutation-cons p xs ys moved

-- what is sorted while a place's deadline is out
pub record IsOut (deadlines : List (Option ℕ)) (k : ℕ) (sorted out : PairsValue) : Type 0 where
  pub same : IsPermutation (others deadlines k) out.pairs
  pub fewer : length out.pairs < out.room
  pub no_more : length out.pairs ≤ length (pairs_of deadlines)
  pub room : length deadlines ≤ out.room
  pub long : length sorted.pairs ≡ length (pairs_of deadlines)

pub is_out : (deadlines : List (Option ℕ)) (k : ℕ) (sorted out : PairsValue) → k < length deadlines → IsSortedFrom deadlines sorted
    → ((rest : List (ℕ × ℕ)) → IsPermutation (cons_option (pair_of k (get_or deadlines k None)) rest) sorted.pairs → IsPermutation rest out.pairs)
    → out.room ≡ sorted.room → IsOut deadlines k sorted out
is_out deadlines k sorted out within is taken room =
    let own = get_or deadlines k None in
    let whole : IsPermutation (cons_option (pair_of k own) (others deadlines k)) (pairs_of deadlines) =
    subst (λ l. IsPermutation (cons_option (pair_of k own) (others deadlines k)) (pairs_of l)) (set-get_or deadlines k None) (around deadlines k own within) in
    let same : IsPermutation (others deadlines k) out.pairs =
    taken (others deadlines k)
    (IsPermutation-trans (cons_option (pair_of k own) (others deadlines k)) (pairs_of deadlines) sorted.pairs whole is.same) in
    let left = length_permutation (others deadlines k) out.pairs same in
    let all = length_permutation (cons_option (pair_of k own) (others deadlines k)) (pairs_of deadlines) whole in
    let more = cons_longer (pair_of k own) (others deadlines k) in
    let few = others_fewer deadlines k within in
    let wide = is.room in
    record {
      same = same;
      fewer = omega (arith, left, few, wide, room);
      no_more = omega (arith, left, all, more.0);
      room = omega (arith, wide, room);
      long = length_permutation (pairs_of deadlines) sorted.pairs is.same;
    }

-- which the deadline was that is out
pub while_out : (deadlines : List (Option ℕ)) (k : ℕ) (own : Option ℕ) (sorted out : PairsValue) → k < length deadlines → own ≡ get_or deadlines k own
    → IsSortedFrom deadlines sorted
    → ((rest : List (ℕ × ℕ)) → IsPermutation (cons_option (pair_of k own) rest) sorted.pairs → IsPermutation rest out.pairs)
    → out.room ≡ sorted.room → IsOut deadlines k sorted out
while_out deadlines k own sorted out within stands is taken room =
    let there : own ≡ get_or deadlines k None =
    same_Some own (get_or deadlines k None)
    (ap (λ d. Some d) stands ∙ sym (slice_get-get_or deadlines k own within) ∙ slice_get-get_or deadlines k None within) in
    is_out deadlines k sorted out within is
    (subst (λ d. (rest : List (ℕ × ℕ)) → IsPermutation (cons_option (pair_of k d) rest) sorted.pairs → IsPermutation rest out.pairs) there taken) room

-- the deadline is set
pub is_set : (deadlines : List (Option ℕ)) (k : ℕ) (d : Option ℕ) (sorted out now : PairsValue) → k < length deadlines → IsOut deadlines k sorted out
    → IsPermutation (cons_option (pair_of k d) out.pairs) now.pairs → now.room ≡ out.room → IsSortedFrom (set deadlines k d) now
is_set deadlines k d sorted out now within is put room =
    let bare = cons_option (pair_of k d) (others deadlines k) in
    let full = cons_option (pair_of k d) out.pairs in
    let turned : IsPermutation bare now.pairs =
    IsPermutation-trans bare full now.pairs (cons_moved (pair_of k d) (others deadlines k) out.pairs is.same) put in
    let back : IsPermutation (pairs_of (set deadlines k d)) bare = IsPermutation-sym bare (pairs_of (set deadlines k d)) (around deadlines k d within) in
    let wide = length-set deadlines k d in
    let enough = is.room in
    record {
      same = IsPermutation-trans (pairs_of (set deadlines k d)) bare now.pairs back turned;
      room = omega (arith, wide, enough, room);
    }
