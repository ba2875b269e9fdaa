-- More places have no more deadlines.
use Rattle.std.proofs.Common.{◌≡◌, ◌≤◌, ◌+◌, ◌-◌, ℕ, zero, suc, List, [], ◌∷◌, ◌++◌, length, get_or, replicate, refl, sym, ap, ◌∙◌, subst, arith, append-nil, length-append}
use Rattle.std.specs.Prelude.{Option, None}
use Rattle.std.specs.List.{cons_option, filter_map, range_with_len}
use Rattle.std.specs.List.Sorted.{IsPermutation}
use Rattle.std.proofs.lemmas.List.{length-replicate}
use Rattle.std.proofs.lemmas.List.Elements.{filter_map-append}
use Rattle.operator_queue.specs.Pairs.{PairsValue}
use Rattle.supervision.specs.Deadlines.{pair_of, pairs_of, with_room, IsSortedFrom}

range_split : (a n m : ℕ) → range_with_len a (n + m) ≡ range_with_len a n ++ range_with_len (a + n) m
range_split a zero m =
    let same : zero + m ≡ m = omega arith in
    let begin : a ≡ a + zero = omega arith in
    ap (range_with_len a) same ∙ ap (λ b. range_with_len b m) begin
range_split a (suc n) m =
    let on : suc n + m ≡ suc (n + m) = omega arith in
    let begin : a + 1 + n ≡ a + suc n = omega arith in
    ap (range_with_len a) on
    ∙ ap (λ l. a ∷ l) (range_split (a + 1) n m ∙ ap (λ b. range_with_len (a + 1) n ++ range_with_len b m) begin)

alike : (g h : ℕ → Option ℕ) → ((p : ℕ) → g p ≡ h p) → (ps : List ℕ) → filter_map (λ p. pair_of p (g p)) ps ≡ filter_map (λ p. pair_of p (h p)) ps
alike g h same [] = refl
alike g h same (p ∷ ps) =
    ap (λ o. cons_option (pair_of p o) (filter_map (λ q. pair_of q (g q)) ps)) (same p)
    ∙ ap (λ rest. cons_option (pair_of p (h p)) rest) (alike g h same ps)

none_past : (deadlines : List (Option ℕ)) (p : ℕ) → length deadlines ≤ p → get_or deadlines p None ≡ None
none_past [] p past = refl
none_past (d ∷ ds) zero past = absurd (omega (arith, past))
none_past (d ∷ ds) (suc p) past = none_past ds p (omega (arith, past))

none_behind : (deadlines : List (Option ℕ)) (a m : ℕ) → length deadlines ≤ a
    → filter_map (λ p. pair_of p (get_or deadlines p None)) (range_with_len a m) ≡ []
none_behind deadlines a zero past = refl
none_behind deadlines a (suc m) past =
    ap (λ o. cons_option (pair_of a o) (filter_map (λ p. pair_of p (get_or deadlines p None)) (range_with_len (a + 1) m))) (none_past deadlines a past)
    ∙ none_behind deadlines (a + 1) m (omega (arith, past))

-- places without a deadline
abbrev free : ℕ → List (Option ℕ)
free m = replicate m None

none_each : (m p : ℕ) → get_or (free m) p None ≡ get_or (free 0) p None
none_each zero p = refl
none_each (suc m) zero = refl
none_each (suc m) (suc p) = none_each m p

none_more : (deadlines : List (Option ℕ)) (m p : ℕ) → get_or (deadlines ++ free m) p None ≡ get_or deadlines p None
none_more [] m p = none_each m p
none_more (d ∷ ds) m zero = refl
none_more (d ∷ ds) m (suc p) = none_more ds m p

same_pairs : (deadlines : List (Option ℕ)) (m : ℕ) → pairs_of (deadlines ++ free m) ≡ pairs_of deadlines
same_pairs deadlines m =
    let n = length deadlines in
    let h = λ (p : ℕ). pair_of p (get_or deadlines p None) in
    let empty : length (free m) ≡ m = length-replicate m None in
    let long : length (deadlines ++ free m) ≡ n + m = length-append deadlines (free m) ∙ ap (λ k. n + k) empty in
    alike (λ p. get_or (deadlines ++ free m) p None) (λ p. get_or deadlines p None) (none_more deadlines m)
    (range_with_len 0 (length (deadlines ++ free m)))
    ∙ ap (λ k. filter_map h (range_with_len 0 k)) long
    ∙ ap (filter_map h) (range_split 0 n m)
    ∙ filter_map-append h (range_with_len 0 n) (range_with_len (0 + n) m)
    ∙ ap (λ rest. filter_map h (range_with_len 0 n) ++ rest) (none_behind deadlines (0 + n) m (omega arith))
    ∙ append-nil (filter_map h (range_with_len 0 n))

-- places come in, and there is memory for a pair of each
pub with_places : (deadlines now : List (Option ℕ)) (places : ℕ) (sorted more : PairsValue) → IsSortedFrom deadlines sorted
    → now ≡ with_room places deadlines → length now ≡ places → more.pairs ≡ sorted.pairs → places ≤ more.room → IsSortedFrom now more
with_places deadlines now places sorted more is made long kept room =
    let m = places - length deadlines in
    let pairs : pairs_of now ≡ pairs_of deadlines = ap pairs_of made ∙ same_pairs deadlines m in
    record {
      same = subst (λ l. IsPermutation (pairs_of now) l) (sym kept) (subst (λ l. IsPermutation l sorted.pairs) (sym pairs) is.same);
      room = omega (arith, long, room);
    }
