-- Pairs in order stay so where one is put in at its place, and where one is taken out.
use Rattle.std.proofs.Common.{◌≡◌, ℕ, zero, suc, List, [], ◌∷◌, take, drop, slice_get, false, Some, sym, ap, ◌∙◌, subst, arith}
use Rattle.std.specs.List.{AllByRecursion, Contains, insert, remove}
use Rattle.std.specs.List.Sorted.{IsPermutation}
use Rattle.std.specs.Ordering.{is_gt}
use Rattle.std.specs.Prelude.{◌<◌, ◌≤◌, ◌↔◌, length, Option, None, IsSome, OnSome, Result, Ok, Err, OnOk, OnErr}
use Rattle.std.specs.declared.cmp.Ordering.TheVariants.{Less, Equal, Greater}
use Rattle.std.specs.Cmp.{tied_itself}
use Rattle.std.proofs.lemmas.List.Sorted.{IsPermutation-insert}
use Rattle.std.proofs.lemmas.Option.{slice_get-get_or, slice_get_within, get_or_from_slice_get}
use Rattle.arc_text.specs.Comparisons.{order_of}
use Rattle.operator_queue.specs.Pairs.{IsBeforeAll, IsOrdered, IsApart}
use Rattle.operator_queue.proofs.Orders.{total, turn}
use Rattle.operator_queue.proofs.Halves.{one_of}

weaker : (P Q : ℕ × ℕ → Type 0) (ps : List (ℕ × ℕ)) → ((p : ℕ × ℕ) → P p → Q p) → AllByRecursion P ps → AllByRecursion Q ps
weaker P Q [] so all = tt
weaker P Q (p ∷ ps) so all = (so p all.0, weaker P Q ps so all.1)

all_insert : (P : ℕ × ℕ → Type 0) (k : ℕ) (ps : List (ℕ × ℕ)) (w : ℕ × ℕ) → P w → AllByRecursion P ps → AllByRecursion P (insert ps k w)
all_insert P zero ps w one all = (one, all)
all_insert P (suc k) [] w one all = (one, tt)
all_insert P (suc k) (x ∷ ps) w one all = (all.0, all_insert P k ps w one all.1)

all_remove : (P : ℕ × ℕ → Type 0) (k : ℕ) (ps : List (ℕ × ℕ)) → AllByRecursion P ps → AllByRecursion P (remove ps k)
all_remove P zero [] all = tt
all_remove P zero (x ∷ ps) all = all.1
all_remove P (suc k) [] all = tt
all_remove P (suc k) (x ∷ ps) all = (all.0, all_remove P k ps all.1)

ordered_insert : (k : ℕ) (ps : List (ℕ × ℕ)) (w : ℕ × ℕ) → IsOrdered ps → AllByRecursion (λ p. is_gt (order_of p w) ≡ false) (take k ps)
    → IsBeforeAll w (drop k ps) → IsOrdered (insert ps k w)
ordered_insert zero ps w ordered front back = (back, ordered)
ordered_insert (suc k) [] w ordered front back = (tt, tt)
ordered_insert (suc k) (x ∷ ps) w ordered front back =
    (all_insert (λ q. is_gt (order_of x q) ≡ false) k ps w front.0 ordered.0, ordered_insert k ps w ordered.1 front.1 back)

-- put between those that are less and those that are greater
pub ordered_between : (k : ℕ) (ps : List (ℕ × ℕ)) (w : ℕ × ℕ) → IsOrdered ps → IsApart w ps k → IsOrdered (insert ps k w)
ordered_between k ps w ordered apart =
    ordered_insert k ps w ordered
    (weaker (λ p. order_of p w ≡ Less) (λ p. is_gt (order_of p w) ≡ false) (take k ps) (λ p less. ap is_gt less) apart.below)
    (weaker (λ p. order_of p w ≡ Greater) (λ p. is_gt (order_of w p) ≡ false) (drop k ps) (λ p greater. ap is_gt (turn p w greater)) apart.above)

front_of : (k : ℕ) (ps : List (ℕ × ℕ)) (w : ℕ × ℕ) → IsOrdered ps → slice_get ps k ≡ Some w → AllByRecursion (λ p. is_gt (order_of p w) ≡ false) (take k ps)
front_of zero ps w ordered is = tt
front_of (suc k) [] w ordered is = tt
front_of (suc k) (x ∷ ps) w ordered is = (one_of (λ q. is_gt (order_of x q) ≡ false) k ps w ordered.0 is, front_of k ps w ordered.1 is)

back_of : (k : ℕ) (ps : List (ℕ × ℕ)) (w : ℕ × ℕ) → IsOrdered ps → slice_get ps k ≡ Some w → IsBeforeAll w (drop k ps)
back_of k [] w ordered is = absurd (cc)
back_of zero (x ∷ ps) w ordered is =
    let same : x ≡ w = cc in
    (ap (λ p. is_gt (order_of w p)) same ∙ ap is_gt (tied_itself total w), subst (λ p. IsBeforeAll p ps) same ordered.0)
back_of (suc k) (x ∷ ps) w ordered is = back_of k ps w ordered.1 is

-- put before one that is equal
pub ordered_beside : (k : ℕ) (ps : List (ℕ × ℕ)) (w : ℕ × ℕ) → IsOrdered ps → slice_get ps k ≡ Some w → IsOrdered (insert ps k w)
ordered_beside k ps w ordered is = ordered_insert k ps w ordered (front_of k ps w ordered is) (back_of k ps w ordered is)

pub ordered_remove : (k : ℕ) (ps : List (ℕ × ℕ)) → IsOrdered ps → IsOrdered (remove ps k)
ordered_remove zero [] ordered = tt
ordered_remove zero (x ∷ ps) ordered = ordered.1
ordered_remove (suc k) [] ordered = tt
ordered_remove (suc k) (x ∷ ps) ordered = (all_remove (λ q. is_gt (order_of x q) ≡ false) k ps ordered.0, ordered_remove k ps ordered.1)

put_back : (k : ℕ) (ps : List (ℕ × ℕ)) (w : ℕ × ℕ) → slice_get ps k ≡ Some w → insert (remove ps k) k w ≡ ps
put_back k [] w is = absurd (cc)
put_back zero (x ∷ ps) w is = let same : w ≡ x = cc in ap (λ p. p ∷ ps) same
put_back (suc k) (x ∷ ps) w is = ap (λ l. x ∷ l) (put_back k ps w is)

-- what was taken out and what is left are what there was
pub taken_out : (k : ℕ) (ps : List (ℕ × ℕ)) (w : ℕ × ℕ) → slice_get ps k ≡ Some w → IsPermutation (w ∷ remove ps k) ps
taken_out k ps w is = subst (IsPermutation (w ∷ remove ps k)) (put_back k ps w is) (IsPermutation-insert (remove ps k) k w)

pub contained : (k : ℕ) (ps : List (ℕ × ℕ)) (w : ℕ × ℕ) → slice_get ps k ≡ Some w → Contains ps w
contained k ps w is = (k, slice_get_within ps k w is, get_or_from_slice_get ps k w w is)

joined : (P : ℕ × ℕ → Type 0) (k : ℕ) (ps : List (ℕ × ℕ)) → AllByRecursion P (take k ps) → AllByRecursion P (drop k ps) → AllByRecursion P ps
joined P zero ps front back = back
joined P (suc k) [] front back = tt
joined P (suc k) (x ∷ ps) front back = (front.0, joined P k ps front.1 back)

-- a pair that others are less and greater than is none of them
pub lacking : (k : ℕ) (ps : List (ℕ × ℕ)) (w : ℕ × ℕ) → IsApart w ps k → Contains ps w → ⊥
lacking k ps w apart there =
    let level = tied_itself total w in
    let all : AllByRecursion (λ p. order_of p w ≡ Equal → ⊥) ps =
    joined (λ p. order_of p w ≡ Equal → ⊥) k ps
    (weaker (λ p. order_of p w ≡ Less) (λ p. order_of p w ≡ Equal → ⊥) (take k ps) (λ p less equal. absurd (cc)) apart.below)
    (weaker (λ p. order_of p w ≡ Greater) (λ p. order_of p w ≡ Equal → ⊥) (drop k ps) (λ p greater equal. absurd (cc)) apart.above) in
    one_of (λ p. order_of p w ≡ Equal → ⊥) there.0 ps w all (slice_get-get_or ps there.0 w there.1 ∙ ap (λ p. Some p) there.2) level

-- a removal where a pair stood
pub left : (r : Option (ℕ × ℕ)) (ps now : List (ℕ × ℕ)) (k count : ℕ) (w : ℕ × ℕ) → slice_get ps k ≡ Some w → count ≡ length ps → IsSome r ↔ (k < count)
    → OnSome r (now ≡ remove ps k) → now ≡ remove ps k
left (Some p) ps now k count w is long some taken = taken
left None ps now k count w is long some taken =
    let within = slice_get_within ps k w is in
    let there = some.1 (omega (arith, within, long)) in
    absurd (cc)

-- an insertion that there was room for
pub put_in : {A E : Type 0} (r : Result A E) (ps now : List (ℕ × ℕ)) (k : ℕ) (w : ℕ × ℕ) (count room : ℕ) → OnOk r (now ≡ insert ps k w)
    → OnErr r (room ≤ count) → count < room → IsPermutation (w ∷ ps) now
put_in (Ok a) ps now k w count room put full fits = subst (IsPermutation (w ∷ ps)) (sym put) (IsPermutation-insert ps k w)
put_in (Err e) ps now k w count room put full fits = absurd (omega (arith, full, fits))
