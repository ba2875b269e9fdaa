-- Each sending that is delivered stands exactly once: without crashes each, with crashes each that is acknowledged.
use Rattle.std.proofs.Common.{◌≡◌, ◌≤◌, ◌-◌, ℕ, zero, suc, List, [], ◌∷◌, ◌++◌, length, take, drop, Bool, true, false, ◌&&◌, ◌||◌, cond, refl, sym, ap, subst, true≢false, inl, inr, arith}
use Rattle.std.specs.List.{AllByRecursion, filter, list_any}
use Rattle.std.proofs.lemmas.Bool.{cond_both, or_cases, or_left, or_right, or_parts, and_parts, and_from, and_right, eqb-true, eq-eqb}
use Rattle.arc_data.specs.declared.event.Message.{Message}
use Rattle.centre_laws.specs.Schedules.{Step, Deliver, Other, Lose, Crash, Schedule, Item, entries, next, is_of_sending, stands, acknowledge, acknowledge_item, sent_item, message_entry, oldest, after_step, ideal_after, Each, IsStep, IsNoCrash}
use Rattle.centre_laws.specs.Spacing.{HasMessage, IsSpacedStep}
use Rattle.centre_laws.specs.Sendings.{StandsOnce, NoneTwice}
use Rattle.centre_laws.proofs.Lists.{all_at, same_number}
use Rattle.centre_laws.proofs.Shape.{IsTraced, traced, delivered_has, added_has}

-- All deliveries of a number are of its message.

-- a later step agrees with a delivery
agree_step : (x : Schedule) (s : Step) (n : ℕ) (m : Message) (via : List ℕ) (clock : ℕ) (b : Bool) (later earlier : List Step)
    → IsSpacedStep x s (later ++ Deliver n m via clock b ∷ earlier) → HasMessage n m s
agree_step x (Deliver k a line c d) n m via clock b later earlier spaced =
    λ own. sym (all_at (HasMessage k a) earlier (Deliver n m via clock b) later spaced.same (sym own))
agree_step x (Other e c d) n m via clock b later earlier spaced = tt
agree_step x Lose n m via clock b later earlier spaced = tt
agree_step x (Crash kept c) n m via clock b later earlier spaced = tt

-- so all steps agree with it
all_agree : (x : Schedule) (n : ℕ) (m : Message) (via : List ℕ) (clock : ℕ) (b : Bool) (earlier later : List Step)
    → Each (IsSpacedStep x) (later ++ Deliver n m via clock b ∷ earlier)
    → AllByRecursion (HasMessage n m) (later ++ Deliver n m via clock b ∷ earlier)
all_agree x n m via clock b earlier [] spaced = (λ own. refl, spaced.0.same)
all_agree x n m via clock b earlier (s ∷ later) spaced =
    (agree_step x s n m via clock b later earlier spaced.0, all_agree x n m via clock b earlier later spaced.1)

-- A number stands at most once.

-- how many items are of the sending
abbrev pub count_of : ℕ → List Item → ℕ
count_of n w = length (filter (is_of_sending n) w)

-- the step of count_acknowledged: an item in place of another
count_if : (b : Bool) (i j : Item) (v w : List Item) → length v ≡ length w → length (cond b (i ∷ v) v) ≡ length (cond b (j ∷ w) w)
count_if true i j v w same = ap suc same
count_if false i j v w same = same

-- acknowledging changes no number
count_acknowledged : (n k : ℕ) (w : List Item) → count_of n (acknowledge k w) ≡ count_of n w
count_acknowledged n k [] = refl
count_acknowledged n k (i ∷ w) = count_if (is_of_sending n i) (acknowledge_item k i) i _ _ (count_acknowledged n k w)

-- a crash adds no number
count_dropped : (n d : ℕ) (w : List Item) → count_of n (drop d w) ≤ count_of n w
count_dropped n zero w = omega arith
count_dropped n (suc d) [] = omega arith
count_dropped n (suc d) (i ∷ w) =
    let own = filter (is_of_sending n) w in
    cond_both (is_of_sending n i) (i ∷ own) own (λ v. count_of n (drop d w) ≤ length v)
    (λ _. omega (arith, count_dropped n d w)) (λ _. count_dropped n d w)

-- from the test that a number stands to the count
none_of : (n : ℕ) (w : List Item) → stands n w ≡ false → filter (is_of_sending n) w ≡ []
none_of n [] none = refl
none_of n (i ∷ w) none = let parts = or_parts (is_of_sending n i) (stands n w) none in rw parts.0 (none_of n w parts.1)

-- the step of some_of
some_if : (b stood : Bool) (i : Item) (w : List Item) → (b || stood) ≡ true → (stood ≡ true → 1 ≤ length w) → 1 ≤ length (cond b (i ∷ w) w)
some_if true stood i w is more = omega arith
some_if false stood i w is more = more is

-- what stands is counted
some_of : (n : ℕ) (w : List Item) → stands n w ≡ true → 1 ≤ count_of n w
some_of n [] stood = absurd (true≢false (sym stood))
some_of n (i ∷ w) stood = some_if (is_of_sending n i) (stands n w) i (filter (is_of_sending n) w) stood (some_of n w)

-- a new number stands once
new_if : (b : Bool) (n k : ℕ) (i : Item) (w : List Item) → (b ≡ true → n ≡ k) → stands k w ≡ false → count_of n w ≤ 1
    → length (cond b (i ∷ filter (is_of_sending n) w) (filter (is_of_sending n) w)) ≤ 1
new_if true n k i w same none one =
    let empty : filter (is_of_sending n) w ≡ [] =
    subst (λ (j : ℕ). filter (is_of_sending j) w ≡ []) (sym (same refl)) (none_of k w none) in
    rw empty (omega arith)
new_if false n k i w same none one = one

-- a step keeps that none stands twice
twice_step : (s : Step) (w : List Item) → NoneTwice w → NoneTwice (after_step s w)
twice_step (Deliver k m via clock b) w one n = let new = sent_item k b (message_entry w m via clock) in
    delivered_has (λ v. count_of n v ≤ 1) k m via clock b w (one n) (rw (count_acknowledged n k w) (one n))
    (λ none. new_if (is_of_sending n new) n k new w (λ same. eqb-true n k same) none (one n))
twice_step (Other e clock b) w one n = added_has (λ v. count_of n v ≤ 1) (next (entries w) e clock) b w (one n) (λ _. one n)
twice_step Lose w one n = one n
twice_step (Crash kept clock) w one n = omega (arith, count_dropped n (length w - kept) w, one n)

-- no sending stands twice in an ideal list
pub none_twice : (x : Schedule) (ss : List Step) → NoneTwice (ideal_after x ss)
none_twice x [] n = omega arith
none_twice x (s ∷ ss) n = twice_step s (ideal_after x ss) (none_twice x ss) n

-- What is sure stays. With always each item of a sending is sure, for schedules without crashes; otherwise it is sure once it is
-- acknowledged.

-- the item is of the sending and sure
abbrev pub is_sure : Bool → ℕ → Item → Bool
is_sure always n i = is_of_sending n i && (always || i.acknowledged)

-- the sending has a sure item
abbrev pub sure : Bool → ℕ → List Item → Bool
sure always n w = list_any (is_sure always n) w

-- a crash drops nothing that is sure
abbrev pub IsSafe : Bool → Schedule → Step → List Step → Type 0
IsSafe true x s earlier = IsNoCrash s earlier
IsSafe false x s earlier = IsStep x s earlier

-- an item that is sure goes on to be sure when it is acknowledged
still : (always a b : Bool) → (always || a) ≡ true → (always || (a || b)) ≡ true
still always a b is = elim (or_cases always a is) [
  | inl own ↦ or_left always (a || b) own
  | inr own ↦ or_right always (a || b) (or_left a b own)
]

-- acknowledging another sending leaves what is sure
sure_acknowledged : (always : Bool) (n k : ℕ) (w : List Item) → sure always n w ≡ true → sure always n (acknowledge k w) ≡ true
sure_acknowledged always n k [] is = is
sure_acknowledged always n k (i ∷ w) is = elim (or_cases (is_sure always n i) (sure always n w) is) [
  | inl own ↦ let parts = and_parts (is_of_sending n i) (always || i.acknowledged) own in
      or_left _ _ (and_from _ _ parts.0 (still always i.acknowledged (is_of_sending k i) parts.1))
  | inr more ↦ or_right _ _ (sure_acknowledged always n k w more)
]

-- acknowledging a sending that stands makes it sure
sure_now : (always : Bool) (n : ℕ) (w : List Item) → stands n w ≡ true → sure always n (acknowledge n w) ≡ true
sure_now always n [] is = is
sure_now always n (i ∷ w) is = elim (or_cases (is_of_sending n i) (stands n w) is) [
  | inl own ↦ or_left _ _ (and_from _ _ own (or_right always _ (or_right i.acknowledged (is_of_sending n i) own)))
  | inr more ↦ or_right _ _ (sure_now always n w more)
]

-- what stands is sure where each is
sure_always : (n : ℕ) (w : List Item) → stands n w ≡ true → sure true n w ≡ true
sure_always n [] is = is
sure_always n (i ∷ w) is = elim (or_cases (is_of_sending n i) (stands n w) is) [
  | inl own ↦ or_left _ _ (and_from _ _ own refl)
  | inr more ↦ or_right _ _ (sure_always n w more)
]

-- a crash that drops nothing acknowledged drops nothing sure
sure_dropped : (n d : ℕ) (w : List Item) → AllByRecursion (λ i. i.acknowledged ≡ false) (take d w) → sure false n w ≡ true
    → sure false n (drop d w) ≡ true
sure_dropped n zero w lost is = is
sure_dropped n (suc d) [] lost is = is
sure_dropped n (suc d) (i ∷ w) lost is = sure_dropped n d w lost.1 (rw (and_right (is_of_sending n i) i.acknowledged lost.0) at is)

-- what is sure stands
sure_stands : (always : Bool) (n : ℕ) (w : List Item) → sure always n w ≡ true → stands n w ≡ true
sure_stands always n [] is = is
sure_stands always n (i ∷ w) is = elim (or_cases (is_sure always n i) (sure always n w) is) [
  | inl own ↦ or_left _ _ (and_parts (is_of_sending n i) (always || i.acknowledged) own).0
  | inr more ↦ or_right _ _ (sure_stands always n w more)
]

-- what is sure stays at a crash
sure_crash : (always : Bool) (x : Schedule) (kept clock : ℕ) (ss : List Step) (n : ℕ) → IsSafe always x (Crash kept clock) ss
    → sure always n (ideal_after x ss) ≡ true → sure always n (oldest kept (ideal_after x ss)) ≡ true
sure_crash true x kept clock ss n ok is = absurd ok
sure_crash false x kept clock ss n ok is = let w = ideal_after x ss in sure_dropped n (length w - kept) w ok.acknowledged is

-- what is sure stays at each step
sure_step : (always : Bool) (x : Schedule) (s : Step) (ss : List Step) (n : ℕ) → IsSafe always x s ss
    → sure always n (ideal_after x ss) ≡ true → sure always n (ideal_after x (s ∷ ss)) ≡ true
sure_step always x (Deliver k m via clock b) ss n ok is = let w = ideal_after x ss in
    delivered_has (λ v. sure always n v ≡ true) k m via clock b w is (sure_acknowledged always n k w is) (λ _. or_right _ _ is)
sure_step always x (Other e clock b) ss n ok is = let w = ideal_after x ss in
    added_has (λ v. sure always n v ≡ true) (next (entries w) e clock) b w is (λ _. is)
sure_step always x Lose ss n ok is = is
sure_step always x (Crash kept clock) ss n ok is = sure_crash always x kept clock ss n ok is

-- a delivery that counts makes its sending sure
sure_delivered : (always b stood : Bool) (n : ℕ) (m : Message) (via : List ℕ) (clock : ℕ) (w : List Item) → (always || b) ≡ true → stands n w ≡ stood
    → sure always n (cond stood (cond b (acknowledge n w) w) (sent_item n b (message_entry w m via clock) ∷ w)) ≡ true
sure_delivered always b false n m via clock w counts is = or_left _ _ (and_from _ _ (eq-eqb n n refl) counts)
sure_delivered always true true n m via clock w counts is = sure_now always n w is
sure_delivered true false true n m via clock w counts is = sure_always n w is
sure_delivered false false true n m via clock w counts is = absurd (true≢false (sym counts))

-- and it stays so
sure_after : (always : Bool) (x : Schedule) (n : ℕ) (m : Message) (via : List ℕ) (clock : ℕ) (b : Bool) (earlier later : List Step) → (always || b) ≡ true
    → Each (IsSafe always x) (later ++ Deliver n m via clock b ∷ earlier)
    → sure always n (ideal_after x (later ++ Deliver n m via clock b ∷ earlier)) ≡ true
sure_after always x n m via clock b earlier [] counts ok =
    let w = ideal_after x earlier in sure_delivered always b (stands n w) n m via clock w counts refl
sure_after always x n m via clock b earlier (s ∷ later) counts ok =
    sure_step always x s (later ++ Deliver n m via clock b ∷ earlier) n ok.0 (sure_after always x n m via clock b earlier later counts ok.1)

-- What stands, stands once, with its message.

-- what holds of each item holds of those of the sending
own_all : (n : ℕ) (P : Item → Type 0) (w : List Item) → AllByRecursion P w
    → AllByRecursion (λ i. (is_of_sending n i ≡ true) × P i) (filter (is_of_sending n) w)
own_all n P [] all = tt
own_all n P (i ∷ w) all =
    let own = filter (is_of_sending n) w in
    cond_both (is_of_sending n i) (i ∷ own) own (AllByRecursion (λ j. (is_of_sending n j ≡ true) × P j))
    (λ is. ((is, all.0), own_all n P w all.1)) (λ _. own_all n P w all.1)

-- from the count to the one item, which is traced
one_item : (n : ℕ) (m : Message) (ss : List Step) (w own : List Item) → AllByRecursion (HasMessage n m) ss
    → filter (is_of_sending n) w ≡ own
    → 1 ≤ length own → length own ≤ 1 → AllByRecursion (λ i. (is_of_sending n i ≡ true) × IsTraced ss i) own → StandsOnce n m ss w
one_item n m ss w [] agree is some few all = absurd (omega (arith, some))
one_item n m ss w (i ∷ []) agree is some few all =
    let own = all.0.1 n m (same_number n i.number all.0.0) agree in
    record { item = i; only = is; via = own.via; event = own.event; line = own.line }
one_item n m ss w (i ∷ j ∷ own) agree is some few all = absurd (omega (arith, few))

-- for both laws: each sending with a delivery that counts
pub stands_once : (always : Bool) (x : Schedule) (ss later earlier : List Step) (n : ℕ) (m : Message) (via : List ℕ) (clock : ℕ) (b : Bool)
    → (always || b) ≡ true
    → ss ≡ later ++ Deliver n m via clock b ∷ earlier → Each (IsSpacedStep x) ss → Each (IsSafe always x) ss
    → StandsOnce n m ss (ideal_after x ss)
stands_once always x ss later earlier n m via clock b counts is spaced ok =
    let w = ideal_after x ss in
    let all = later ++ Deliver n m via clock b ∷ earlier in
    let agree : AllByRecursion (HasMessage n m) ss =
    subst (AllByRecursion (HasMessage n m)) (sym is) (all_agree x n m via clock b earlier later (subst (Each (IsSpacedStep x)) is spaced)) in
    let stood : sure always n w ≡ true =
    subst (λ (ts : List Step). sure always n (ideal_after x ts) ≡ true) (sym is)
    (sure_after always x n m via clock b earlier later counts (subst (Each (IsSafe always x)) is ok)) in
    one_item n m ss w (filter (is_of_sending n) w) agree refl (some_of n w (sure_stands always n w stood)) (none_twice x ss n)
    (own_all n (IsTraced ss) w (traced x ss))
