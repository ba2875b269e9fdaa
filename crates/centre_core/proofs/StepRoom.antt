-- An act of each of some steps, none of them twice: with the steps that are not met they are no more than the steps.
use Rattle.std.proofs.Common.{◌≡◌, ◌<◌, ◌≤◌, ◌+◌, ℕ, zero, suc, List, [], ◌∷◌, length, Bool, true, false, cond, Some, refl, sym, ap, ◌∙◌, arith}
use Rattle.std.specs.Prelude.{not, ◌||◌, nat_eq, slice_get, slice_index_or}
use Rattle.std.specs.List.{filter, list_any}
use Rattle.std.proofs.lemmas.Bool.{false≢true, eqb-true}
use Rattle.std.proofs.lemmas.List.FromFn.{length-range_with_len, get_or-range_with_len}
use Rattle.std.proofs.lemmas.Option.{slice_get_within, slice_get-get_or, get_or_from_slice_get}
use Rattle.arc_data.specs.Steps.{same_step, same_step_equiv, step_place}
use Rattle.arc_data.specs.declared.step.Acted.{Acted}
use Rattle.arc_data.specs.declared.step.Step.{Step}
use Rattle.arc_data.specs.declared.step.Step.TheVariants.{Note}
use Rattle.alarm_rules.specs.Plans.{was_done, is_unmet, places, unmet, left}
use Rattle.summary_rules.specs.Lists.{Every}
use Rattle.summary_rules.specs.Conditions.{AreActsOf}

-- Tests of items.

record IsFound {A : Type 0} (p : A → Bool) (xs : List A) : Type 0 where
  place : ℕ
  item : A
  at : slice_get xs place ≡ Some item
  is : p item ≡ true

any_found : {A : Type 0} (p : A → Bool) (xs : List A) → list_any p xs ≡ true → IsFound p xs
any_found p [] e = absurd (false≢true e)
any_found {A = A} p (x ∷ xs) e = by (p x) refl e (any_found p xs)
  where
    by : (b : Bool) → p x ≡ b → (b || list_any p xs) ≡ true → (list_any p xs ≡ true → IsFound p xs) → IsFound p (x ∷ xs)
    by true here e rest = record { place = 0; item = x; at = refl; is = here }
    by false here e rest = let w = rest e in record { place = suc w.place; item = w.item; at = w.at; is = w.is }

or_true : (b : Bool) → (b || true) ≡ true
or_true true = refl
or_true false = refl

any_there : {A : Type 0} (p : A → Bool) (xs : List A) (k : ℕ) (x : A) → slice_get xs k ≡ Some x → p x ≡ true → list_any p xs ≡ true
any_there p [] k x at is = absurd cc
any_there p (y ∷ xs) zero x at is = let same : y ≡ x = cc in ap (λ b. b || list_any p xs) (ap p same ∙ is)
any_there p (y ∷ xs) (suc k) x at is = ap (λ b. p y || b) (any_there p xs k x at is) ∙ or_true (p y)

-- Filters.

less_if : (b c : Bool) (k : ℕ) (xs ys : List ℕ) → (c ≡ true → b ≡ true) → length ys ≤ length xs → length (cond c (k ∷ ys) ys) ≤ length (cond b (k ∷ xs) xs)
less_if true true k xs ys f le = omega (arith, le)
less_if true false k xs ys f le = omega (arith, le)
less_if false true k xs ys f le = absurd (false≢true (f refl))
less_if false false k xs ys f le = le

less : (p q : ℕ → Bool) → ((k : ℕ) → q k ≡ true → p k ≡ true) → (ks : List ℕ) → length (filter q ks) ≤ length (filter p ks)
less p q f [] = omega arith
less p q f (k ∷ ks) = less_if (p k) (q k) k (filter p ks) (filter q ks) (f k) (less p q f ks)

short : (p : ℕ → Bool) (ks : List ℕ) → length (filter p ks) ≤ length ks
short p [] = omega arith
short p (k ∷ ks) = by (p k) (short p ks)
  where
    by : (b : Bool) → length (filter p ks) ≤ length ks → length (cond b (k ∷ filter p ks) (filter p ks)) ≤ length (k ∷ ks)
    by true le = omega (arith, le)
    by false le = omega (arith, le)

falls_if : (b c : Bool) (k : ℕ) (xs ys : List ℕ) → (c ≡ true → b ≡ true) → length ys + 1 ≤ length xs → length (cond c (k ∷ ys) ys) + 1 ≤ length (cond b (k ∷ xs) xs)
falls_if true true k xs ys f le = omega (arith, le)
falls_if true false k xs ys f le = omega (arith, le)
falls_if false true k xs ys f le = absurd (false≢true (f refl))
falls_if false false k xs ys f le = le

here_if : (b c : Bool) (k : ℕ) (xs ys : List ℕ) → b ≡ true → c ≡ false → length ys ≤ length xs → length (cond c (k ∷ ys) ys) + 1 ≤ length (cond b (k ∷ xs) xs)
here_if true true k xs ys e f le = absurd (false≢true (sym f))
here_if true false k xs ys e f le = omega (arith, le)
here_if false c k xs ys e f le = absurd (false≢true e)

-- where a test finds one that the first passes and the second doesn't, the second passes fewer
falls : (p q r : ℕ → Bool) → ((k : ℕ) → q k ≡ true → p k ≡ true) → ((k : ℕ) → r k ≡ true → (p k ≡ true) × (q k ≡ false)) → (ks : List ℕ) → list_any r ks ≡ true
    → length (filter q ks) + 1 ≤ length (filter p ks)
falls p q r f g [] e = absurd (false≢true e)
falls p q r f g (k ∷ ks) e = by (r k) refl e (falls p q r f g ks)
  where
    by : (b : Bool) → r k ≡ b → (b || list_any r ks) ≡ true → (list_any r ks ≡ true → length (filter q ks) + 1 ≤ length (filter p ks)) → length (cond (q k) (k ∷ filter q ks) (filter q ks)) + 1 ≤ length (cond (p k) (k ∷ filter p ks) (filter p ks))
    by true t e rest = here_if (p k) (q k) k (filter p ks) (filter q ks) ((g k t).0) ((g k t).1) (less p q f ks)
    by false t e rest = falls_if (p k) (q k) k (filter p ks) (filter q ks) (f k) (rest e)

-- Steps that are not recorded.

abbrev is_undone : List Step → List Acted → ℕ → Bool
is_undone steps acts k = not (was_done acts (slice_index_or steps k Note))

not_first : (b c : Bool) → not (b || c) ≡ true → not b ≡ true
not_first true c e = e
not_first false c e = refl

not_second : (b c : Bool) → not (b || c) ≡ true → not c ≡ true
not_second true c e = absurd (false≢true e)
not_second false c e = e

-- none of acts of other steps is of this step
none_done : (a : Step) (s : Step) (acts : List Acted) → same_step a s ≡ true → Every (λ other. same_step a other.step ≡ false) acts → was_done acts s ≡ false
none_done a s [] same apart = refl
none_done a s (x ∷ acts) same apart = by (same_step x.step s) refl (none_done a s acts same apart.1)
  where
    by : (b : Bool) → same_step x.step s ≡ b → was_done acts s ≡ false → (b || was_done acts s) ≡ false
    by true t rest =
        let both : step_place a ≡ step_place x.step = eqb-true (step_place a) (step_place s) same ∙ sym (eqb-true (step_place x.step) (step_place s) t) in
        absurd (false≢true (sym apart.0 ∙ ap (λ (n : ℕ). nat_eq n (step_place x.step)) both ∙ same_step_equiv.refl x.step))
    by false t rest = rest

any_place : (p : Step → Bool) (steps : List Step) → list_any p steps ≡ true → list_any (λ k. p (slice_index_or steps k Note)) (places steps) ≡ true
any_place p steps e =
    let w = any_found p steps e in
    let within : w.place < length steps = slice_get_within steps w.place w.item w.at in
    let all : length (places steps) ≡ length steps = length-range_with_len 0 (length steps) in
    let at : slice_get (places steps) w.place ≡ Some w.place =
    slice_get-get_or (places steps) w.place 0 (omega (arith, within, all)) ∙ ap Some (get_or-range_with_len 0 (length steps) w.place 0 within ∙ omega arith) in
    any_there (λ k. p (slice_index_or steps k Note)) (places steps) w.place w.place at (ap p (get_or_from_slice_get steps w.place w.item Note w.at) ∙ w.is)

acts_and_undone : (steps : List Step) (acts : List Acted) → AreActsOf steps acts → length acts + length (filter (is_undone steps acts) (places steps)) ≤ length steps
acts_and_undone steps [] w = omega (arith, short (is_undone steps []) (places steps), length-range_with_len 0 (length steps))
acts_and_undone steps (a ∷ acts) w =
    let at : ℕ → Step = λ k. slice_index_or steps k Note in
    let fewer : length (filter (is_undone steps (a ∷ acts)) (places steps)) + 1 ≤ length (filter (is_undone steps acts) (places steps)) =
    falls (is_undone steps acts) (is_undone steps (a ∷ acts)) (λ k. same_step a.step (slice_index_or steps k Note))
    (λ k e. not_second (same_step a.step (slice_index_or steps k Note)) (was_done acts (slice_index_or steps k Note)) e)
    (λ k e. (ap not (none_done a.step (slice_index_or steps k Note) acts e w.apart.0), ap (λ b. not (b || was_done acts (slice_index_or steps k Note))) e))
    (places steps) (any_place (same_step a.step) steps w.among.0) in
    omega (arith, fewer, acts_and_undone steps acts (record { among = w.among.1; apart = w.apart.1 }))

-- the acts and the steps that are not met
pub acts_and_left : (steps : List Step) (acts : List Acted) → AreActsOf steps acts → length acts + left steps acts ≤ length steps
unfolding unmet
acts_and_left steps acts w =
    let fewer : length (filter (is_unmet steps acts) (places steps)) ≤ length (filter (is_undone steps acts) (places steps)) =
    less (is_undone steps acts) (is_unmet steps acts) (λ k e. not_first (was_done acts (slice_index_or steps k Note)) _ e) (places steps) in
    omega (arith, fewer, acts_and_undone steps acts w)
