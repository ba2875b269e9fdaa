-- One more recorded step: no step becomes unmet, and of the expected one fewer are left.
use Rattle.std.proofs.Common.{◌≡◌, ◌≤◌, ℕ, ◌+◌, List, [], ◌∷◌, ◌++◌, length, get_or, Bool, true, false, cond, refl, sym, ap, ◌∙◌, Option, Some, None, arith}
use Rattle.std.specs.Prelude.{◌&&◌, ◌||◌, not, take, option_and_then, slice_get}
use Rattle.std.specs.List.{filter, find, list_any}
use Rattle.std.proofs.lemmas.Bool.{false≢true}
use Rattle.std.proofs.lemmas.List.Folds.{list_any-append}
use Rattle.std.proofs.lemmas.Option.{get_or_from_slice_get}
use Rattle.arc_data.specs.Steps.{same_step, is_call, is_reached}
use Rattle.arc_data.specs.declared.step.Acted.{Acted}
use Rattle.arc_data.specs.declared.step.Step.{Step}
use Rattle.arc_data.specs.declared.step.Step.TheVariants.{Note}
use Rattle.alarm_rules.specs.Plans.{was_done, was_reached, is_met, is_unmet, places, unmet, remaining, expected_step, left}

-- Tests.

or_left : (b c : Bool) → b ≡ true → (b || c) ≡ true
or_left true c e = refl
or_left false c e = absurd (false≢true e)

or_right : (b c : Bool) → c ≡ true → (b || c) ≡ true
or_right true c e = refl
or_right false c e = e

or_more : (b c d f : Bool) → (b ≡ true → d ≡ true) → (c ≡ true → f ≡ true) → (b || c) ≡ true → (d || f) ≡ true
or_more true c d f g h e = or_left d f (g refl)
or_more false c d f g h e = or_right d f (h e)

and_more : (b c d : Bool) → (c ≡ true → d ≡ true) → (b && c) ≡ true → (b && d) ≡ true
and_more true c d f e = f e
and_more false c d f e = e

not_back : (b c : Bool) → (b ≡ true → c ≡ true) → not c ≡ true → not b ≡ true
not_back true c f e = absurd (false≢true (sym (ap not (f refl)) ∙ e))
not_back false c f e = refl

-- More recorded steps meet no fewer.

any_more : {X : Type 0} (p : X → Bool) (xs ys : List X) → list_any p xs ≡ true → list_any p (xs ++ ys) ≡ true
any_more p xs ys e = list_any-append p xs ys ∙ or_left (list_any p xs) (list_any p ys) e

any_last : {X : Type 0} (p : X → Bool) (xs : List X) (x : X) → p x ≡ true → list_any p (xs ++ x ∷ []) ≡ true
any_last p xs x e = list_any-append p xs (x ∷ []) ∙ or_right (list_any p xs) (list_any p (x ∷ [])) (or_left (p x) false e)

reached_more : (acts : List Acted) (a : Acted) (step : Step) → was_reached acts step ≡ true → was_reached (acts ++ a ∷ []) step ≡ true
reached_more acts a step e =
    and_more (is_call step) (list_any (λ x. same_step x.step step && is_reached x.outcome) acts) (list_any (λ x. same_step x.step step && is_reached x.outcome) (acts ++ a ∷ []))
    (any_more (λ x. same_step x.step step && is_reached x.outcome) acts (a ∷ [])) e

any_reached : (acts : List Acted) (a : Acted) (earlier : List Step) → list_any (was_reached acts) earlier ≡ true → list_any (was_reached (acts ++ a ∷ [])) earlier ≡ true
any_reached acts a [] e = e
any_reached acts a (s ∷ earlier) e =
    or_more (was_reached acts s) (list_any (was_reached acts) earlier) (was_reached (acts ++ a ∷ []) s) (list_any (was_reached (acts ++ a ∷ [])) earlier)
    (reached_more acts a s) (any_reached acts a earlier) e

met_more : (acts : List Acted) (a : Acted) (earlier : List Step) (step : Step) → is_met acts earlier step ≡ true → is_met (acts ++ a ∷ []) earlier step ≡ true
met_more acts a earlier step e =
    or_more (was_done acts step) (is_call step && list_any (was_reached acts) earlier) (was_done (acts ++ a ∷ []) step) (is_call step && list_any (was_reached (acts ++ a ∷ [])) earlier)
    (any_more (λ x. same_step x.step step) acts (a ∷ []))
    (and_more (is_call step) (list_any (was_reached acts) earlier) (list_any (was_reached (acts ++ a ∷ [])) earlier) (any_reached acts a earlier)) e

unmet_back : (steps : List Step) (acts : List Acted) (a : Acted) (place : ℕ) → is_unmet steps (acts ++ a ∷ []) place ≡ true → is_unmet steps acts place ≡ true
unmet_back steps acts a place e =
    not_back (is_met acts (take place steps) (get_or steps place Note)) (is_met (acts ++ a ∷ []) (take place steps) (get_or steps place Note))
    (met_more acts a (take place steps) (get_or steps place Note)) e

-- Of a list, a stronger test leaves fewer.

some_same : (k j : ℕ) → Some k ≡ Some j → k ≡ j
some_same k j e = cc

fewer_if : (b c : Bool) (k : ℕ) (xs ys : List ℕ) → (c ≡ true → b ≡ true) → length ys ≤ length xs → length (cond c (k ∷ ys) ys) ≤ length (cond b (k ∷ xs) xs)
fewer_if true true k xs ys f le = omega (arith, le)
fewer_if true false k xs ys f le = omega (arith, le)
fewer_if false true k xs ys f le = absurd (false≢true (f refl))
fewer_if false false k xs ys f le = le

fewer : (p q : ℕ → Bool) → ((k : ℕ) → q k ≡ true → p k ≡ true) → (ks : List ℕ) → length (filter q ks) ≤ length (filter p ks)
fewer p q f [] = omega arith
fewer p q f (k ∷ ks) = fewer_if (p k) (q k) k (filter p ks) (filter q ks) (f k) (fewer p q f ks)

less_if : (b c : Bool) (k j : ℕ) (xs ys : List ℕ) (o : Option ℕ) → (c ≡ true → b ≡ true) → length ys ≤ length xs → (k ≡ j → c ≡ false) → (o ≡ Some j → length ys + 1 ≤ length xs) → cond b (Some k) o ≡ Some j → length (cond c (k ∷ ys) ys) + 1 ≤ length (cond b (k ∷ xs) xs)
less_if true true k j xs ys o f le g h e = absurd (false≢true (sym (g (some_same k j e))))
less_if true false k j xs ys o f le g h e = omega (arith, le)
less_if false true k j xs ys o f le g h e = absurd (false≢true (f refl))
less_if false false k j xs ys o f le g h e = h e

less : (p q : ℕ → Bool) → ((k : ℕ) → q k ≡ true → p k ≡ true) → (j : ℕ) → q j ≡ false → (ks : List ℕ) → find p ks ≡ Some j → length (filter q ks) + 1 ≤ length (filter p ks)
less p q f j n [] e = cc
less p q f j n (k ∷ ks) e =
    less_if (p k) (q k) k j (filter p ks) (filter q ks) (find p ks) (f k) (fewer p q f ks) (λ s. ap q s ∙ n) (less p q f j n ks) e

-- What is left.

pub left_no_more : (steps : List Step) (acts : List Acted) (a : Acted) → left steps (acts ++ a ∷ []) ≤ left steps acts
unfolding unmet
left_no_more steps acts a = fewer (is_unmet steps acts) (is_unmet steps (acts ++ a ∷ [])) (unmet_back steps acts a) (places steps)

-- the step is met by its own record
met_last : (acts : List Acted) (a : Acted) (earlier : List Step) (step : Step) → same_step a.step step ≡ true → is_met (acts ++ a ∷ []) earlier step ≡ true
met_last acts a earlier step e =
    or_left (was_done (acts ++ a ∷ []) step) (is_call step && list_any (was_reached (acts ++ a ∷ [])) earlier) (any_last (λ x. same_step x.step step) acts a e)

unmet_last : (steps : List Step) (acts : List Acted) (a : Acted) (place : ℕ) (w : Step) → slice_get steps place ≡ Some w → same_step a.step w ≡ true → is_unmet steps (acts ++ a ∷ []) place ≡ false
unmet_last steps acts a place w at e =
    let here = get_or_from_slice_get steps place w Note at in
    ap not (met_last acts a (take place steps) (get_or steps place Note) (ap (λ (s : Step). same_step a.step s) here ∙ e))

-- the place of an expected step
record IsExpected (steps : List Step) (acts : List Acted) (w : Step) : Type 0 where
  pub place : ℕ
  pub first : remaining steps acts ≡ Some place
  pub at : slice_get steps place ≡ Some w

expected_by : (steps : List Step) (acts : List Acted) (w : Step) (o : Option ℕ) → remaining steps acts ≡ o → option_and_then (slice_get steps) o ≡ Some w → IsExpected steps acts w
expected_by steps acts w None r e = cc
expected_by steps acts w (Some place) r e = record { place = place; first = r; at = e }

-- where the expected step is recorded, one fewer at least is left
pub left_falls : (steps : List Step) (acts : List Acted) (a : Acted) (w : Step) → expected_step steps acts ≡ Some w → same_step a.step w ≡ true → left steps (acts ++ a ∷ []) + 1 ≤ left steps acts
unfolding unmet
left_falls steps acts a w e same =
    let x = expected_by steps acts w (remaining steps acts) refl e in
    less (is_unmet steps acts) (is_unmet steps (acts ++ a ∷ [])) (unmet_back steps acts a) x.place (unmet_last steps acts a x.place w x.at same) (places steps) x.first
