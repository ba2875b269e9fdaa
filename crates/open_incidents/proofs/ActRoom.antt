-- Where a step is not met, there is room for an act.
use Rattle.std.proofs.Common.{◌≡◌, ◌<◌, ◌≤◌, ℕ, ◌+◌, List, [], ◌∷◌, ◌++◌, map, length, take, Bool, true, false, cond, refl, sym, ap, ◌∙◌, Option, Some, None, arith, subst, length-append}
use Rattle.std.specs.Prelude.{not, ◌&&◌, ◌||◌, option_and_then, slice_get, slice_index_or, IfSome, IsSome, is_some}
use Rattle.std.specs.List.{find, filter, list_any}
use Rattle.std.proofs.lemmas.Bool.{eqb-true, false≢true}
use Rattle.std.proofs.lemmas.List.FromFn.{length-range_with_len}
use Rattle.std.proofs.lemmas.Option.{get_or_from_slice_get}
use Rattle.arc_data.specs.Incidents.{has_number, Ascends, Each}
use Rattle.arc_data.specs.Steps.{same_step}
use Rattle.arc_data.specs.declared.incident.Incident.{Incident}
use Rattle.arc_data.specs.declared.step.Acted.{Acted}
use Rattle.arc_data.specs.declared.step.Step.{Step}
use Rattle.arc_data.specs.declared.step.Step.TheVariants.{Note}
use Rattle.alarm_rules.specs.Plans.{unmet, is_unmet, is_met, is_call, is_reached, was_done, was_reached, places, remaining, expected_step, left}
use Rattle.centre_rules.specs.Marks.{Mark, Carries, Acts, Closes, Carried}
use Rattle.centre_rules.specs.Cases.{acts_at, opens, fresh}
use Rattle.centre_rules.specs.Tables.{touched_by, table_after}
use Rattle.centre_rules.specs.Desks.{numbered, is_holder}
use Rattle.centre_rules.proofs.Tables.{all_found}
use Rattle.open_incidents.specs.Marked.{HasActRoom, HaveActRoom, FitsAct}

-- Filters.

module _ {X : Type 0} (p q : X → Bool) (less : (x : X) → q x ≡ true → p x ≡ true) where
  less_if : (x : X) (b c : Bool) (xs ys : List X) → p x ≡ b → q x ≡ c → length ys ≤ length xs → length (cond c (x ∷ ys) ys) ≤ length (cond b (x ∷ xs) xs)
  less_if x true true xs ys e f le = omega arith
  less_if x true false xs ys e f le = omega arith
  less_if x false true xs ys e f le = absurd (false≢true (sym e ∙ less x f))
  less_if x false false xs ys e f le = le

  filter_less : (xs : List X) → length (filter q xs) ≤ length (filter p xs)
  filter_less [] = omega arith
  filter_less (x ∷ xs) = less_if x (p x) (q x) (filter p xs) (filter q xs) refl refl (filter_less xs)

  falls_if : (x w : X) (b c : Bool) (xs ps qs : List X) → p x ≡ b → q x ≡ c → q w ≡ false → length qs ≤ length ps → (find p xs ≡ Some w → length qs + 1 ≤ length ps)
      → cond b (Some x) (find p xs) ≡ Some w → length (cond c (x ∷ qs) qs) + 1 ≤ length (cond b (x ∷ ps) ps)
  falls_if x w true true xs ps qs e f g le h t = let same : x ≡ w = cc in absurd (false≢true (sym g ∙ ap q (sym same) ∙ f))
  falls_if x w true false xs ps qs e f g le h t = omega arith
  falls_if x w false true xs ps qs e f g le h t = absurd (false≢true (sym e ∙ less x f))
  falls_if x w false false xs ps qs e f g le h t = h t

  filter_falls : (xs : List X) (w : X) → find p xs ≡ Some w → q w ≡ false → length (filter q xs) + 1 ≤ length (filter p xs)
  filter_falls [] w e g = cc
  filter_falls (x ∷ xs) w e g = falls_if x w (p x) (q x) xs (filter p xs) (filter q xs) refl refl g (filter_less xs) (λ t. filter_falls xs w t g) e

long_if : {X : Type 0} (x w : X) (b : Bool) (found : Option X) (xs : List X) → (found ≡ Some w → 0 < length xs) → cond b (Some x) found ≡ Some w → 0 < length (cond b (x ∷ xs) xs)
long_if x w true found xs rest e = omega arith
long_if x w false found xs rest e = rest e

some_long : {X : Type 0} (p : X → Bool) (xs : List X) (w : X) → find p xs ≡ Some w → 0 < length (filter p xs)
some_long p [] w e = cc
some_long p (x ∷ xs) w e = long_if x w (p x) (find p xs) (filter p xs) (some_long p xs w) e

short_if : {X : Type 0} (x : X) (b : Bool) (xs ys : List X) → length xs ≤ length ys → length (cond b (x ∷ xs) xs) ≤ length (x ∷ ys)
short_if x true xs ys le = omega arith
short_if x false xs ys le = omega arith

filter_short : {X : Type 0} (p : X → Bool) (xs : List X) → length (filter p xs) ≤ length xs
filter_short p [] = omega arith
filter_short p (x ∷ xs) = short_if x (p x) (filter p xs) xs (filter_short p xs)

-- What is met stays met, and a recorded step is met.

or_right : (b c : Bool) → c ≡ true → (b || c) ≡ true
or_right true c e = refl
or_right false c e = e

or_left : (b c : Bool) → b ≡ true → (b || c) ≡ true
or_left true c e = refl
or_left false c e = absurd (false≢true e)

or_both : (a b c d : Bool) → (a ≡ true → b ≡ true) → (c ≡ true → d ≡ true) → (a || c) ≡ true → (b || d) ≡ true
or_both true b c d f g e = or_left b d (f refl)
or_both false b c d f g e = or_right b d (g e)

and_more : (b c d : Bool) → (c ≡ true → d ≡ true) → (b && c) ≡ true → (b && d) ≡ true
and_more true c d f e = f e
and_more false c d f e = e

any_more : (p : Acted → Bool) (xs : List Acted) (y : Acted) → list_any p xs ≡ true → list_any p (xs ++ y ∷ []) ≡ true
any_more p [] y e = absurd (false≢true e)
any_more p (x ∷ xs) y e = or_both (p x) (p x) (list_any p xs) (list_any p (xs ++ y ∷ [])) (λ t. t) (any_more p xs y) e

any_last : (p : Acted → Bool) (xs : List Acted) (y : Acted) → p y ≡ true → list_any p (xs ++ y ∷ []) ≡ true
any_last p [] y e = rw e refl
any_last p (x ∷ xs) y e = or_right (p x) (list_any p (xs ++ y ∷ [])) (any_last p xs y e)

reached_more : (acts : List Acted) (a : Acted) (s : Step) → was_reached acts s ≡ true → was_reached (acts ++ a ∷ []) s ≡ true
reached_more acts a s e = and_more (is_call s) _ _ (any_more (λ b. same_step b.step s && is_reached b.outcome) acts a) e

earlier_more : (acts : List Acted) (a : Acted) (earlier : List Step) → list_any (was_reached acts) earlier ≡ true → list_any (was_reached (acts ++ a ∷ [])) earlier ≡ true
earlier_more acts a [] e = e
earlier_more acts a (s ∷ earlier) e = or_both (was_reached acts s) (was_reached (acts ++ a ∷ []) s) (list_any (was_reached acts) earlier) (list_any (was_reached (acts ++ a ∷ [])) earlier) (reached_more acts a s) (earlier_more acts a earlier) e

met_more : (acts : List Acted) (a : Acted) (earlier : List Step) (s : Step) → is_met acts earlier s ≡ true → is_met (acts ++ a ∷ []) earlier s ≡ true
met_more acts a earlier s e = or_both (was_done acts s) (was_done (acts ++ a ∷ []) s) (is_call s && list_any (was_reached acts) earlier) (is_call s && list_any (was_reached (acts ++ a ∷ [])) earlier) (any_more (λ b. same_step b.step s) acts a) (and_more (is_call s) _ _ (earlier_more acts a earlier)) e

not_more : (b c : Bool) → (b ≡ true → c ≡ true) → not c ≡ true → not b ≡ true
not_more true true f e = e
not_more true false f e = absurd (false≢true (f refl))
not_more false c f e = refl

unmet_less : (steps : List Step) (acts : List Acted) (a : Acted) (place : ℕ) → is_unmet steps (acts ++ a ∷ []) place ≡ true → is_unmet steps acts place ≡ true
unmet_less steps acts a place e = not_more (is_met acts (take place steps) (slice_index_or steps place Note)) (is_met (acts ++ a ∷ []) (take place steps) (slice_index_or steps place Note)) (met_more acts a (take place steps) (slice_index_or steps place Note)) e

done_now : (steps : List Step) (acts : List Acted) (a : Acted) (place : ℕ) (s : Step) → slice_get steps place ≡ Some s → same_step a.step s ≡ true → is_unmet steps (acts ++ a ∷ []) place ≡ false
done_now steps acts a place s e t =
    let at_place : slice_index_or steps place Note ≡ s = get_or_from_slice_get steps place s Note e in
    rw at_place (ap not (or_left (was_done (acts ++ a ∷ []) s) _ (any_last (λ b. same_step b.step s) acts a t)))

-- the first step that is not met, and its place
expected_place : (steps : List Step) (acts : List Acted) (s : Step) (o : Option ℕ) → remaining steps acts ≡ o → option_and_then (slice_get steps) o ≡ Some s → (p : ℕ) × (remaining steps acts ≡ Some p) × (slice_get steps p ≡ Some s)
expected_place steps acts s None e f = cc
expected_place steps acts s (Some p) e f = (p, e, f)

left_falls : (steps : List Step) (acts : List Acted) (a : Acted) (s : Step) → expected_step steps acts ≡ Some s → same_step a.step s ≡ true → left steps (acts ++ a ∷ []) + 1 ≤ left steps acts
unfolding unmet
left_falls steps acts a s e t =
    let w = expected_place steps acts s (remaining steps acts) refl e in
    filter_falls (is_unmet steps acts) (is_unmet steps (acts ++ a ∷ [])) (unmet_less steps acts a) (places steps) w.0 w.1 (done_now steps acts a w.0 s w.2 t)

left_some : (steps : List Step) (acts : List Acted) (s : Step) → expected_step steps acts ≡ Some s → 0 < left steps acts
unfolding unmet
left_some steps acts s e =
    let w = expected_place steps acts s (remaining steps acts) refl e in
    some_long (is_unmet steps acts) (places steps) w.0 w.1

left_short : (steps : List Step) (acts : List Acted) → left steps acts ≤ length steps
unfolding unmet
left_short steps acts = omega (arith, filter_short (is_unmet steps acts) (places steps), length-range_with_len 0 (length steps))

-- Room.

pub room_for : (i : Incident) (s : Step) → HasActRoom i → expected_step i.steps i.acts ≡ Some s → length i.acts < 10
room_for i s r e = omega (arith, r, left_some i.steps i.acts s e)

room_act : (i : Incident) (a : Acted) (s : Step) → HasActRoom i → same_step a.step s ≡ true → expected_step i.steps i.acts ≡ Some s → length (i.acts ++ a ∷ []) + left i.steps (i.acts ++ a ∷ []) ≤ 10
room_act i a s r t e = omega (arith, r, left_falls i.steps i.acts a s e t, length-append i.acts (a ∷ []))

found_if : (n : ℕ) (i j : Incident) (b : Bool) (found : Option Incident) → HasActRoom j → (found ≡ Some i → HasActRoom i) → cond b (Some j) found ≡ Some i → HasActRoom i
found_if n i j true found r rest e = let same : j ≡ i = cc in subst HasActRoom same r
found_if n i j false found r rest e = rest e

pub found_room : (n : ℕ) (is : List Incident) (i : Incident) → HaveActRoom is → numbered n is ≡ Some i → HasActRoom i
found_room n [] i r e = cc
found_room n (j ∷ is) i r e = found_if n i j (has_number n j) (numbered n is) r.0 (found_room n is i r.1) e

pub fits_few : (n : ℕ) (a : Acted) (is : List Incident) → HaveActRoom is → FitsAct n a is → IfSome (find (has_number n) is) (λ i. length i.acts < 10)
fits_few n a is r w = rw w.found (room_for w.incident w.wanted (found_room n is w.incident r w.found) w.first)

holder_some : (o : List ℕ) (h : Option (List ℕ)) → is_holder o h ≡ true → is_some h ≡ true
holder_some o None e = absurd (false≢true e)
holder_some o (Some x) e = refl

pub fits_held : (n : ℕ) (a : Acted) (is : List Incident) → FitsAct n a is → IfSome (find (has_number n) is) (λ i. IsSome i.holder)
fits_held n a is w = rw w.found (holder_some a.operator w.incident.holder w.holder)

-- Room after a mark.

pub room_same : (m : Mark) (is : List Incident) → ((i : Incident) → acts_at i m i.acts ≡ i.acts) → HaveActRoom is → HaveActRoom (map (touched_by m) is)
room_same m [] same r = tt
room_same m (i ∷ is) same r = (subst (λ (l : List Acted). length l + left i.steps l ≤ 10) (sym (same i)) r.0, room_same m is same r.1)

room_if : (b : Bool) (i : Incident) (is : List Incident) → HasActRoom i → HaveActRoom is → HaveActRoom (cond b (i ∷ is) is)
room_if true i is r w = (r, w)
room_if false i is r w = w

room_filter : (p : Incident → Bool) (is : List Incident) → HaveActRoom is → HaveActRoom (filter p is)
room_filter p [] r = tt
room_filter p (i ∷ is) r = room_if (p i) i (filter p is) r.0 (room_filter p is r.1)

pub room_closes : (n opened : ℕ) (is : List Incident) → HaveActRoom is → HaveActRoom (table_after (Closes n) opened is)
room_closes n opened is r = room_filter (λ i. not (has_number n i)) _ (room_same (Closes n) is (λ i. refl) r)

act_one : (n : ℕ) (a : Acted) (all : List Incident) (i : Incident) (b : Bool) → has_number n i ≡ b → FitsAct n a all → numbered i.number all ≡ Some i → HasActRoom i
    → length (cond b (i.acts ++ a ∷ []) i.acts) + left i.steps (cond b (i.acts ++ a ∷ []) i.acts) ≤ 10
act_one n a all i true e w found r =
    let at_n : numbered n all ≡ Some i = ap (λ k. numbered k all) (sym (eqb-true i.number n e)) ∙ found in
    let same : w.incident ≡ i = (let both : Some w.incident ≡ Some i = sym w.found ∙ at_n in cc) in
    room_act i a w.wanted r w.same (ap (λ (x : Incident). expected_step x.steps x.acts) (sym same) ∙ w.first)
act_one n a all i false e w found r = r

each_act : (n : ℕ) (a : Acted) (all is : List Incident) → FitsAct n a all → Each (λ i. numbered i.number all ≡ Some i) is → HaveActRoom is → HaveActRoom (map (touched_by (Acts n a)) is)
each_act n a all [] w v r = tt
each_act n a all (i ∷ is) w v r = (act_one n a all i (has_number n i) refl w v.0 r.0, each_act n a all is w v.1 r.1)

pub room_acts : (n : ℕ) (a : Acted) (is : List Incident) (high : ℕ) → Ascends 0 is high → FitsAct n a is → HaveActRoom is → HaveActRoom (map (touched_by (Acts n a)) is)
room_acts n a is high rise w r = each_act n a is is w (all_found 0 is high rise) r

room_last : (is : List Incident) (i : Incident) → HaveActRoom is → HasActRoom i → HaveActRoom (is ++ i ∷ [])
room_last [] i r e = (e, tt)
room_last (j ∷ is) i r e = (r.0, room_last is i r.1 e)

room_opened : (x : Carried) (opened : ℕ) (is : List Incident) (b : Bool) → length x.steps ≤ 10 → HaveActRoom is → HaveActRoom (cond b (is ++ fresh (opened + 1) x ∷ []) is)
room_opened x opened is true few r = room_last is (fresh (opened + 1) x) r (omega (arith, left_short x.steps [], few))
room_opened x opened is false few r = r

pub room_carries : (x : Carried) (opened : ℕ) (is : List Incident) → length x.steps ≤ 10 → HaveActRoom is → HaveActRoom (table_after (Carries x) opened is)
room_carries x opened is few r = room_same (Carries x) _ (λ i. refl) (room_opened x opened is (opens x is) few r)
