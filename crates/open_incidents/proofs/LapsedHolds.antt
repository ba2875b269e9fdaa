-- The most urgent incident that nobody holds at a moment is the first of the queue, or one whose hold has lapsed.
use Rattle.std.proofs.Common.{◌≡◌, ◌<◌, ◌≤◌, ◌+◌, ℕ, List, [], ◌∷◌, drop, length, Bool, true, false, cond, refl, sym, ap, ◌∙◌, Option, Some, None, arith}
use Rattle.std.specs.Prelude.{is_none, is_some}
use Rattle.std.specs.List.{filter}
use Rattle.std.specs.Option.{option_map}
use Rattle.std.proofs.lemmas.List.{drop_all}
use Rattle.arc_data.specs.Incidents.{Ascends, Each}
use Rattle.arc_data.specs.declared.incident.Incident.{Incident}
use Rattle.centre_rules.specs.Desks.{numbered, is_free, is_before, lesser, least, best}
use Rattle.centre_rules.specs.Standing.{has_lapsed, stands_at, standing_of}
use Rattle.centre_rules.proofs.Tables.{least_all, above}
use Rattle.open_incidents.specs.Holding.{is_held}
use Rattle.open_incidents.specs.Lapses.{earlier, lapsed}
use Rattle.open_incidents.proofs.FindHeld.{Next, holders}
use Rattle.open_incidents.proofs.Earlier.{in_parts, swapped}

-- what is made of what was found
pub map_twice : {A : Type 0} (f : Incident → Incident) (g : A → Incident) (o : Option A) → option_map (λ a. f (g a)) o ≡ option_map f (option_map g o)
map_twice f g None = refl
map_twice f g (Some a) = refl

-- One more among those before it.

each_filter : (P : Incident → Type 0) (p : Incident → Bool) (b : Bool) (i : Incident) (js : List Incident) → P i → Each P js → Each P (cond b (i ∷ js) js)
each_filter P p true i js here rest = (here, rest)
each_filter P p false i js here rest = rest

each_kept : (P : Incident → Type 0) (p : Incident → Bool) (is : List Incident) → Each P is → Each P (filter p is)
each_kept P p [] all = tt
each_kept P p (i ∷ is) all = each_filter P p (p i) i (filter p is) all.0 (each_kept P p is all.1)

-- the least of greater numbers is another one
swap_least : (i : Incident) (least_ : Option Incident) → ((j : Incident) → least_ ≡ Some j → i.number < j.number)
    → earlier least_ (Some i) ≡ earlier (Some i) least_
swap_least i None greater = refl
swap_least i (Some j) greater = swapped j i (λ same. omega (arith, same, greater j refl))

module _ (lapse : Option ℕ) (at : ℕ) where
  abbrev stands : Incident → Incident
  stands i = stands_at lapse at i

  lesser_if : (b : Bool) (i j : Incident) → cond b (Some (stands j)) (Some (stands i)) ≡ option_map stands (cond b (Some j) (Some i))
  lesser_if true i j = refl
  lesser_if false i j = refl

  lesser_stood : (i : Incident) (rest : Option Incident) → lesser (stands i) (option_map stands rest) ≡ option_map stands (lesser i rest)
  lesser_stood i None = refl
  lesser_stood i (Some j) = lesser_if (is_before j i) i j

  -- of those that are free, and of those that have lapsed
  abbrev both : List Incident → Option Incident
  both is = earlier (best is) (least (lapsed lapse at is))

  free_none : (b : Bool) (holder : Option (List ℕ)) → is_none holder ≡ true → is_none (cond b None holder) ≡ true
  free_none true holder e = refl
  free_none false holder e = e

  head_free : (i : Incident) (is : List Incident) (free stood : List Incident) → is_free (stands i) ≡ true → filter is_free (standing_of lapse at is) ≡ stood
      → least (filter is_free (standing_of lapse at (i ∷ is))) ≡ lesser (stands i) (least stood)
  head_free i is free stood e rest = ap (λ (b : Bool). least (cond b (stands i ∷ filter is_free (standing_of lapse at is)) (filter is_free (standing_of lapse at is)))) e
      ∙ ap (λ (l : List Incident). lesser (stands i) (least l)) rest

  one_more : (i : Incident) (is : List Incident) (high : ℕ) (free past : Bool) → is_free i ≡ free → is_held i ≡ (cond free false true) → has_lapsed lapse i.touched at ≡ past
      → Ascends i.number is high → best (standing_of lapse at is) ≡ option_map stands (both is) → best (standing_of lapse at (i ∷ is)) ≡ option_map stands (both (i ∷ is))
  one_more i is high true past e f g rise rest =
      let here : is_free (stands i) ≡ true = free_none (has_lapsed lapse i.touched at) i.holder e in
      head_free i is [] (filter is_free (standing_of lapse at is)) here refl
      ∙ ap (lesser (stands i)) rest ∙ lesser_stood i (both is)
      ∙ ap (option_map stands) (
      sym (in_parts (Some i) (best is) (least (lapsed lapse at is)))
      ∙ sym (ap (λ (b : Bool). earlier (least (cond b (i ∷ filter is_free is) (filter is_free is))) (least (lapsed lapse at (i ∷ is)))) e
      ∙ ap (λ (b : Bool). earlier (lesser i (best is)) (least (filter (λ j. has_lapsed lapse j.touched at) (cond b (i ∷ holders is) (holders is))))) f)
      )
  one_more i is high false true e f g rise rest =
      let here : is_free (stands i) ≡ true = ap (λ (b : Bool). is_none (cond b None i.holder)) g in
      let others : (j : Incident) → best is ≡ Some j → i.number < j.number =
      least_all (λ j. i.number < j.number) (filter is_free is) (each_kept (λ j. i.number < j.number) is_free is (above i.number is high rise)) in
      let rest_ = least (lapsed lapse at is) in
      head_free i is [] (filter is_free (standing_of lapse at is)) here refl
      ∙ ap (lesser (stands i)) rest ∙ lesser_stood i (both is)
      ∙ ap (option_map stands) (
      sym (in_parts (Some i) (best is) rest_) ∙ sym (ap (λ (o : Option Incident). earlier o rest_) (swap_least i (best is) others))
      ∙ in_parts (best is) (Some i) rest_
      ∙ sym (ap (λ (b : Bool). earlier (least (cond b (i ∷ filter is_free is) (filter is_free is))) (least (lapsed lapse at (i ∷ is)))) e
      ∙ ap (λ (b : Bool). earlier (best is) (least (filter (λ j. has_lapsed lapse j.touched at) (cond b (i ∷ holders is) (holders is))))) f
      ∙ ap (λ (b : Bool). earlier (best is) (least (cond b (i ∷ lapsed lapse at is) (lapsed lapse at is)))) g)
      )
  one_more i is high false false e f g rise rest =
      let here : is_free (stands i) ≡ false = ap (λ (b : Bool). is_none (cond b None i.holder)) g ∙ e in
      ap (λ (b : Bool). least (cond b (stands i ∷ filter is_free (standing_of lapse at is)) (filter is_free (standing_of lapse at is)))) here
      ∙ rest
      ∙ ap (option_map stands) (
      sym (ap (λ (b : Bool). earlier (least (cond b (i ∷ filter is_free is) (filter is_free is))) (least (lapsed lapse at (i ∷ is)))) e
      ∙ ap (λ (b : Bool). earlier (best is) (least (filter (λ j. has_lapsed lapse j.touched at) (cond b (i ∷ holders is) (holders is))))) f
      ∙ ap (λ (b : Bool). earlier (best is) (least (cond b (i ∷ lapsed lapse at is) (lapsed lapse at is)))) g)
      )

  held_is : (holder : Option (List ℕ)) → is_some holder ≡ cond (is_none holder) false true
  held_is None = refl
  held_is (Some x) = refl

  best_from : (low : ℕ) (is : List Incident) (high : ℕ) → Ascends low is high → best (standing_of lapse at is) ≡ option_map stands (both is)
  best_from low [] high rise = refl
  best_from low (i ∷ is) high rise =
      one_more i is high (is_free i) (has_lapsed lapse i.touched at) refl (held_is i.holder) refl rise.1 (best_from i.number is high rise.1)

  pub best_stood : (is : List Incident) (high : ℕ) → Ascends 0 is high → best (standing_of lapse at is) ≡ option_map stands (both is)
  best_stood is high rise = best_from 0 is high rise

-- So many were looked at: the least of those that have lapsed is that of the first found and those that are left.

abbrev pub Seen : Option ℕ → ℕ → List Incident → Option Incident → ℕ → Type 0
Seen lapse at is first k = earlier first (least (filter (λ i. has_lapsed lapse i.touched at) (drop k (holders is)))) ≡ least (lapsed lapse at is)

nothing_more : (first : Option Incident) → earlier first None ≡ first
nothing_more None = refl
nothing_more (Some i) = refl

module _ (lapse : Option ℕ) (at : ℕ) (is : List Incident) (k : ℕ) (first : Option Incident) where
  abbrev past : Incident → Bool
  past i = has_lapsed lapse i.touched at

  pub all_seen : Seen lapse at is first k → length (holders is) ≤ k → first ≡ least (lapsed lapse at is)
  all_seen seen all =
      sym (nothing_more first) ∙ sym (ap (λ (l : List Incident). earlier first (least (filter past l))) (drop_all k (holders is) all)) ∙ seen

  module _ (n : ℕ) (i : Incident) (w : Next is k n) (seen : Seen lapse at is first k) (found : numbered n is ≡ Some i) where
    told : (b : Bool) → past i ≡ b
        → earlier first (least (cond b (i ∷ filter past (drop (k + 1) (holders is))) (filter past (drop (k + 1) (holders is))))) ≡ least (lapsed lapse at is)
    told b e =
        let same : w.one ≡ i = cc in
        sym (ap (λ (l : List Incident). earlier first (least (filter past l))) (w.rest ∙ ap (λ (j : Incident). j ∷ drop (k + 1) (holders is)) same)
        ∙ ap (λ (c : Bool). earlier first (least (cond c (i ∷ filter past (drop (k + 1) (holders is))) (filter past (drop (k + 1) (holders is)))))) e)
        ∙ seen

    pub one_seen : (next : Option Incident) → true ≡ past i → next ≡ earlier first (Some i) → Seen lapse at is next (k + 1)
    one_seen next e is_ =
        ap (λ (o : Option Incident). earlier o (least (filter past (drop (k + 1) (holders is))))) is_
        ∙ in_parts first (Some i) (least (filter past (drop (k + 1) (holders is)))) ∙ told true (sym e)

    pub one_passed : false ≡ past i → Seen lapse at is first (k + 1)
    one_passed e = told false (sym e)
