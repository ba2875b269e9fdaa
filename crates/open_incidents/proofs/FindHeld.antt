-- The incident that an operator holds at a moment is among those that have a claimer.
use Rattle.std.proofs.Common.{◌≡◌, ◌<◌, ◌+◌, ℕ, zero, suc, List, [], ◌∷◌, map, length, drop, get_or, Bool, true, false, cond, refl, sym, ap, ◌∙◌, Some, None, arith}
use Rattle.std.specs.Prelude.{◌≤◌, is_some, Option}
use Rattle.std.specs.List.{filter, find}
use Rattle.std.specs.Option.{option_map}
use Rattle.std.proofs.lemmas.List.{drop_all, drop_more, get_or-map, length-map}
use Rattle.arc_data.specs.Incidents.{Ascends, Each}
use Rattle.arc_data.specs.declared.incident.Incident.{Incident}
use Rattle.centre_rules.specs.Desks.{numbered, holds, is_holder, held_by}
use Rattle.centre_rules.specs.Standing.{has_lapsed, stands_at, standing_of}
use Rattle.centre_rules.proofs.Tables.{all_found}
use Rattle.open_incidents.specs.Holding.{is_held, held_numbers}

abbrev pub holders : List Incident → List Incident
holders is = filter is_held is

-- the operator holds the incident at the moment
abbrev pub holds_then : Option ℕ → ℕ → List ℕ → Incident → Bool
holds_then lapse at o i = holds o (stands_at lapse at i)

-- who holds nothing is no holder
not_by : (o : List ℕ) (b : Bool) (holder : Option (List ℕ)) → is_some holder ≡ false → is_holder o (cond b None holder) ≡ false
not_by o true None e = refl
not_by o false None e = refl
not_by o b (Some x) e = cc

module _ (lapse : Option ℕ) (at : ℕ) (o : List ℕ) where
  among_if : (b : Bool) (i : Incident) (is js : List Incident) → is_held i ≡ b → find (holds_then lapse at o) is ≡ find (holds_then lapse at o) js
      → find (holds_then lapse at o) (i ∷ is) ≡ find (holds_then lapse at o) (cond b (i ∷ js) js)
  among_if true i is js e rest = ap (λ (r : Option Incident). cond (holds_then lapse at o i) (Some i) r) rest
  among_if false i is js e rest =
      ap (λ (b : Bool). cond b (Some i) (find (holds_then lapse at o) is)) (not_by o (has_lapsed lapse i.touched at) i.holder e) ∙ rest

  pub among : (is : List Incident) → find (holds_then lapse at o) is ≡ find (holds_then lapse at o) (holders is)
  among [] = refl
  among (i ∷ is) = among_if (is_held i) i is (holders is) refl (among is)

  stood_if : (b : Bool) (i : Incident) (rest stood : Option Incident) → stood ≡ option_map (stands_at lapse at) rest
      → cond b (Some (stands_at lapse at i)) stood ≡ option_map (stands_at lapse at) (cond b (Some i) rest)
  stood_if true i rest stood e = refl
  stood_if false i rest stood e = e

  -- it stands without another's hold
  pub stood : (is : List Incident) → held_by o (standing_of lapse at is) ≡ option_map (stands_at lapse at) (find (holds_then lapse at o) is)
  stood [] = refl
  stood (i ∷ is) = stood_if (holds_then lapse at o i) i (find (holds_then lapse at o) is) (held_by o (standing_of lapse at is)) (stood is)

-- Each of them is found by its number.

each_if : (P : Incident → Type 0) (b : Bool) (i : Incident) (js : List Incident) → P i → Each P js → Each P (cond b (i ∷ js) js)
each_if P true i js here rest = (here, rest)
each_if P false i js here rest = rest

each_held : (P : Incident → Type 0) (is : List Incident) → Each P is → Each P (holders is)
each_held P [] all = tt
each_held P (i ∷ is) all = each_if P (is_held i) i (holders is) all.0 (each_held P is all.1)

each_at : (P : Incident → Type 0) (is : List Incident) (k : ℕ) (d : Incident) → Each P is → k < length is → P (get_or is k d)
each_at P [] k d all lt = absurd (omega (arith, lt))
each_at P (i ∷ is) zero d all lt = all.0
each_at P (i ∷ is) (suc k) d all lt = each_at P is k d all.1 (omega (arith, lt))

-- the one whose number stands at a place, and those from it on
pub record Next (is : List Incident) (k n : ℕ) : Type 0 where
  pub one : Incident
  pub found : numbered n is ≡ Some one
  pub rest : drop k (holders is) ≡ one ∷ drop (k + 1) (holders is)

next_in : (is js : List Incident) (k n : ℕ) → Each (λ i. numbered i.number is ≡ Some i) js → k < length js → n ≡ get_or (map (λ i. i.number) js) k 0
    → (one : Incident) × (numbered n is ≡ Some one) × (drop k js ≡ one ∷ drop (k + 1) js)
next_in is [] k n all lt e = absurd (omega (arith, lt))
next_in is (j ∷ js) k n all lt e =
    let one = get_or (j ∷ js) k j in
    let number : n ≡ one.number = e ∙ get_or-map (λ i. i.number) (j ∷ js) k j 0 lt in (
      one,
      ap (λ (m : ℕ). numbered m is) number ∙ each_at (λ i. numbered i.number is ≡ Some i) (j ∷ js) k j all lt,
      drop_more (j ∷ js) k j lt,
    )

pub next : (is : List Incident) (high k n : ℕ) (ns : List ℕ) → Ascends 0 is high → ns ≡ held_numbers is → k < length ns → n ≡ get_or ns k 0
    → Next is k n
next is high k n ns rise same lt e =
    let all = each_held (λ i. numbered i.number is ≡ Some i) is (all_found 0 is high rise) in
    let w =
    next_in is (holders is) k n all (omega (arith, lt, ap length same, length-map (holders is) (λ i. i.number)))
    (e ∙ ap (λ (l : List ℕ). get_or l k 0) same) in
    record { one = w.0; found = w.1; rest = w.2 }

-- So many were looked at.

-- none of the first so many is that of the operator
abbrev pub Passed : Option ℕ → ℕ → List ℕ → List Incident → ℕ → Type 0
Passed lapse at o is k = find (holds_then lapse at o) is ≡ find (holds_then lapse at o) (drop k (holders is))

pub none_first : (lapse : Option ℕ) (at : ℕ) (o : List ℕ) (is : List Incident) → Passed lapse at o is 0
none_first lapse at o is = among lapse at o is

module _ (lapse : Option ℕ) (at : ℕ) (o : List ℕ) (is : List Incident) (k : ℕ) where
  one_if : (i : Incident) (rest : List Incident) (b : Bool) → holds_then lapse at o i ≡ b
      → find (holds_then lapse at o) (i ∷ rest) ≡ cond b (Some i) (find (holds_then lapse at o) rest)
  one_if i rest b e = ap (λ (c : Bool). cond c (Some i) (find (holds_then lapse at o) rest)) e

  module _ (n : ℕ) (i : Incident) (w : Next is k n) (before : Passed lapse at o is k) (found : numbered n is ≡ Some i) where
    told : (b : Bool) → holds_then lapse at o i ≡ b
        → find (holds_then lapse at o) is ≡ cond b (Some i) (find (holds_then lapse at o) (drop (k + 1) (holders is)))
    told b e =
        let same : w.one ≡ i = cc in
        before ∙ ap (find (holds_then lapse at o)) (w.rest ∙ ap (λ (j : Incident). j ∷ drop (k + 1) (holders is)) same)
        ∙ one_if i (drop (k + 1) (holders is)) b e

    pub this : true ≡ holds_then lapse at o i → Some (stands_at lapse at i) ≡ held_by o (standing_of lapse at is)
    this e = sym (stood lapse at o is ∙ ap (option_map (stands_at lapse at)) (told true (sym e)))

    pub passed : false ≡ holds_then lapse at o i → Passed lapse at o is (k + 1)
    passed e = told false (sym e)

  -- all were looked at
  pub none_left : Passed lapse at o is k → length (holders is) ≤ k → None ≡ held_by o (standing_of lapse at is)
  none_left before all =
      sym (stood lapse at o is ∙ ap (option_map (stands_at lapse at)) (before ∙ ap (find (holds_then lapse at o)) (drop_all k (holders is) all)))

-- each number is that of an open incident
pub is_there : (is : List Incident) (k n : ℕ) → Next is k n → numbered n is ≡ None → ⊥
is_there is k n w none = let e = w.found in cc
