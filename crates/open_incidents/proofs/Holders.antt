-- The numbers of the incidents that are held, where a list of incidents falls into parts.
use Rattle.std.proofs.Common.{◌≡◌, ◌<◌, ◌≤◌, ◌+◌, ℕ, List, [], ◌∷◌, ◌++◌, map, length, Bool, true, false, cond, refl, sym, ap, ◌∙◌, Some, None, arith, eqb}
use Rattle.std.specs.Prelude.{not, nat_lt}
use Rattle.std.specs.List.{filter}
use Rattle.std.proofs.lemmas.Bool.{eqb-true, lt-ltb, le-ltb}
use Rattle.std.proofs.lemmas.List.{map-append, length-map}
use Rattle.std.proofs.lemmas.List.Elements.{filter-append}
use Rattle.arc_data.specs.Incidents.{has_number, Ascends}
use Rattle.arc_data.specs.declared.incident.Incident.{Incident}
use Rattle.centre_rules.specs.Desks.{numbered}
use Rattle.incidents.specs.Tables.{at_number, without, held}
use Rattle.incidents.proofs.Places.{none_found}
use Rattle.open_incidents.specs.Holding.{is_held, held_numbers, with_number, without_number}
use Rattle.open_incidents.proofs.Parts.{around, none_changed, none_past}

-- One incident before others.

head_if : (b : Bool) (i : Incident) (is : List Incident)
    → map (λ i. i.number) (cond b (i ∷ filter is_held is) (filter is_held is)) ≡ cond b (i.number ∷ held_numbers is) (held_numbers is)
head_if true i is = refl
head_if false i is = refl

head : (i : Incident) (is : List Incident) (b : Bool) → is_held i ≡ b
    → held_numbers (i ∷ is) ≡ cond b (i.number ∷ held_numbers is) (held_numbers is)
head i is b e =
    head_if (is_held i) i is ∙ ap (λ (c : Bool). cond c (i.number ∷ held_numbers is) (held_numbers is)) e

-- two of one number, both of which are held or neither
pub same_head : (i j : Incident) (is js : List Incident) → is_held i ≡ is_held j → i.number ≡ j.number → held_numbers is ≡ held_numbers js
    → held_numbers (i ∷ is) ≡ held_numbers (j ∷ js)
same_head i j is js alike number rest =
    head i is (is_held j) alike ∙ (λ k. cond (is_held j) (number k ∷ rest k) (rest k)) ∙ sym (head j js (is_held j) refl)

pub same_all : (f : Incident → Incident) (is : List Incident) → ((i : Incident) → is_held (f i) ≡ is_held i)
    → ((i : Incident) → (f i).number ≡ i.number) → held_numbers (map f is) ≡ held_numbers is
same_all f [] alike number = refl
same_all f (i ∷ is) alike number = same_head (f i) i (map f is) is (alike i) (number i) (same_all f is alike number)

few_if : (b : Bool) (n : ℕ) (ns : List ℕ) (i : Incident) (is : List Incident) → length ns ≤ length is → length (cond b (n ∷ ns) ns) ≤ length (i ∷ is)
few_if true n ns i is le = omega (arith, le)
few_if false n ns i is le = omega (arith, le)

-- no more are held than are open
pub few_held : (is : List Incident) → length (held_numbers is) ≤ length is
few_held [] = omega arith
few_held (i ∷ is) = omega (arith, ap length (head i is (is_held i) refl), few_if (is_held i) i.number (held_numbers is) i is (few_held is))

pub held_append : (is js : List Incident) → held_numbers (is ++ js) ≡ held_numbers is ++ held_numbers js
held_append is js =
    ap (map (λ i. i.number)) (filter-append is_held is js) ∙ map-append (λ i. i.number) (filter is_held is) (filter is_held js)

-- A hold ends.

abbrev emptied : Incident → Incident
emptied i = held None 0 i

-- whether the number is that one, and whether it was held
out_if : (b h : Bool) (n m : ℕ) (ms ns : List ℕ) → eqb m n ≡ b → ns ≡ without_number n ms
    → cond b ns (cond h (m ∷ ns) ns) ≡ without_number n (cond h (m ∷ ms) ms)
out_if true true n m ms ns e rest = rest ∙ sym (ap (λ (c : Bool). cond (not c) (m ∷ without_number n ms) (without_number n ms)) e)
out_if true false n m ms ns e rest = rest
out_if false true n m ms ns e rest =
    ap (λ (l : List ℕ). m ∷ l) rest ∙ sym (ap (λ (c : Bool). cond (not c) (m ∷ without_number n ms) (without_number n ms)) e)
out_if false false n m ms ns e rest = rest

-- the one of a number, or another one
other_if : (b : Bool) (j : Incident) (is : List Incident)
    → held_numbers (cond b (emptied j) j ∷ is) ≡ cond b (held_numbers is) (cond (is_held j) (j.number ∷ held_numbers is) (held_numbers is))
other_if true j is = refl
other_if false j is = head j is (is_held j) refl

left_if : (b : Bool) (j : Incident) (is : List Incident)
    → held_numbers (cond (not b) (j ∷ is) is) ≡ cond b (held_numbers is) (cond (is_held j) (j.number ∷ held_numbers is) (held_numbers is))
left_if true j is = refl
left_if false j is = head j is (is_held j) refl

pub released_numbers : (n : ℕ) (is : List Incident) → held_numbers (at_number n emptied is) ≡ without_number n (held_numbers is)
released_numbers n [] = refl
released_numbers n (j ∷ is) =
    other_if (has_number n j) j (at_number n emptied is)
    ∙ out_if (has_number n j) (is_held j) n j.number (held_numbers is) (held_numbers (at_number n emptied is)) refl (released_numbers n is)
    ∙ ap (without_number n) (sym (head j is (is_held j) refl))

pub closed_numbers : (n : ℕ) (is : List Incident) → held_numbers (without n is) ≡ without_number n (held_numbers is)
closed_numbers n [] = refl
closed_numbers n (j ∷ is) =
    left_if (has_number n j) j (without n is)
    ∙ out_if (has_number n j) (is_held j) n j.number (held_numbers is) (held_numbers (without n is)) refl (closed_numbers n is)
    ∙ ap (without_number n) (sym (head j is (is_held j) refl))

-- A hold begins.

-- before those that come after it
first_if : (b : Bool) (n m : ℕ) (ms : List ℕ) → n < m → with_number n ms ≡ n ∷ ms → with_number n (cond b (m ∷ ms) ms) ≡ n ∷ cond b (m ∷ ms) ms
first_if true n m ms lt rest = ap (λ (c : Bool). cond c (n ∷ m ∷ ms) (m ∷ with_number n ms)) (lt-ltb n m lt)
first_if false n m ms lt rest = rest

put_first : (n low : ℕ) (is : List Incident) (high : ℕ) → n ≤ low → Ascends low is high → with_number n (held_numbers is) ≡ n ∷ held_numbers is
put_first n low [] high le rise = refl
put_first n low (j ∷ is) high le rise =
    ap (with_number n) (head j is (is_held j) refl)
    ∙ first_if (is_held j) n j.number (held_numbers is) (omega (arith, rise.0, le))
    (put_first n j.number is high (omega (arith, rise.0, le)) rise.1)
    ∙ ap (λ (l : List ℕ). n ∷ l) (sym (head j is (is_held j) refl))

-- behind one that is less
later_if : (b : Bool) (n m : ℕ) (ms : List ℕ) → m < n → cond b (m ∷ with_number n ms) (with_number n ms) ≡ with_number n (cond b (m ∷ ms) ms)
later_if true n m ms lt = sym (ap (λ (c : Bool). cond c (n ∷ m ∷ ms) (m ∷ with_number n ms)) (le-ltb n m (omega (arith, lt))))
later_if false n m ms lt = refl

above_if : (n : ℕ) (j i : Incident) (is : List Incident) (low : ℕ) (b : Bool) → has_number n j ≡ b → low < j.number
    → (numbered n is ≡ Some i → j.number < n) → cond b (Some j) (numbered n is) ≡ Some i → low < n
above_if n j i is low true t lt rest e = omega (arith, lt, eqb-true j.number n t)
above_if n j i is low false t lt rest e = omega (arith, lt, rest e)

above : (n low : ℕ) (is : List Incident) (high : ℕ) (i : Incident) → Ascends low is high → numbered n is ≡ Some i → low < n
above n low [] high i rise e = absurd (cc)
above n low (j ∷ is) high i rise e =
    above_if n j i is low (has_number n j) refl rise.0 (above n j.number is high i rise.1) e

module _ (n : ℕ) (by : List ℕ) (at : ℕ) where
  abbrev taken : Incident → Incident
  taken i = held (Some by) at i

  begun_if : (j i : Incident) (is : List Incident) (high : ℕ) (b : Bool) → has_number n j ≡ b → Ascends j.number is high → is_held i ≡ false
      → (numbered n is ≡ Some i → held_numbers (at_number n taken is) ≡ with_number n (held_numbers is))
      → cond b (Some j) (numbered n is) ≡ Some i
      → held_numbers (cond b (taken j) j ∷ at_number n taken is) ≡ with_number n (held_numbers (j ∷ is))
  begun_if j i is high true t rise free rest e =
      let same : j ≡ i = cc in
      let number : j.number ≡ n = eqb-true j.number n t in
      let none = none_past n j.number is high (omega (arith, number)) rise in
      let mine : is_held j ≡ false = ap is_held same ∙ free in
      (λ k. number k ∷ held_numbers (none_changed n taken is none k))
      ∙ sym (put_first n j.number is high (omega (arith, number)) rise) ∙ ap (with_number n) (sym (head j is false mine))
  begun_if j i is high false t rise free rest e =
      head j (at_number n taken is) (is_held j) refl
      ∙ ap (λ (l : List ℕ). cond (is_held j) (j.number ∷ l) l) (rest e)
      ∙ later_if (is_held j) n j.number (held_numbers is) (above n j.number is high i rise e)
      ∙ ap (with_number n) (sym (head j is (is_held j) refl))

  -- nobody held it
  pub begun : (low : ℕ) (is : List Incident) (high : ℕ) (i : Incident) → Ascends low is high → numbered n is ≡ Some i → is_held i ≡ false
      → held_numbers (at_number n taken is) ≡ with_number n (held_numbers is)
  begun low [] high i rise e free = absurd (cc)
  begun low (j ∷ is) high i rise e free =
      begun_if j i is high (has_number n j) refl rise.1 free (λ found. begun j.number is high i rise.1 found free) e

  -- it was held before
  pub still : (is : List Incident) (high : ℕ) (i : Incident) → Ascends 0 is high → numbered n is ≡ Some i → is_held i ≡ true
      → held_numbers (at_number n taken is) ≡ held_numbers is
  still is high i rise e mine =
      let w = around n 0 is high i rise e in
      ap held_numbers (w.changed taken) ∙ held_append w.before (taken i ∷ w.after)
      ∙ ap (λ (l : List ℕ). held_numbers w.before ++ l) (same_head (taken i) i w.after w.after (sym mine) refl refl)
      ∙ sym (held_append w.before (i ∷ w.after)) ∙ ap held_numbers (sym w.whole)

  -- there is none of the number
  pub none_begun : (is : List Incident) → numbered n is ≡ None → held_numbers (at_number n taken is) ≡ held_numbers is
  none_begun is none = ap held_numbers (none_changed n taken is (none_found (has_number n) is none))

longer_if : (b : Bool) (n m : ℕ) (ms : List ℕ) → length (with_number n ms) ≡ length ms + 1
    → length (cond b (n ∷ m ∷ ms) (m ∷ with_number n ms)) ≡ length (m ∷ ms) + 1
longer_if true n m ms e = omega arith
longer_if false n m ms e = omega (arith, e)

longer : (n : ℕ) (ms : List ℕ) → length (with_number n ms) ≡ length ms + 1
longer n [] = omega arith
longer n (m ∷ ms) = longer_if (nat_lt n m) n m ms (longer n ms)

-- one that nobody holds is open beside those that are held
pub room_free : (n : ℕ) (is : List Incident) (high : ℕ) (i : Incident) → Ascends 0 is high → numbered n is ≡ Some i → is_held i ≡ false
    → length (held_numbers is) < length is
room_free n is high i rise e free =
    let after = at_number n (held (Some []) 0) is in
    omega (
      arith,
      longer n (held_numbers is),
      ap length (begun n [] 0 0 is high i rise e free),
      few_held after,
      length-map is (λ j. cond (has_number n j) (held (Some []) 0 j) j),
    )
