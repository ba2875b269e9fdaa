-- The incidents that wait, where a list of incidents falls into parts.
use Rattle.std.proofs.Common.{◌≡◌, ◌≤◌, ℕ, List, [], ◌∷◌, ◌++◌, map, length, Bool, true, false, cond, refl, sym, ap, ◌∙◌, Some, arith, subst}
use Rattle.std.specs.Prelude.{not, is_some, is_none, Option, None}
use Rattle.std.specs.List.{filter}
use Rattle.std.specs.List.Sorted.{IsPermutation}
use Rattle.std.proofs.lemmas.Bool.{eqb-true}
use Rattle.std.proofs.lemmas.List.{map-append}
use Rattle.std.proofs.lemmas.List.Elements.{filter-append}
use Rattle.std.proofs.lemmas.List.Sorted.{IsPermutation-middle}
use Rattle.arc_data.specs.Incidents.{has_number, Ascends, Each}
use Rattle.arc_data.specs.declared.incident.Incident.{Incident}
use Rattle.centre_rules.specs.Desks.{is_free, numbered}
use Rattle.incidents.specs.Tables.{at_number, without}
use Rattle.incidents.proofs.Numbers.{above_apart}
use Rattle.open_incidents.specs.Waiting.{pair_of, waiting}

abbrev pub Pairs : Type 0
Pairs = List (ℕ × ℕ)

-- Whether an incident is held.

pub free_by : (holder : Option (List ℕ)) → false ≡ is_some holder → is_none holder ≡ true
free_by None e = refl
free_by (Some x) e = cc

pub held_by : (holder : Option (List ℕ)) → true ≡ is_some holder → is_none holder ≡ false
held_by None e = cc
held_by (Some x) e = refl

-- One incident before others.

pub waits : (i : Incident) (is : List Incident) → is_free i ≡ true → waiting (i ∷ is) ≡ pair_of i ∷ waiting is
waits i is free = ap (λ (b : Bool). map pair_of (cond b (i ∷ filter is_free is) (filter is_free is))) free

pub waits_not : (i : Incident) (is : List Incident) → is_free i ≡ false → waiting (i ∷ is) ≡ waiting is
waits_not i is held = ap (λ (b : Bool). map pair_of (cond b (i ∷ filter is_free is) (filter is_free is))) held

head_if : (b : Bool) (i j : Incident) (is js : List Incident) → is_free i ≡ b → is_free j ≡ b → pair_of i ≡ pair_of j → waiting is ≡ waiting js
    → waiting (i ∷ is) ≡ waiting (j ∷ js)
head_if true i j is js e f pair rest = waits i is e ∙ (λ k. pair k ∷ rest k) ∙ sym (waits j js f)
head_if false i j is js e f pair rest = waits_not i is e ∙ rest ∙ sym (waits_not j js f)

-- two of one pair, both of which wait or neither
pub same_head : (i j : Incident) (is js : List Incident) → is_free i ≡ is_free j → pair_of i ≡ pair_of j → waiting is ≡ waiting js
    → waiting (i ∷ is) ≡ waiting (j ∷ js)
same_head i j is js free pair rest = head_if (is_free j) i j is js free refl pair rest

pub same_all : (f : Incident → Incident) (is : List Incident) → ((i : Incident) → is_free (f i) ≡ is_free i)
    → ((i : Incident) → pair_of (f i) ≡ pair_of i) → waiting (map f is) ≡ waiting is
same_all f [] free pair = refl
same_all f (i ∷ is) free pair = same_head (f i) i (map f is) is (free i) (pair i) (same_all f is free pair)

few_if : (b : Bool) (i : Incident) (fs is : List Incident) → length (map pair_of fs) ≤ length is
    → length (map pair_of (cond b (i ∷ fs) fs)) ≤ length (i ∷ is)
few_if true i fs is le = omega (arith, le)
few_if false i fs is le = omega (arith, le)

pub few_wait : (is : List Incident) → length (waiting is) ≤ length is
few_wait [] = omega arith
few_wait (i ∷ is) = few_if (is_free i) i (filter is_free is) is (few_wait is)

-- One among others.

pub waiting_append : (is js : List Incident) → waiting (is ++ js) ≡ waiting is ++ waiting js
waiting_append is js = ap (map pair_of) (filter-append is_free is js) ∙ map-append pair_of (filter is_free is) (filter is_free js)

pub between : (is js : List Incident) (i : Incident) → is_free i ≡ true → waiting (is ++ i ∷ js) ≡ waiting is ++ pair_of i ∷ waiting js
between is js i free = waiting_append is (i ∷ js) ∙ ap (λ (l : Pairs). waiting is ++ l) (waits i js free)

pub between_free : (is js : List Incident) (i : Incident) → is_free i ≡ true
    → IsPermutation (waiting (is ++ i ∷ js)) (pair_of i ∷ waiting (is ++ js))
between_free is js i free =
    subst (λ (l : Pairs). IsPermutation l (pair_of i ∷ waiting (is ++ js))) (sym (between is js i free))
    (subst (λ (l : Pairs). IsPermutation (waiting is ++ pair_of i ∷ waiting js) (pair_of i ∷ l)) (sym (waiting_append is js))
    (IsPermutation-middle (waiting is) (pair_of i) (waiting js)))

pub between_held : (is js : List Incident) (i : Incident) → is_free i ≡ false → waiting (is ++ i ∷ js) ≡ waiting (is ++ js)
between_held is js i held =
    waiting_append is (i ∷ js) ∙ ap (λ (l : Pairs). waiting is ++ l) (waits_not i js held) ∙ sym (waiting_append is js)

-- None of a number.

pub none_left : (n : ℕ) (is : List Incident) → Each (λ j. has_number n j ≡ false) is → without n is ≡ is
none_left n [] none = refl
none_left n (j ∷ is) none =
    ap (λ (b : Bool). cond (not b) (j ∷ without n is) (without n is)) none.0 ∙ ap (λ (l : List Incident). j ∷ l) (none_left n is none.1)

pub none_changed : (n : ℕ) (f : Incident → Incident) (is : List Incident) → Each (λ j. has_number n j ≡ false) is → at_number n f is ≡ is
none_changed n f [] none = refl
none_changed n f (j ∷ is) none =
    ap (λ (b : Bool). cond b (f j) j ∷ at_number n f is) none.0 ∙ ap (λ (l : List Incident). j ∷ l) (none_changed n f is none.1)

pub none_past : (n low : ℕ) (is : List Incident) (high : ℕ) → n ≤ low → Ascends low is high → Each (λ j. has_number n j ≡ false) is
none_past n low [] high le rise = tt
none_past n low (j ∷ is) high le rise =
    (above_apart n j (omega (arith, rise.0, le)), none_past n j.number is high (omega (arith, rise.0, le)) rise.1)

-- The one of a number, and the others.

pub record Around (n : ℕ) (is : List Incident) (i : Incident) : Type 0 where
  pub before : List Incident
  pub after : List Incident
  pub whole : is ≡ before ++ i ∷ after
  pub others : without n is ≡ before ++ after
  pub changed : (f : Incident → Incident) → at_number n f is ≡ before ++ f i ∷ after

around_if : (n : ℕ) (j i : Incident) (is : List Incident) (high : ℕ) (b : Bool) → has_number n j ≡ b → Ascends j.number is high
    → (numbered n is ≡ Some i → Around n is i)
    → cond b (Some j) (numbered n is) ≡ Some i → Around n (j ∷ is) i
around_if n j i is high true t rise rest e =
    let same : j ≡ i = cc in
    let none = none_past n j.number is high (omega (arith, eqb-true j.number n t)) rise in
    record {
      before = [];
      after = is;
      whole = ap (λ (x : Incident). x ∷ is) same;
      others = ap (λ (c : Bool). cond (not c) (j ∷ without n is) (without n is)) t ∙ none_left n is none;
      changed = λ f. ap (λ (c : Bool). cond c (f j) j ∷ at_number n f is) t ∙ (λ k. f (same k) ∷ none_changed n f is none k);
    }
around_if n j i is high false t rise rest e =
    let w = rest e in
    record {
      before = j ∷ w.before;
      after = w.after;
      whole = ap (λ (l : List Incident). j ∷ l) w.whole;
      others = ap (λ (c : Bool). cond (not c) (j ∷ without n is) (without n is)) t ∙ ap (λ (l : List Incident). j ∷ l) w.others;
      changed = λ f. ap (λ (c : Bool). cond c (f j) j ∷ at_number n f is) t ∙ ap (λ (l : List Incident). j ∷ l) (w.changed f);
    }

pub around : (n low : ℕ) (is : List Incident) (high : ℕ) (i : Incident) → Ascends low is high → numbered n is ≡ Some i → Around n is i
around n low [] high i rise e = absurd (cc)
around n low (j ∷ is) high i rise e = around_if n j i is high (has_number n j) refl rise.1 (around n j.number is high i rise.1) e
