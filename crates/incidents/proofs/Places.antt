-- A change or a removal of the incident of a number, and an incident more.
use Rattle.std.proofs.Common.{◌≡◌, ◌<◌, ◌≤◌, ℕ, zero, suc, ◌+◌, ◌-◌, List, [], ◌∷◌, ◌++◌, length, get_or, map, Bool, true, false, cond, eqb, refl, sym, ap, ◌∙◌, Option, Some, None, arith, subst}
use Rattle.std.specs.Prelude.{◌&&◌}
use Rattle.std.specs.List.{find, remove}
use Rattle.std.proofs.lemmas.List.{length-map}
use Rattle.std.proofs.lemmas.List.Edits.{length-remove}
use Rattle.std.proofs.lemmas.Cmp.{nat_list_eq_equiv}
use Rattle.std.proofs.Common.{length-append}
use Rattle.std.proofs.lemmas.Bool.{eqb-true}
use Rattle.arc_data.specs.Classes.{same_class_equiv}
use Rattle.arc_data.specs.declared.incident.Incident.{Incident}
use Rattle.arc_data.specs.declared.signal.Class.{Class}
use Rattle.arc_data.specs.Incidents.{has_number, is_of, Ascends, Each}
use Rattle.incidents.specs.Tables.{IsTable, IsSingle, at_number, without}
use Rattle.incidents.proofs.Numbers.{above_apart, ascends_remove, ascends_more, ascends_put}

-- the first incident of the number is x, at this place
pub record IsAt (n : ℕ) (is : List Incident) (place : ℕ) (x : Incident) : Type 0 where
  pub below : place < length is
  pub here : has_number n x ≡ true
  pub item : x ≡ get_or is place x
  pub first : (j : ℕ) → j < place → has_number n (get_or is j x) ≡ false

first_after : (n : ℕ) (i : Incident) (is : List Incident) (place : ℕ) (x : Incident) → has_number n i ≡ false → ((j : ℕ) → j < place → has_number n (get_or is j x) ≡ false) → (j : ℕ) → j < suc place → has_number n (get_or (i ∷ is) j x) ≡ false
first_after n i is place x e f zero lt = e
first_after n i is place x e f (suc j) lt = f j (omega (arith, lt))

abbrev some_or : Incident → Option Incident → Incident
some_or d None = d
some_or d (Some i) = i

found_if : (n : ℕ) (i : Incident) (is : List Incident) (x : Incident) (b : Bool) → has_number n i ≡ b → cond b (Some i) (find (has_number n) is) ≡ Some x → (find (has_number n) is ≡ Some x → (place : ℕ) × IsAt n is place x)
    → (place : ℕ) × IsAt n (i ∷ is) place x
found_if n i is x true e f rest =
    let same : i ≡ x = ap (λ (o : Option Incident). some_or i o) f in
    (0, record { below = omega arith; here = ap (has_number n) (sym same) ∙ e; item = sym same; first = λ j lt. absurd (omega (arith, lt)) })
found_if n i is x false e f rest =
    let w = rest f in
    (suc w.0, record { below = omega (arith, w.1.below); here = w.1.here; item = w.1.item; first = first_after n i is w.0 x e w.1.first })

pub at_found : (n : ℕ) (is : List Incident) (x : Incident) → find (has_number n) is ≡ Some x → (place : ℕ) × IsAt n is place x
at_found n [] x e = cc
at_found n (i ∷ is) x e = found_if n i is x (has_number n i) refl e (at_found n is x)

later : (n : ℕ) (i : Incident) (is : List Incident) (place : ℕ) (x : Incident) → IsAt n (i ∷ is) (suc place) x → IsAt n is place x
later n i is place x w = record { below = omega (arith, w.below); here = w.here; item = w.item; first = λ j lt. w.first (suc j) (omega (arith, lt)) }

-- numbers above one leave a list as it is

pub map_above : (n : ℕ) (f : Incident → Incident) (low : ℕ) (is : List Incident) (high : ℕ) → n ≤ low → Ascends low is high → at_number n f is ≡ is
map_above n f low [] high le a = refl
map_above n f low (i ∷ is) high le a =
    rw (above_apart n i (omega (arith, le, a.0))) (ap (λ l. i ∷ l) (map_above n f i.number is high (omega (arith, le, a.0)) a.1))

pub filter_above : (n low : ℕ) (is : List Incident) (high : ℕ) → n ≤ low → Ascends low is high → without n is ≡ is
filter_above n low [] high le a = refl
filter_above n low (i ∷ is) high le a =
    rw (above_apart n i (omega (arith, le, a.0))) (ap (λ l. i ∷ l) (filter_above n i.number is high (omega (arith, le, a.0)) a.1))

number_at : (n : ℕ) (i x : Incident) → x ≡ i → has_number n x ≡ true → has_number n i ≡ true
number_at n i x e h = ap (has_number n) (sym e) ∙ h

pub equal_le : (a n : ℕ) → eqb a n ≡ true → n ≤ a
equal_le a n e = omega (arith, eqb-true a n e)

pub remove_there : (n low : ℕ) (is : List Incident) (high place : ℕ) (x : Incident) → Ascends low is high → IsAt n is place x → remove is place ≡ without n is
remove_there n low [] high place x a w = absurd (omega (arith, w.below))
remove_there n low (i ∷ is) high zero x a w =
    let same : x ≡ i = w.item in
    let h = number_at n i x same w.here in
    rw h (sym (filter_above n i.number is high (equal_le i.number n h) a.1))
remove_there n low (i ∷ is) high (suc place) x a w =
    rw (w.first 0 (omega arith)) (ap (λ l. i ∷ l) (remove_there n i.number is high place x a.1 (later n i is place x w)))

-- No incident has the number.

abbrev pub IsFree : ℕ → List Incident → Type 0
IsFree n is = Each (λ i. has_number n i ≡ false) is

pub map_free : (n : ℕ) (f : Incident → Incident) (is : List Incident) → IsFree n is → at_number n f is ≡ is
map_free n f [] w = refl
map_free n f (i ∷ is) w = rw w.0 (ap (λ l. i ∷ l) (map_free n f is w.1))

pub find_free : (n : ℕ) (is : List Incident) → IsFree n is → find (has_number n) is ≡ None
find_free n [] w = refl
find_free n (i ∷ is) w = rw w.0 (find_free n is w.1)

pub without_free : (n : ℕ) (is : List Incident) → IsFree n is → without n is ≡ is
without_free n [] w = refl
without_free n (i ∷ is) w = rw w.0 (ap (λ l. i ∷ l) (without_free n is w.1))

-- No two are of one account and class, also after such a change.

pub each_remove : (P : Incident → Type 0) (is : List Incident) (place : ℕ) → Each P is → Each P (remove is place)
each_remove P [] zero w = tt
each_remove P [] (suc place) w = tt
each_remove P (i ∷ is) zero w = w.1
each_remove P (i ∷ is) (suc place) w = (w.0, each_remove P is place w.1)

-- two incidents of one account and class, and of one number
pub record IsAlike (x y : Incident) : Type 0 where
  pub number : x.number ≡ y.number
  pub account : x.account ≡ y.account
  pub class : x.class ≡ y.class

alike_not_of : (account : List ℕ) (class : Class) (x y : Incident) → IsAlike x y → is_of account class y ≡ false → is_of account class x ≡ false
alike_not_of account class x y a e = rw (a.account, a.class) e

alike_each : (account : List ℕ) (class : Class) (f : Incident → Incident) (is : List Incident) → ((i : Incident) → IsAlike (f i) i) → Each (λ j. is_of account class j ≡ false) is → Each (λ j. is_of account class j ≡ false) (map f is)
alike_each account class f [] a w = tt
alike_each account class f (i ∷ is) a w = (alike_not_of account class (f i) i (a i) w.0, alike_each account class f is a w.1)

of_alike : (x y : Incident) (is : List Incident) → IsAlike x y → Each (λ j. is_of y.account y.class j ≡ false) is → Each (λ j. is_of x.account x.class j ≡ false) is
of_alike x y is a w = rw (a.account, a.class) w

alike_single : (f : Incident → Incident) (is : List Incident) → ((i : Incident) → IsAlike (f i) i) → IsSingle is → IsSingle (map f is)
alike_single f [] a w = tt
alike_single f (i ∷ is) a w = (of_alike (f i) i (map f is) (a i) (alike_each i.account i.class f is a w.0), alike_single f is a w.1)

alike_ascends : (low : ℕ) (f : Incident → Incident) (is : List Incident) (high : ℕ) → ((i : Incident) → IsAlike (f i) i) → Ascends low is high → Ascends low (map f is) high
alike_ascends low f [] high alike a = a
alike_ascends low f (i ∷ is) high alike a =
    (omega (arith, a.0, (alike i).number), subst (λ (n : ℕ). Ascends n (map f is) high) (sym (alike i).number) (alike_ascends i.number f is high alike a.1))

pub single_remove : (is : List Incident) (place : ℕ) → IsSingle is → IsSingle (remove is place)
single_remove [] zero w = tt
single_remove [] (suc place) w = tt
single_remove (i ∷ is) zero w = w.1
single_remove (i ∷ is) (suc place) w = (each_remove (λ j. is_of i.account i.class j ≡ false) is place w.0, single_remove is place w.1)

each_more : (P : Incident → Type 0) (is : List Incident) (x : Incident) → Each P is → P x → Each P (is ++ x ∷ [])
each_more P [] x w p = (p, tt)
each_more P (i ∷ is) x w p = (w.0, each_more P is x w.1 p)

none_if : (p : Incident → Bool) (i : Incident) (is : List Incident) (b : Bool) → p i ≡ b → cond b (Some i) (find p is) ≡ None → (find p is ≡ None → Each (λ j. p j ≡ false) is) → Each (λ j. p j ≡ false) (i ∷ is)
none_if p i is true e h f = cc
none_if p i is false e h f = (e, f h)

pub none_found : (p : Incident → Bool) (is : List Incident) → find p is ≡ None → Each (λ j. p j ≡ false) is
none_found p [] e = tt
none_found p (i ∷ is) e = none_if p i is (p i) refl e (none_found p is)

turned : (x i : Incident) → is_of x.account x.class i ≡ false → is_of i.account i.class x ≡ false
turned x i e = (λ j. nat_list_eq_equiv.symm x.account i.account j && same_class_equiv.symm x.class i.class j) ∙ e

single_more : (is : List Incident) (x : Incident) → IsSingle is → Each (λ j. is_of x.account x.class j ≡ false) is → IsSingle (is ++ x ∷ [])
single_more [] x w none = (tt, tt)
single_more (i ∷ is) x w none = (each_more (λ j. is_of i.account i.class j ≡ false) is x w.0 (turned x i none.0), single_more is x w.1 none.1)

-- The same, said of a table.

pub alike_table : (opened room memory : ℕ) (f : Incident → Incident) (is : List Incident) → IsTable opened is room memory → ((i : Incident) → IsAlike (f i) i) → IsTable opened (map f is) room memory
alike_table opened room memory f is t a = record {
  ascends = alike_ascends 0 f is opened a t.ascends;
  single = alike_single f is a t.single;
  within = omega (arith, t.within, length-map is f);
  kept = t.kept;
}

pub more_table : (opened room memory more : ℕ) (is : List Incident) (i : Incident) → memory ≤ more → IsTable opened is room memory → i.number ≡ opened + 1 → find (is_of i.account i.class) is ≡ None → length is < room → IsTable (opened + 1) (is ++ i ∷ []) room more
more_table opened room memory more is i le t e none lt = record {
  ascends = ascends_more i 0 is opened e t.ascends;
  single = single_more is i t.single (none_found (is_of i.account i.class) is none);
  within = omega (arith, lt, length-append is (i ∷ []));
  kept = omega (arith, t.kept, le);
}

pub put_table : (opened room memory more : ℕ) (is : List Incident) (i : Incident) → memory ≤ more → IsTable opened is room memory → 0 < i.number → Each (λ j. j.number < i.number) is → i.number ≤ opened → find (is_of i.account i.class) is ≡ None → length is < room → IsTable opened (is ++ i ∷ []) room more
put_table opened room memory more is i grown t positive above le none lt = record {
  ascends = ascends_put i 0 is opened positive above le t.ascends;
  single = single_more is i t.single (none_found (is_of i.account i.class) is none);
  within = omega (arith, lt, length-append is (i ∷ []));
  kept = omega (arith, t.kept, grown);
}

pub less_table : (n opened room memory left : ℕ) (is : List Incident) (place : ℕ) (x : Incident) → memory ≤ left + 1 → IsTable opened is room memory → IsAt n is place x → IsTable opened (remove is place) (room - 1) left
less_table n opened room memory left is place x le t w = record {
  ascends = ascends_remove 0 is opened place t.ascends w.below;
  single = single_remove is place t.single;
  within = omega (arith, t.within, length-remove is place w.below);
  kept = omega (arith, t.kept, le);
}
