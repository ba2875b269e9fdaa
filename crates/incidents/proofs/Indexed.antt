-- What an index tells goes on to be the numbers of the open incidents.
use Rattle.std.proofs.Common.{◌≡◌, ◌<◌, ◌≤◌, ℕ, zero, suc, ◌+◌, ◌-◌, List, [], ◌∷◌, ◌++◌, length, get_or, map, Bool, true, false, cond, refl, sym, ap, ◌∙◌, Option, Some, None, arith, length-append}
use Rattle.std.specs.Prelude.{◌&&◌}
use Rattle.std.specs.List.{find, remove}
use Rattle.std.specs.Str.{bytes_eq}
use Rattle.std.proofs.lemmas.Bool.{false≢true}
use Rattle.std.proofs.lemmas.Cmp.{nat_list_eq_equiv}
use Rattle.std.proofs.lemmas.List.{length-map}
use Rattle.std.proofs.lemmas.List.Edits.{length-remove}
use Rattle.arc_data.specs.Classes.{same_class, same_class_equiv}
use Rattle.arc_data.specs.declared.incident.Incident.{Incident}
use Rattle.arc_data.specs.declared.signal.Class.{Class}
use Rattle.arc_data.specs.Incidents.{is_of, Each}
use Rattle.incidents.specs.Index.{IndexValue, Tells}
use Rattle.incidents.specs.Tables.{IsIndexed, IsSingle, number_of}
use Rattle.incidents.proofs.Places.{IsAlike, none_found}

-- One account and class.

both_first : (b c : Bool) → (b && c) ≡ true → b ≡ true
both_first true c e = refl
both_first false c e = absurd (false≢true e)

both_second : (b c : Bool) → (b && c) ≡ true → c ≡ true
both_second true c e = e
both_second false c e = absurd (false≢true e)

-- where x is of an account and a class, the others are of these as they are of those of x
same_of : (account : List ℕ) (class : Class) (x j : Incident) → is_of account class x ≡ true → is_of account class j ≡ is_of x.account x.class j
same_of account class x j e =
    let a = nat_list_eq_equiv.congr x.account account j.account (both_first (bytes_eq x.account account) (same_class x.class class) e) in
    let c = same_class_equiv.congr x.class class j.class (both_second (bytes_eq x.account account) (same_class x.class class) e) in
    let p = nat_list_eq_equiv.symm j.account account ∙ sym a ∙ nat_list_eq_equiv.symm x.account j.account in
    let q = same_class_equiv.symm j.class class ∙ sym c ∙ same_class_equiv.symm x.class j.class in
    λ i. p i && q i

none_of : (account : List ℕ) (class : Class) (x : Incident) (is : List Incident) → is_of account class x ≡ true → Each (λ j. is_of x.account x.class j ≡ false) is → find (is_of account class) is ≡ None
none_of account class x [] e w = refl
none_of account class x (i ∷ is) e w = rw (same_of account class x i e ∙ w.0) (none_of account class x is e w.1)

-- A change that leaves number, account and class.

number_if : (b : Bool) (x y : Incident) (o : Option Incident) → x.number ≡ y.number → number_of (cond b (Some x) o) ≡ number_of (cond b (Some y) o)
number_if true x y o e = ap (λ n. Some n) e
number_if false x y o e = refl

number_after : (b : Bool) (x : Incident) (o q : Option Incident) → number_of o ≡ number_of q → number_of (cond b (Some x) o) ≡ number_of (cond b (Some x) q)
number_after true x o q e = refl
number_after false x o q e = e

is_of_alike : (account : List ℕ) (class : Class) (x y : Incident) → IsAlike x y → is_of account class x ≡ is_of account class y
is_of_alike account class x y a = λ i. bytes_eq (a.account i) account && same_class (a.class i) class

number_alike : (account : List ℕ) (class : Class) (x y : Incident) (o : Option Incident) → IsAlike x y → number_of (cond (is_of account class x) (Some x) o) ≡ number_of (cond (is_of account class y) (Some y) o)
number_alike account class x y o a = rw (is_of_alike account class x y a) (number_if (is_of account class y) x y o a.number)

alike_told : (account : List ℕ) (class : Class) (f : Incident → Incident) (is : List Incident) → ((i : Incident) → IsAlike (f i) i) → number_of (find (is_of account class) (map f is)) ≡ number_of (find (is_of account class) is)
alike_told account class f [] a = refl
alike_told account class f (i ∷ is) a =
    number_after (is_of account class (f i)) (f i) (find (is_of account class) (map f is)) (find (is_of account class) is) (alike_told account class f is a)
    ∙ number_alike account class (f i) i (find (is_of account class) is) (a i)

pub alike_indexed : (index : IndexValue) (f : Incident → Incident) (is : List Incident) (room : ℕ) → IsIndexed index is room → ((i : Incident) → IsAlike (f i) i) → IsIndexed index (map f is) room
alike_indexed index f is room w a = record {
  tells = λ account class. w.tells account class ∙ sym (alike_told account class f is a);
  memory = omega (arith, w.memory, length-map is f);
}

-- An incident more.

last_there : (account : List ℕ) (class : Class) (is : List Incident) (x : Incident) → is_of account class x ≡ true → Each (λ j. is_of x.account x.class j ≡ false) is → number_of (find (is_of account class) (is ++ x ∷ [])) ≡ Some x.number
last_there account class [] x e w = rw e refl
last_there account class (i ∷ is) x e w = rw (same_of account class x i e ∙ w.0) (last_there account class is x e w.1)

last_apart : (account : List ℕ) (class : Class) (is : List Incident) (x : Incident) → is_of account class x ≡ false → number_of (find (is_of account class) (is ++ x ∷ [])) ≡ number_of (find (is_of account class) is)
last_apart account class [] x e = rw e refl
last_apart account class (i ∷ is) x e = number_after (is_of account class i) i (find (is_of account class) (is ++ x ∷ [])) (find (is_of account class) is) (last_apart account class is x e)

last_if : (account : List ℕ) (class : Class) (is : List Incident) (x : Incident) (b : Bool) → is_of account class x ≡ b → find (is_of x.account x.class) is ≡ None → number_of (find (is_of account class) (is ++ x ∷ [])) ≡ cond b (Some x.number) (number_of (find (is_of account class) is))
last_if account class is x true e none = last_there account class is x e (none_found (is_of x.account x.class) is none)
last_if account class is x false e none = last_apart account class is x e

pub more_indexed : (old new : IndexValue) (is : List Incident) (room : ℕ) (x : Incident) → IsIndexed old is room → Tells x.account x.class (Some x.number) old new → old.spare ≤ new.spare + 1 → find (is_of x.account x.class) is ≡ None → IsIndexed new (is ++ x ∷ []) room
more_indexed old new is room x w t s none = record {
  tells = λ account class.
      t account class ∙ ap (λ (o : Option ℕ). cond (is_of account class x) (Some x.number) o) (w.tells account class)
      ∙ sym (last_if account class is x (is_of account class x) refl none);
  memory = omega (arith, w.memory, s, length-append is (x ∷ []));
}

-- An incident less.

first_gone : (account : List ℕ) (class : Class) (i : Incident) (is : List Incident) (b : Bool) → is_of account class i ≡ b → Each (λ j. is_of i.account i.class j ≡ false) is → number_of (find (is_of account class) is) ≡ cond b None (number_of (cond b (Some i) (find (is_of account class) is)))
first_gone account class i is true e w = ap number_of (none_of account class i is e w)
first_gone account class i is false e w = refl

later_gone : (i x : Incident) (b c : Bool) (o q : Option Incident) → (b ≡ true → c ≡ false) → number_of o ≡ cond c None (number_of q) → number_of (cond b (Some i) o) ≡ cond c None (number_of (cond b (Some i) q))
later_gone i x true true o q f e = absurd (false≢true (sym (f refl)))
later_gone i x true false o q f e = refl
later_gone i x false c o q f e = e

each_get : (P : Incident → Type 0) (is : List Incident) (place : ℕ) (d : Incident) → Each P is → place < length is → P (get_or is place d)
each_get P [] place d w lt = absurd (omega (arith, lt))
each_get P (i ∷ is) zero d w lt = w.0
each_get P (i ∷ is) (suc place) d w lt = each_get P is place d w.1 (omega (arith, lt))

gone : (account : List ℕ) (class : Class) (is : List Incident) (place : ℕ) (d : Incident) → IsSingle is → place < length is → number_of (find (is_of account class) (remove is place)) ≡ cond (is_of account class (get_or is place d)) None (number_of (find (is_of account class) is))
gone account class [] place d w lt = absurd (omega (arith, lt))
gone account class (i ∷ is) zero d w lt = first_gone account class i is (is_of account class i) refl w.0
gone account class (i ∷ is) (suc place) d w lt =
    let x = get_or is place d in
    later_gone i x (is_of account class i) (is_of account class x) (find (is_of account class) (remove is place)) (find (is_of account class) is)
    (λ e. same_of account class i x e ∙ each_get (λ j. is_of i.account i.class j ≡ false) is place d w.0 (omega (arith, lt)))
    (gone account class is place d w.1 (omega (arith, lt)))

pub less_indexed : (old new : IndexValue) (is : List Incident) (room place : ℕ) (x : Incident) → IsIndexed old is room → IsSingle is → place < length is → x ≡ get_or is place x → Tells x.account x.class None old new → old.spare ≤ new.spare → IsIndexed new (remove is place) (room - 1)
less_indexed old new is room place x w single lt e t s = record {
  tells = λ account class.
      t account class ∙ ap (λ (o : Option ℕ). cond (is_of account class x) None o) (w.tells account class)
      ∙ ap (λ (y : Incident). cond (is_of account class y) None (number_of (find (is_of account class) is))) e
      ∙ sym (gone account class is place x single lt);
  memory = omega (arith, w.memory, s, length-remove is place lt);
}
