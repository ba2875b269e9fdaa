-- An incident put last: who waits, who is held, and what may be put.
use Rattle.std.proofs.Common.{◌≡◌, ◌<◌, ◌≤◌, ◌+◌, ℕ, zero, suc, List, [], ◌∷◌, ◌++◌, map, take, length, Bool, true, false, cond, refl, sym, ap, ◌∙◌, Some, None, arith, subst, append-nil}
use Rattle.std.specs.Prelude.{slice_get, nat_lt, ◌&&◌}
use Rattle.std.specs.List.{find, filter}
use Rattle.std.specs.List.Sorted.{IsPermutation}
use Rattle.std.proofs.lemmas.Bool.{le-ltb}
use Rattle.std.proofs.lemmas.List.{take_more}
use Rattle.std.proofs.lemmas.List.Sorted.{IsPermutation-push_more}
use Rattle.std.proofs.lemmas.Option.{slice_get_within, get_or_from_slice_get}
use Rattle.std.proofs.lemmas.Cmp.{nat_list_eq_equiv}
use Rattle.arc_data.specs.Classes.{same_class_equiv}
use Rattle.arc_data.specs.Incidents.{is_of, Ascends, Each}
use Rattle.arc_data.specs.declared.incident.Incident.{Incident}
use Rattle.centre_rules.specs.Desks.{is_free}
use Rattle.incidents.specs.Tables.{IsSingle, TableValue}
use Rattle.open_incidents.specs.Holding.{held_numbers, is_held, with_number}
use Rattle.open_incidents.specs.Waiting.{pair_of, waiting}
use Rattle.open_incidents.proofs.Holders.{held_append}
use Rattle.open_incidents.proofs.Parts.{Pairs, waits, waits_not, waiting_append}

-- Who waits.

pub put_free : (is : List Incident) (x : Incident) (queue more : Pairs) → is_free x ≡ true → IsPermutation (waiting is) queue → IsPermutation (pair_of x ∷ queue) more → IsPermutation (waiting (is ++ x ∷ [])) more
put_free is x queue more free same here =
    subst (λ (l : Pairs). IsPermutation l more) (sym (waiting_append is (x ∷ []) ∙ ap (λ (l : Pairs). waiting is ++ l) (waits x [] free)))
    (IsPermutation-push_more (waiting is) queue more (pair_of x) same here)

pub put_taken : (is : List Incident) (x : Incident) (queue : Pairs) → is_free x ≡ false → IsPermutation (waiting is) queue → IsPermutation (waiting (is ++ x ∷ [])) queue
put_taken is x queue held same =
    subst (λ (l : Pairs). IsPermutation l queue) (sym (waiting_append is (x ∷ []) ∙ ap (λ (l : Pairs). waiting is ++ l) (waits_not x [] held) ∙ append-nil (waiting is))) same

-- Who is held.

one_held : (x : Incident) (b : Bool) → is_held x ≡ b → held_numbers (x ∷ []) ≡ cond b (x.number ∷ []) []
one_held x true e = ap (λ b. map (λ (i : Incident). i.number) (cond b (x ∷ []) [])) e
one_held x false e = ap (λ b. map (λ (i : Incident). i.number) (cond b (x ∷ []) [])) e

pub held_not : (is : List Incident) (x : Incident) (ns : List ℕ) → is_held x ≡ false → ns ≡ held_numbers is → ns ≡ held_numbers (is ++ x ∷ [])
held_not is x ns free same = same ∙ sym (held_append is (x ∷ []) ∙ ap (λ l. held_numbers is ++ l) (one_held x false free) ∙ append-nil (held_numbers is))

not_less : (n m : ℕ) → m < n → nat_lt n m ≡ false
not_less n m lt = le-ltb n m (omega (arith, lt))

last_if : (n m : ℕ) (ms : List ℕ) (b : Bool) → b ≡ false → with_number n ms ≡ ms ++ n ∷ [] → cond b (n ∷ m ∷ ms) (m ∷ with_number n ms) ≡ m ∷ ms ++ n ∷ []
last_if n m ms true e rest = absurd (cc)
last_if n m ms false e rest = ap (λ l. m ∷ l) rest

abbrev numbers : List Incident → List ℕ
numbers is = map (λ (i : Incident). i.number) is

held_if : (n : ℕ) (i : Incident) (js : List Incident) (b : Bool) → i.number < n → with_number n (numbers js) ≡ numbers js ++ n ∷ []
    → with_number n (numbers (cond b (i ∷ js) js)) ≡ numbers (cond b (i ∷ js) js) ++ n ∷ []
held_if n i js true lt rest = last_if n i.number (numbers js) (nat_lt n i.number) (not_less n i.number lt) rest
held_if n i js false lt rest = rest

with_last : (n : ℕ) (is : List Incident) → Each (λ i. i.number < n) is → with_number n (held_numbers is) ≡ held_numbers is ++ n ∷ []
with_last n [] above = refl
with_last n (i ∷ is) above = held_if n i (filter is_held is) (is_held i) above.0 (with_last n is above.1)

pub held_put : (is : List Incident) (x : Incident) (ms ns : List ℕ) → is_held x ≡ true → Each (λ i. i.number < x.number) is → ms ≡ held_numbers is → ns ≡ with_number x.number ms → ns ≡ held_numbers (is ++ x ∷ [])
held_put is x ms ns held above same put =
    put ∙ ap (with_number x.number) same ∙ with_last x.number is above ∙ sym (held_append is (x ∷ []) ∙ ap (λ l. held_numbers is ++ l) (one_held x true held))

-- What may be put: the next of incidents in order, none of which is of its account and class.

pub next_of : {A : Type 0} (xs : List A) (i : ℕ) (x : A) → slice_get xs i ≡ Some x → take (i + 1) xs ≡ take i xs ++ x ∷ []
next_of xs i x e = take_more xs i x (slice_get_within xs i x e) ∙ ap (λ y. take i xs ++ y ∷ []) (get_or_from_slice_get xs i x x e)

pub number_within : (low : ℕ) (is : List Incident) (high place : ℕ) (x : Incident) → slice_get is place ≡ Some x → Ascends low is high → (low < x.number) × (x.number ≤ high)
number_within low [] high place x at up = absurd (cc)
number_within low (i ∷ is) high zero x at up = let same : i ≡ x = cc in (subst (λ (j : Incident). low < j.number) same up.0, subst (λ (j : Incident). j.number ≤ high) same (most i.number is high up.1))
  where
    most : (low : ℕ) (is : List Incident) (high : ℕ) → Ascends low is high → low ≤ high
    most low [] high up = up
    most low (i ∷ is) high up = let rest = most i.number is high up.1 in omega (arith, up.0, rest)
number_within low (i ∷ is) high (suc place) x at up = let rest = number_within i.number is high place x at up.1 in (omega (arith, up.0, rest.0), rest.1)

pub all_below : (low : ℕ) (is : List Incident) (high place : ℕ) (x : Incident) → slice_get is place ≡ Some x → Ascends low is high → Each (λ i. i.number < x.number) (take place is)
all_below low [] high zero x at up = tt
all_below low [] high (suc place) x at up = tt
all_below low (i ∷ is) high zero x at up = tt
all_below low (i ∷ is) high (suc place) x at up = ((number_within i.number is high place x at up.1).0, all_below i.number is high place x at up.1)

-- of their account and class it is the same which of two stands first
of_both : (i j : Incident) → is_of i.account i.class j ≡ is_of j.account j.class i
of_both i j = λ k. nat_list_eq_equiv.symm j.account i.account k && same_class_equiv.symm j.class i.class k

other_at : (i : Incident) (is : List Incident) (place : ℕ) (x : Incident) → slice_get is place ≡ Some x → Each (λ j. is_of i.account i.class j ≡ false) is → is_of i.account i.class x ≡ false
other_at i [] place x at all = absurd (cc)
other_at i (j ∷ is) zero x at all = let same : j ≡ x = cc in subst (λ (y : Incident). is_of i.account i.class y ≡ false) same all.0
other_at i (j ∷ is) (suc place) x at all = other_at i is place x at all.1

pub none_of_it : (is : List Incident) (place : ℕ) (x : Incident) → slice_get is place ≡ Some x → IsSingle is → find (is_of x.account x.class) (take place is) ≡ None
none_of_it [] zero x at single = refl
none_of_it [] (suc place) x at single = refl
none_of_it (i ∷ is) zero x at single = refl
none_of_it (i ∷ is) (suc place) x at single =
    ap (λ b. cond b (Some i) (find (is_of x.account x.class) (take place is))) (sym (of_both i x) ∙ other_at i is place x at single.0)
    ∙ none_of_it is place x at single.1

-- so many of the incidents were put into a copy
pub record IsCopied (many : ℕ) (is : List Incident) (count : ℕ) (copy : TableValue) : Type 0 where
  pub opened : copy.opened ≡ many
  pub incidents : copy.incidents ≡ take count is
  pub room : length is ≤ copy.room

pub kept_as : (many : ℕ) (is : List Incident) (count : ℕ) (after copy : TableValue) → after ≡ copy → IsCopied many is count copy → IsCopied many is count after
kept_as many is count after copy e w = subst (λ (t : TableValue). IsCopied many is count t) (sym e) w
