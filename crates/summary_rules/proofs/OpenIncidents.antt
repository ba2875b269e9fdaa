-- Of the open incidents no two are of one account and class, no operator holds two at any moment from the last one on, each has a signal,
-- and one without a claimer was not touched.
use Rattle.std.proofs.Common.{◌≡◌, ◌≤◌, ◌<◌, ℕ, ◌+◌, List, [], ◌∷◌, ◌++◌, Bool, true, false, cond, eqb, Option, Some, None, refl, sym, ap, ◌∙◌, arith, subst, inl, inr}
use Rattle.std.specs.Prelude.{◌&&◌, ◌||◌, ◌==◌, ◌⊎◌, not, nat_lt, is_some}
use Rattle.std.specs.List.{list_any}
use Rattle.std.specs.Str.{bytes_eq}
use Rattle.std.proofs.lemmas.Bool.{false≢true, eqb-true}
use Rattle.std.proofs.lemmas.Bool.Decides.{nat_tests}
use Rattle.std.proofs.lemmas.Cmp.{nat_list_eq_equiv}
use Rattle.arc_data.specs.Classes.{same_class, same_class_equiv, priority_of}
use Rattle.arc_data.specs.Incidents.{is_of, Ascends, Each, has_number}
use Rattle.arc_data.specs.declared.incident.Incident.{Incident}
use Rattle.arc_data.specs.declared.signal.Class.{Class}
use Rattle.arc_data.specs.declared.step.Acted.{Acted}
use Rattle.centre_rules.specs.Summary.{Summary}
use Rattle.centre_rules.specs.Marks.{Mark, Adopts, Starts, Carries, Claims, Acts, Releases, Closes, Carried, lapse}
use Rattle.centre_rules.specs.Cases.{incidents, opened, opens, fresh, is_new, signals_at}
use Rattle.centre_rules.specs.Tables.{touched_by, with_opened, without_closed, table_after}
use Rattle.centre_rules.specs.Standing.{has_lapsed, stands_at, standing}
use Rattle.centre_rules.specs.History.{marks, last}
use Rattle.centre_rules.specs.Desks.{holds, is_holder, held_by, numbered}
use Rattle.centre_rules.proofs.Steps.{incidents_begin, incidents_step, opened_step}
use Rattle.centre_rules.proofs.Stood.{standing_of, stood_found}
use Rattle.centre_rules.proofs.Tables.{ascends_table, all_found}
use Rattle.summary_rules.specs.Lists.{Every, EveryTwo}
use Rattle.summary_rules.specs.Fields.{Given}
use Rattle.summary_rules.specs.Conditions.{IsApart, IsHeldApart}
use Rattle.summary_rules.specs.Laws.{IsUntouched, IsUnheld, HasSignal, AreIncidents, IncidentsStay}
use Rattle.summary_rules.proofs.Everies.{every_weaker}
use Rattle.summary_rules.proofs.Moments.{NewIs, with_new, every_table}
use Rattle.summary_rules.proofs.Pairs.{two_both, two_of, two_map, two_unmap, two_weaker, two_filter, two_more}
use Rattle.summary_rules.proofs.Fine.{IsFine, IsActedAt}
use Rattle.summary_rules.proofs.Keeping.{kept}

first : (b c : Bool) → (b && c) ≡ true → b ≡ true
first true c e = refl
first false c e = absurd (false≢true e)

second : (b c : Bool) → (b && c) ≡ true → c ≡ true
second true c e = e
second false c e = absurd (false≢true e)

is_not : (b : Bool) → not b ≡ true → b ≡ false
is_not true e = absurd (false≢true e)
is_not false e = refl

or_first : (b c : Bool) → (b || c) ≡ false → b ≡ false
or_first true c e = absurd (false≢true (sym e))
or_first false c e = refl

or_second : (b c : Bool) → (b || c) ≡ false → c ≡ false
or_second true c e = absurd (false≢true (sym e))
or_second false c e = e

-- What a mark makes of each two.

-- what the mark leaves open, of what is opened and changed
left_two : (R : Incident → Incident → Type 0) (m : Mark) (is : List Incident) → EveryTwo R is → EveryTwo R (without_closed m is)
left_two R (Closes number) is w = two_filter R (λ i. not (has_number number i)) is w
left_two R m is w = w

more_two : (R : Incident → Incident → Type 0) (b : Bool) (is : List Incident) (i : Incident) → EveryTwo R is → (b ≡ true → Every (λ j. R j i) is) → EveryTwo R (cond b (is ++ i ∷ []) is)
more_two R true is i w f = two_more R is i w (f refl)
more_two R false is i w f = w

-- what has to be known of one that the mark opens, and of each before it
abbrev NewTo : (Incident → Incident → Type 0) → Mark → ℕ → List Incident → Type 0
NewTo R (Carries x) opened is = opens x is ≡ true → Every (λ j. R j (fresh (opened + 1) x)) is
NewTo R m opened is = Unit {0}

with_two : (R : Incident → Incident → Type 0) (m : Mark) (opened : ℕ) (is : List Incident) → EveryTwo R is → NewTo R m opened is → EveryTwo R (with_opened m opened is)
with_two R (Carries x) opened is w f = more_two R (opens x is) is (fresh (opened + 1) x) w f
with_two R m opened is w f = w

table_two : (R S : Incident → Incident → Type 0) (m : Mark) (opened : ℕ) (is : List Incident) → EveryTwo R (with_opened m opened is)
    → ((i j : Incident) → R i j → S (touched_by m i) (touched_by m j)) → EveryTwo S (table_after m opened is)
table_two R S m opened is w f = left_two S m _ (two_map R S (touched_by m) f (with_opened m opened is) w)

-- One of an account and a class.

any_none : (account : List ℕ) (class : Class) (is : List Incident) → list_any (is_of account class) is ≡ false → Every (λ j. is_of account class j ≡ false) is
any_none account class [] e = tt
any_none account class (i ∷ is) e = (or_first (is_of account class i) (list_any (is_of account class) is) e, any_none account class is (or_second (is_of account class i) (list_any (is_of account class) is) e))

turned : (account : List ℕ) (class : Class) (i j : Incident) → i.account ≡ account → i.class ≡ class → is_of account class j ≡ false → IsApart j i
turned account class i j a c e =
    let one : (bytes_eq i.account j.account && same_class i.class j.class) ≡ (bytes_eq j.account i.account && same_class j.class i.class) =
    λ k. nat_list_eq_equiv.symm i.account j.account k && same_class_equiv.symm i.class j.class k in
    let two : (bytes_eq j.account i.account && same_class j.class i.class) ≡ (bytes_eq j.account account && same_class j.class class) =
    λ k. bytes_eq j.account (a k) && same_class j.class (c k) in
    one ∙ two ∙ e

opens_none : (x : Carried) (is : List Incident) → opens x is ≡ true → list_any (is_of x.account x.signal.class) is ≡ false
opens_none x is e =
    is_not (list_any (is_of x.account x.signal.class) is)
    (second (is_new x.signal.kind && nat_lt 0 (priority_of x.signal.class)) (not (list_any (is_of x.account x.signal.class) is)) e)

new_apart : (m : Mark) (opened : ℕ) (is : List Incident) → NewTo IsApart m opened is
new_apart (Carries x) opened is = λ e.
    every_weaker (λ j. is_of x.account x.signal.class j ≡ false) (λ j. IsApart j (fresh (opened + 1) x))
    (λ j w. turned x.account x.signal.class (fresh (opened + 1) x) j refl refl w) is (any_none x.account x.signal.class is (opens_none x is e))
new_apart m opened is = tt

single_table : (m : Mark) (opened : ℕ) (is : List Incident) → EveryTwo IsApart is → EveryTwo IsApart (table_after m opened is)
single_table m opened is w = table_two IsApart IsApart m opened is (with_two IsApart m opened is w (new_apart m opened is)) (λ i j e. e)

-- Holds.

-- of the two as they stand at a moment, the holder of one is not that of the other
abbrev AreApartAt : Option ℕ → ℕ → Incident → Incident → Type 0
AreApartAt seconds at i j = IsHeldApart (stands_at seconds at i) (stands_at seconds at j)

-- who holds one incident does not hold another, by their holders
abbrev Apart : Option (List ℕ) → Option (List ℕ) → Type 0
Apart h k = Given (λ operator. is_holder operator k ≡ false) h

apart_none : (h : Option (List ℕ)) → Apart h None
apart_none None = tt
apart_none (Some operator) = refl

-- nobody, or who it was
abbrev NoOther : Option (List ℕ) → Option (List ℕ) → Type 0
NoOther after before = (after ≡ None) ⊎ (after ≡ before)

apart_still : (h k after other : Option (List ℕ)) → NoOther after h → NoOther other k → Apart h k → Apart after other
apart_still h k after other (inl e) v w = subst (λ (x : Option (List ℕ)). Apart x other) (sym e) tt
apart_still h k after other (inr e) (inl f) w = subst (λ (x : Option (List ℕ)). Apart after x) (sym f) (apart_none after)
apart_still h k after other (inr e) (inr f) w =
    subst (λ (x : Option (List ℕ)). Apart x other) (sym e) (subst (λ (x : Option (List ℕ)). Apart h x) (sym f) w)

abbrev nobody : Option (List ℕ)
nobody = None

no_holder : (b : Bool) → cond b nobody nobody ≡ nobody
no_holder true = refl
no_holder false = refl

-- a hold that has not lapsed yet had not lapsed
no_other : (now before : Bool) (h : Option (List ℕ)) → (now ≡ false → before ≡ false) → NoOther (cond now None h) (cond before None h)
no_other true before h f = inl refl
no_other false before h f = inr (ap (λ (b : Bool). cond b None h) (sym (f refl)))

-- What time does to holds.

later_lapsed : (seconds : Option ℕ) (touched low at : ℕ) → low ≤ at → has_lapsed seconds touched at ≡ false → has_lapsed seconds touched low ≡ false
later_lapsed None touched low at le e = refl
later_lapsed (Some seconds) touched low at le e = grind (arith, nat_tests)

later_apart : (seconds : Option ℕ) (low at : ℕ) → low ≤ at → (i j : Incident) → AreApartAt seconds low i j → AreApartAt seconds at i j
later_apart seconds low at le i j w =
    apart_still (stands_at seconds low i).holder (stands_at seconds low j).holder (stands_at seconds at i).holder (stands_at seconds at j).holder
    (no_other (has_lapsed seconds i.touched at) (has_lapsed seconds i.touched low) i.holder (later_lapsed seconds i.touched low at le))
    (no_other (has_lapsed seconds j.touched at) (has_lapsed seconds j.touched low) j.holder (later_lapsed seconds j.touched low at le)) w

-- What marks do to holds, beside claims.

-- behind the mark, by another lapse, nobody else holds it
abbrev HasNoOther : Mark → Option ℕ → Option ℕ → ℕ → Incident → Type 0
HasNoOther m after before at i = NoOther (stands_at after at (touched_by m i)).holder (stands_at before at i).holder

record StayTwo (m : Mark) (after before : Option ℕ) (at : ℕ) (i j : Incident) : Type 0 where
  apart : AreApartAt before at i j
  one : HasNoOther m after before at i
  other : HasNoOther m after before at j

new_held : (seconds : Option ℕ) (at : ℕ) (m : Mark) (opened : ℕ) (is : List Incident) → NewTo (AreApartAt seconds at) m opened is
new_held seconds at (Carries x) opened is = λ e. every_unheld is
  where
    unheld : (b : Bool) (h : Option (List ℕ)) → Apart h (cond b None None)
    unheld true h = apart_none h
    unheld false h = apart_none h

    every_unheld : (js : List Incident) → Every (λ j. AreApartAt seconds at j (fresh (opened + 1) x)) js
    every_unheld [] = tt
    every_unheld (j ∷ js) = (unheld (has_lapsed seconds 0 at) (stands_at seconds at j).holder, every_unheld js)
new_held seconds at m opened is = tt

new_other : (m : Mark) (after before : Option ℕ) (at opened : ℕ) (is : List Incident) → NewIs (HasNoOther m after before at) m opened is
new_other (Carries x) after before at opened is = λ e. inl (no_holder (has_lapsed after 0 at))
new_other m after before at opened is = tt

stay_table : (m : Mark) (after before : Option ℕ) (at opened : ℕ) (is : List Incident) → EveryTwo (AreApartAt before at) is → Every (HasNoOther m after before at) is
    → EveryTwo (AreApartAt after at) (table_after m opened is)
stay_table m after before at opened is w v =
    let more = with_opened m opened is in
    let apart = with_two (AreApartAt before at) m opened is w (new_held before at m opened is) in
    let each = with_new (HasNoOther m after before at) m opened is v (new_other m after before at opened is) in
    let both = two_of (HasNoOther m after before at) (λ i j. HasNoOther m after before at i × HasNoOther m after before at j) (λ i j p q. (p, q)) more each in
    table_two (StayTwo m after before at) (AreApartAt after at) m opened is
    (two_both (AreApartAt before at) (λ i j. HasNoOther m after before at i × HasNoOther m after before at j) (StayTwo m after before at)
    (λ i j p q. record { apart = p; one = q.0; other = q.1 }) more apart both)
    (λ i j p. apart_still (stands_at before at i).holder (stands_at before at j).holder (stands_at after at (touched_by m i)).holder
    (stands_at after at (touched_by m j)).holder p.one p.other p.apart)

all_so : (P : Incident → Type 0) → ((i : Incident) → P i) → (is : List Incident) → Every P is
all_so P f [] = tt
all_so P f (i ∷ is) = (f i, all_so P f is)

freed : (seconds : Option ℕ) (at : ℕ) (b : Bool) (h : Option (List ℕ)) (touched : ℕ)
    → NoOther (cond (has_lapsed seconds (cond b 0 touched) at) None (cond b None h)) (cond (has_lapsed seconds touched at) None h)
freed seconds at true h touched = inl (no_holder (has_lapsed seconds 0 at))
freed seconds at false h touched = inr refl

-- an act is of who holds it, so its hold has not lapsed

not_lapsed : (operator : List ℕ) (b : Bool) (h : Option (List ℕ)) → is_holder operator (cond b None h) ≡ true → b ≡ false
not_lapsed operator true h e = absurd (false≢true e)
not_lapsed operator false h e = refl

still_held : (seconds : Option ℕ) (all : List Incident) (at number : ℕ) (a : Acted) (i : Incident) (b : Bool) → IsActedAt at number a (standing_of seconds at all)
    → numbered i.number all ≡ Some i → (i.number == number) ≡ b
    → NoOther (cond (has_lapsed seconds (cond (b && is_some i.holder) a.at i.touched) at) None i.holder) (stands_at seconds at i).holder
still_held seconds all at number a i true fine found e =
    let stood = stood_found seconds at number all fine.incident fine.found in
    let same : Some stood.incident ≡ Some i = sym stood.found ∙ ap (λ n. numbered n all) (sym (eqb-true i.number number e)) ∙ found in
    let one : stood.incident ≡ i = cc in
    let is : fine.incident ≡ stands_at seconds at i = stood.same ∙ ap (stands_at seconds at) one in
    let held : holds a.operator (stands_at seconds at i) ≡ true = ap (holds a.operator) (sym is) ∙ fine.held in
    no_other (has_lapsed seconds (cond (is_some i.holder) a.at i.touched) at) (has_lapsed seconds i.touched at) i.holder
    (λ now. not_lapsed a.operator (has_lapsed seconds i.touched at) i.holder held)
still_held seconds all at number a i false fine found e = inr refl

all_still_held : (seconds : Option ℕ) (all : List Incident) (at number : ℕ) (a : Acted) → IsActedAt at number a (standing_of seconds at all)
    → (is : List Incident) → Each (λ i. numbered i.number all ≡ Some i) is → Every (HasNoOther (Acts number a) seconds seconds at) is
all_still_held seconds all at number a fine [] w = tt
all_still_held seconds all at number a fine (i ∷ is) w =
    (still_held seconds all at number a i (i.number == number) fine w.0 refl, all_still_held seconds all at number a fine is w.1)

-- Claims.

-- the first has a lower number; who holds what, of two
record AreTwo (seconds : Option ℕ) (at : ℕ) (i j : Incident) : Type 0 where
  apart : AreApartAt seconds at i j
  rising : i.number < j.number

rising_from : (low : Incident) (is : List Incident) (high : ℕ) → Ascends low.number is high → Every (λ j. low.number < j.number) is
rising_from low [] high a = tt
rising_from low (i ∷ is) high a = (a.0, every_weaker (λ j. i.number < j.number) (λ j. low.number < j.number) (λ j p. omega (arith, p, a.0)) is (rising_from i is high a.1))

rising : (low : ℕ) (is : List Incident) (high : ℕ) → Ascends low is high → EveryTwo (λ i j. i.number < j.number) is
rising low [] high a = tt
rising low (i ∷ is) high a = (rising_from i is high a.1, rising i.number is high a.1)

-- whoever claims one holds neither the one nor the other

apart_of : (b : Bool) (operator : List ℕ) (k : Option (List ℕ)) → is_holder operator k ≡ false → Apart (cond b None (Some operator)) k
apart_of true operator k w = tt
apart_of false operator k w = w

apart_to : (b : Bool) (operator : List ℕ) (h : Option (List ℕ)) → is_holder operator h ≡ false → Apart h (cond b None (Some operator))
apart_to true operator h w = apart_none h
apart_to false operator None w = tt
apart_to false operator (Some x) w = nat_list_eq_equiv.symm operator x ∙ w

apart_claimed : (seconds : Option ℕ) (at moment : ℕ) (operator : List ℕ) (b c : Bool) (h k : Option (List ℕ)) (touched other : ℕ) → (b ≡ true → c ≡ true → ⊥)
    → is_holder operator (cond (has_lapsed seconds touched at) None h) ≡ false → is_holder operator (cond (has_lapsed seconds other at) None k) ≡ false
    → Apart (cond (has_lapsed seconds touched at) None h) (cond (has_lapsed seconds other at) None k)
    → Apart (cond (has_lapsed seconds (cond b moment touched) at) None (cond b (Some operator) h))
    (cond (has_lapsed seconds (cond c moment other) at) None (cond c (Some operator) k))
apart_claimed seconds at moment operator true true h k touched other never v w p = absurd (never refl refl)
apart_claimed seconds at moment operator true false h k touched other never v w p =
    apart_of (has_lapsed seconds moment at) operator (cond (has_lapsed seconds other at) None k) w
apart_claimed seconds at moment operator false true h k touched other never v w p =
    apart_to (has_lapsed seconds moment at) operator (cond (has_lapsed seconds touched at) None h) v
apart_claimed seconds at moment operator false false h k touched other never v w p = p

not_both : (i j n : ℕ) → i < j → eqb i n ≡ true → eqb j n ≡ true → ⊥
not_both i j n lt e f = omega (arith, lt, eqb-true i n e, eqb-true j n f)

-- it holds none of these at the moment
abbrev HoldsNot : Option ℕ → ℕ → List ℕ → Incident → Type 0
HoldsNot seconds at operator i = holds operator (stands_at seconds at i) ≡ false

found_none : (seconds : Option ℕ) (at : ℕ) (operator : List ℕ) (is : List Incident) → held_by operator (standing_of seconds at is) ≡ None
    → Every (HoldsNot seconds at operator) is
found_none seconds at operator [] e = tt
found_none seconds at operator (i ∷ is) e = by (holds operator (stands_at seconds at i)) refl e (found_none seconds at operator is)
  where
    by : (b : Bool) → holds operator (stands_at seconds at i) ≡ b → cond b (Some (stands_at seconds at i)) (held_by operator (standing_of seconds at is)) ≡ None
        → (held_by operator (standing_of seconds at is) ≡ None → Every (HoldsNot seconds at operator) is) → Every (HoldsNot seconds at operator) (i ∷ is)
    by true same none rest = absurd (cc)
    by false differs none rest = (differs, rest none)

-- what is known of two before a claim
record BeforeClaim (seconds : Option ℕ) (at : ℕ) (operator : List ℕ) (i j : Incident) : Type 0 where
  two : AreTwo seconds at i j
  one : HoldsNot seconds at operator i
  other : HoldsNot seconds at operator j

claimed_two : (seconds : Option ℕ) (at : ℕ) (operator : List ℕ) (number moment opened : ℕ) (is : List Incident) → held_by operator (standing_of seconds at is) ≡ None
    → EveryTwo (AreTwo seconds at) is → EveryTwo (AreApartAt seconds at) (table_after (Claims operator number moment) opened is)
claimed_two seconds at operator number moment opened is none w =
    let each = found_none seconds at operator is none in
    let both = two_of (HoldsNot seconds at operator) (λ i j. HoldsNot seconds at operator i × HoldsNot seconds at operator j) (λ i j p q. (p, q)) is each in
    let all = two_both (AreTwo seconds at) (λ i j. HoldsNot seconds at operator i × HoldsNot seconds at operator j) (BeforeClaim seconds at operator)
    (λ i j p q. record { two = p; one = q.0; other = q.1 }) is w both in
    table_two (BeforeClaim seconds at operator) (AreApartAt seconds at) (Claims operator number moment) opened is all
    (λ i j p. apart_claimed seconds at moment operator (i.number == number) (j.number == number) i.holder j.holder i.touched j.touched
    (not_both i.number j.number number p.two.rising) p.one p.other p.two.apart)

-- Each mark. A setup that comes into force may bring another lapse, and releases all.
held_table : (s : Summary) (ms : List Mark) (m : Mark) (at opened : ℕ) (is : List Incident) → IsFine (standing_of (lapse s ms) at is) at m → Ascends 0 is opened
    → EveryTwo (AreApartAt (lapse s ms) at) is → EveryTwo (AreApartAt (lapse s (m ∷ ms)) at) (table_after m opened is)
held_table s ms (Claims operator number moment) at opened is fine a w =
    claimed_two (lapse s ms) at operator number moment opened is fine.none
    (two_both (AreApartAt (lapse s ms) at) (λ i j. i.number < j.number) (AreTwo (lapse s ms) at) (λ i j p q. record { apart = p; rising = q }) is w (rising 0 is opened a))
held_table s ms (Adopts words) at opened is fine a w =
    let after = lapse s (Adopts words ∷ ms) in
    stay_table (Adopts words) after (lapse s ms) at opened is w
    (all_so (HasNoOther (Adopts words) after (lapse s ms) at) (λ i. inl (no_holder (has_lapsed after 0 at))) is)
held_table s ms (Starts moment) at opened is fine a w =
    let seconds = lapse s ms in
    stay_table (Starts moment) seconds seconds at opened is w (all_so (HasNoOther (Starts moment) seconds seconds at) (λ i. inl (no_holder (has_lapsed seconds 0 at))) is)
held_table s ms (Acts number act) at opened is fine a w =
    let seconds = lapse s ms in
    stay_table (Acts number act) seconds seconds at opened is w (all_still_held seconds is at number act fine is (all_found 0 is opened a))
held_table s ms (Releases number) at opened is fine a w =
    let seconds = lapse s ms in
    stay_table (Releases number) seconds seconds at opened is w
    (all_so (HasNoOther (Releases number) seconds seconds at) (λ i. freed seconds at (i.number == number) i.holder i.touched) is)
held_table s ms (Closes number) at opened is fine a w =
    let seconds = lapse s ms in
    stay_table (Closes number) seconds seconds at opened is w
    (all_so (HasNoOther (Closes number) seconds seconds at) (λ i. freed seconds at (i.number == number) i.holder i.touched) is)
held_table s ms m at opened is fine a w =
    let seconds = lapse s ms in
    stay_table m seconds seconds at opened is w (all_so (HasNoOther m seconds seconds at) (λ i. inr refl) is)

-- Touched only with a claimer.

untouched_freed : (b : Bool) (h : Option (List ℕ)) (t : ℕ) → IsUnheld h t → IsUnheld (cond b None h) (cond b 0 t)
untouched_freed true h t w = refl
untouched_freed false h t w = w

untouched_claimed : (b : Bool) (operator : List ℕ) (h : Option (List ℕ)) (at t : ℕ) → IsUnheld h t → IsUnheld (cond b (Some operator) h) (cond b at t)
untouched_claimed true operator h at t w = tt
untouched_claimed false operator h at t w = w

untouched_acted : (b : Bool) (h : Option (List ℕ)) (at t : ℕ) → IsUnheld h t → IsUnheld h (cond (b && is_some h) at t)
untouched_acted true None at t w = w
untouched_acted false None at t w = w
untouched_acted b (Some x) at t w = tt

untouched_by : (m : Mark) (i : Incident) → IsUntouched i → IsUntouched (touched_by m i)
untouched_by (Claims operator number moment) i w = untouched_claimed (i.number == number) operator i.holder moment i.touched w
untouched_by (Acts number acted) i w = untouched_acted (i.number == number) i.holder acted.at i.touched w
untouched_by (Releases number) i w = untouched_freed (i.number == number) i.holder i.touched w
untouched_by (Closes number) i w = untouched_freed (i.number == number) i.holder i.touched w
untouched_by (Adopts text) i w = refl
untouched_by (Starts moment) i w = refl
untouched_by m i w = w

new_untouched : (m : Mark) (opened : ℕ) (is : List Incident) → NewIs IsUntouched m opened is
new_untouched (Carries x) opened is = λ e. refl
new_untouched m opened is = tt

untouched_table : (m : Mark) (opened : ℕ) (is : List Incident) → Every IsUntouched is → Every IsUntouched (table_after m opened is)
untouched_table m opened is w = every_table IsUntouched IsUntouched m opened is w (new_untouched m opened is) (untouched_by m)

-- Signals.

-- after the mark it has one
abbrev WillHaveSignal : Mark → Incident → Type 0
WillHaveSignal m i = 1 ≤ signals_at i m i.signals

counted_if : (b : Bool) (n : ℕ) → 1 ≤ n → 1 ≤ cond b (n + 1) n
counted_if true n le = omega (arith, le)
counted_if false n le = le

counted_more : (m : Mark) (i : Incident) → HasSignal i → WillHaveSignal m i
counted_more (Carries x) i w = counted_if (is_of x.account x.signal.class i && is_new x.signal.kind) i.signals w
counted_more m i w = w

counted_one : (b : Bool) → b ≡ true → 1 ≤ cond b (0 + 1) 0
counted_one true e = omega arith
counted_one false e = absurd (false≢true e)

both_true : (a b c : Bool) → a ≡ true → b ≡ true → c ≡ true → (a && b && c) ≡ true
both_true a b c e f g = rw (e, f, g) refl

new_counted : (m : Mark) (opened : ℕ) (is : List Incident) → NewIs (WillHaveSignal m) m opened is
new_counted (Carries x) opened is = λ e.
    counted_one (is_of x.account x.signal.class (fresh (opened + 1) x) && is_new x.signal.kind)
    (both_true (bytes_eq x.account x.account) (same_class x.signal.class x.signal.class) (is_new x.signal.kind)
    (nat_list_eq_equiv.refl x.account) (same_class_equiv.refl x.signal.class)
    (first (is_new x.signal.kind) (nat_lt 0 (priority_of x.signal.class)) (first (is_new x.signal.kind && nat_lt 0 (priority_of x.signal.class)) (not (list_any (is_of x.account x.signal.class) is)) e)))
new_counted m opened is = tt

counted_table : (m : Mark) (opened : ℕ) (is : List Incident) → Every HasSignal is → Every HasSignal (table_after m opened is)
counted_table m opened is w =
    every_table (WillHaveSignal m) HasSignal m opened is (every_weaker HasSignal (WillHaveSignal m) (counted_more m) is w) (new_counted m opened is) (λ i p. p)

-- All of these, over a history.

record AreKept (s : Summary) (ms : List Mark) (at : ℕ) : Type 0 where
  numbers : Ascends 0 (incidents s ms) (opened s ms)
  single : EveryTwo IsApart (incidents s ms)
  holders : EveryTwo (AreApartAt (lapse s ms) at) (incidents s ms)
  untouched : Every IsUntouched (incidents s ms)
  counted : Every HasSignal (incidents s ms)

one_more : (s : Summary) (ms : List Mark) (at : ℕ) (m : Mark) → IsFine (standing s ms at) at m → AreKept s ms at → AreKept s (m ∷ ms) at
one_more s ms at m fine w =
    let is = incidents s ms in
    let step = sym (incidents_step s m ms) in
    record {
      numbers = rw (incidents_step s m ms, opened_step s m ms) (ascends_table m (opened s ms) is w.numbers);
      single = subst (EveryTwo IsApart) step (single_table m (opened s ms) is w.single);
      holders = subst (EveryTwo (AreApartAt (lapse s (m ∷ ms)) at)) step (held_table s ms m at (opened s ms) is fine w.numbers w.holders);
      untouched = subst (Every IsUntouched) step (untouched_table m (opened s ms) is w.untouched);
      counted = subst (Every HasSignal) step (counted_table m (opened s ms) is w.counted);
    }

-- as time goes on, holds only lapse
kept_later : (s : Summary) (ms : List Mark) (low at : ℕ) → low ≤ at → AreKept s ms low → AreKept s ms at
kept_later s ms low at le w = record {
  numbers = w.numbers;
  single = w.single;
  holders = two_weaker (AreApartAt (lapse s ms) low) (AreApartAt (lapse s ms) at) (later_apart (lapse s ms) low at le) (incidents s ms) w.holders;
  untouched = w.untouched;
  counted = w.counted;
}

begins_kept : (s : Summary) → Ascends 0 s.incidents s.opened → AreIncidents s → AreKept s [] s.last
begins_kept s numbers w =
    let begin = sym (incidents_begin s) in
    let seconds = lapse s [] in
    record {
      numbers = rw (incidents_begin s) numbers;
      single = subst (EveryTwo IsApart) begin w.single;
      holders = subst (EveryTwo (AreApartAt seconds s.last)) begin
          (two_unmap (AreApartAt seconds s.last) IsHeldApart (stands_at seconds s.last) (λ i j p. p) s.incidents w.holders);
      untouched = subst (Every IsUntouched) begin w.untouched;
      counted = subst (Every HasSignal) begin w.counted;
    }

pub incidents_stay : IncidentsStay
incidents_stay s h numbers w legal =
    let k = kept {J = AreKept s} s (record { later = kept_later s; mark = one_more s }) (begins_kept s numbers w) h legal in
    let seconds = lapse s (marks s h) in
    record {
      single = k.single;
      holders = two_map (AreApartAt seconds (last s h)) IsHeldApart (stands_at seconds (last s h)) (λ i j p. p) (incidents s (marks s h)) k.holders;
      untouched = k.untouched;
      counted = k.counted;
    }
