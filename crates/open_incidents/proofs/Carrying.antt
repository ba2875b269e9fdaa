-- A signal taken up in place is what its mark makes of all incidents.
use Rattle.std.proofs.Common.{◌≡◌, ◌<◌, ◌≤◌, ◌^◌, ℕ, ◌+◌, List, [], ◌∷◌, ◌++◌, length, map, Bool, true, false, cond, refl, sym, ap, ◌∙◌, Option, Some, None, arith, subst, inl, inr}
use Rattle.std.specs.Prelude.{not, ◌==◌, ◌&&◌, ◌||◌, ◌⊎◌, IfSome, nat_lt, nat_eq}
use Rattle.std.specs.List.{find, list_any}
use Rattle.std.specs.Str.{bytes_eq}
use Rattle.std.proofs.lemmas.Bool.{eqb-true, eq-eqb, false≢true}
use Rattle.std.proofs.lemmas.Bool.Decides.{nat_tests}
use Rattle.std.proofs.lemmas.List.{map-append}
use Rattle.std.proofs.lemmas.Slice.Eq.{bytes_eq-Decides}
use Rattle.arc_data.specs.Classes.{same_class, class_place, priority_of}
use Rattle.arc_data.specs.Incidents.{has_number, is_of, Ascends, Each}
use Rattle.arc_data.specs.declared.signal.Class.{Class}
use Rattle.arc_data.specs.declared.signal.Kind.{Kind}
use Rattle.arc_data.specs.declared.signal.Kind.TheVariants.{New, Again, Restore, Opening, Closing, LogOnly}
use Rattle.arc_data.specs.declared.incident.Incident.{Incident}
use Rattle.incidents.specs.Tables.{TableValue, IsSingle, at_number, attached, restored, raised, number_of}
use Rattle.centre_rules.specs.Marks.{Carries, Carried}
use Rattle.centre_rules.specs.Cases.{opens, is_new, is_restore, fresh}
use Rattle.centre_rules.specs.Tables.{touched_by}
use Rattle.open_incidents.specs.Marked.{marked_table, HasFew, IsFew, HaveActRoom}
use Rattle.open_incidents.proofs.ActRoom.{room_carries}
use Rattle.open_incidents.proofs.Bounds.{few_carries}

-- What a look-up finds.

found_if : (P : Incident → Type 0) (p : Incident → Bool) (i : Incident) (rest : Option Incident) (j : Incident) (b : Bool) → p i ≡ b → P i → (rest ≡ Some j → P j × (p j ≡ true))
    → cond b (Some i) rest ≡ Some j → P j × (p j ≡ true)
found_if P p i rest j true t pi f e = let same : i ≡ j = cc in subst (λ (k : Incident). P k × (p k ≡ true)) same (pi, t)
found_if P p i rest j false t pi f e = f e

pub found_each : (P : Incident → Type 0) (p : Incident → Bool) (is : List Incident) (j : Incident) → Each P is → find p is ≡ Some j → P j × (p j ≡ true)
found_each P p [] j w e = cc
found_each P p (i ∷ is) j w e = found_if P p i (find p is) j (p i) refl w.0 (found_each P p is j w.1) e

none_if : (b : Bool) (i : Incident) (rest : Option Incident) (P : Type 0) → (b ≡ false → rest ≡ None → P) → cond b (Some i) rest ≡ None → P
none_if true i rest P f e = cc
none_if false i rest P f e = f refl e

none_each : (p : Incident → Bool) (is : List Incident) → find p is ≡ None → Each (λ i. p i ≡ false) is
none_each p [] e = tt
none_each p (i ∷ is) e = none_if (p i) i (find p is) (Each (λ k. p k ≡ false) (i ∷ is)) (λ t rest. (t, none_each p is rest)) e

none_any : (p : Incident → Bool) (is : List Incident) → Each (λ i. p i ≡ false) is → list_any p is ≡ false
none_any p [] w = refl
none_any p (i ∷ is) w = rw w.0 (none_any p is w.1)

some_or : (b : Bool) (i j : Incident) (rest : Option Incident) (c : Bool) → (rest ≡ Some j → c ≡ true) → cond b (Some i) rest ≡ Some j → (b || c) ≡ true
some_or true i j rest c f e = refl
some_or false i j rest c f e = f e

some_any : (p : Incident → Bool) (is : List Incident) (j : Incident) → find p is ≡ Some j → list_any p is ≡ true
some_any p [] j e = cc
some_any p (i ∷ is) j e = some_or (p i) i j (find p is) (list_any p is) (some_any p is j) e

-- The one found is the one of its number.

and_first : (a b : Bool) → (a && b) ≡ true → a ≡ true
and_first true b e = refl
and_first false b e = e

and_second : (a b : Bool) → (a && b) ≡ true → b ≡ true
and_second true b e = e
and_second false b e = absurd (false≢true e)

is_of_as : (account : List ℕ) (class : Class) (i k : Incident) → is_of account class i ≡ true → is_of i.account i.class k ≡ is_of account class k
is_of_as account class i k t =
    let a : i.account ≡ account = (bytes_eq-Decides i.account account).0 (and_first (bytes_eq i.account account) (same_class i.class class) t) in
    let b : class_place i.class ≡ class_place class = eqb-true (class_place i.class) (class_place class) (and_second (bytes_eq i.account account) (same_class i.class class) t) in
    λ n. bytes_eq k.account (a n) && nat_eq (class_place k.class) (b n)

not_same : (a b : ℕ) (t : Bool) → (a == b) ≡ t → a < b → t ≡ false
not_same a b true e lt = absurd (omega (arith, eqb-true a b e))
not_same a b false e lt = refl

above_weak : (a b : ℕ) (is : List Incident) → a ≤ b → Each (λ i. b < i.number) is → Each (λ i. a < i.number) is
above_weak a b [] le w = tt
above_weak a b (i ∷ is) le w = (omega (arith, w.0), above_weak a b is le w.1)

above : (low : ℕ) (is : List Incident) (high : ℕ) → Ascends low is high → Each (λ i. low < i.number) is
above low [] high a = tt
above low (i ∷ is) high a = (a.0, above_weak low i.number is (omega (arith, a.0)) (above i.number is high a.1))

other : (n : ℕ) (i : Incident) (b : Bool) → has_number n i ≡ b → n < i.number → b ≡ false
other n i true e lt = absurd (omega (arith, eqb-true i.number n e))
other n i false e lt = refl

others : (account : List ℕ) (class : Class) (i : Incident) (is : List Incident) → is_of account class i ≡ true → Each (λ j. i.number < j.number) is → Each (λ j. is_of i.account i.class j ≡ false) is
    → Each (λ k. has_number i.number k ≡ is_of account class k) is
others account class i [] t w v = tt
others account class i (k ∷ is) t w v = (other i.number k (has_number i.number k) refl w.0 ∙ sym v.0 ∙ is_of_as account class i k t, others account class i is t w.1 v.1)

same_if : (account : List ℕ) (class : Class) (i : Incident) (is : List Incident) (j : Incident) (high : ℕ) (b : Bool) → is_of account class i ≡ b → Ascends i.number is high → Each (λ k. is_of i.account i.class k ≡ false) is
    → (find (is_of account class) is ≡ Some j → Each (λ k. has_number j.number k ≡ is_of account class k) is)
    → cond b (Some i) (find (is_of account class) is) ≡ Some j → Each (λ k. has_number j.number k ≡ is_of account class k) (i ∷ is)
same_if account class i is j high true t a v f e =
    let same : i ≡ j = cc in
    subst (λ (x : Incident). Each (λ k. has_number x.number k ≡ is_of account class k) (i ∷ is)) same (eq-eqb i.number i.number refl ∙ sym t, others account class i is t (above i.number is high a) v)
same_if account class i is j high false t a v f e =
    let w = found_each (λ k. i.number < k.number) (is_of account class) is j (above i.number is high a) e in
    (not_same i.number j.number (i.number == j.number) refl w.0 ∙ sym t, f e)

same_tests : (account : List ℕ) (class : Class) (low : ℕ) (is : List Incident) (high : ℕ) (j : Incident) → Ascends low is high → IsSingle is → find (is_of account class) is ≡ Some j
    → Each (λ k. has_number j.number k ≡ is_of account class k) is
same_tests account class low [] high j a v e = cc
same_tests account class low (i ∷ is) high j a v e = same_if account class i is j high (is_of account class i) refl a.1 v.0 (same_tests account class i.number is high j a.1 v.1) e

-- A change at the number is a change by the test.
module _ (n : ℕ) (p : Incident → Bool) (f g : Incident → Incident) (hit : (i : Incident) → p i ≡ true → f i ≡ g i) (miss : (i : Incident) → p i ≡ false → i ≡ g i) where
  at_if : (i : Incident) (b : Bool) → p i ≡ b → cond b (f i) i ≡ g i
  at_if i true e = hit i e
  at_if i false e = miss i e

  at_each : (is : List Incident) → Each (λ i. has_number n i ≡ p i) is → at_number n f is ≡ map g is
  at_each [] v = refl
  at_each (i ∷ is) v = λ k. (ap (λ b. cond b (f i) i) v.0 ∙ at_if i (p i) refl) k ∷ at_each is v.1 k

map_miss : (p : Incident → Bool) (g : Incident → Incident) → ((i : Incident) → p i ≡ false → i ≡ g i) → (is : List Incident) → Each (λ i. p i ≡ false) is → is ≡ map g is
map_miss p g miss [] v = refl
map_miss p g miss (i ∷ is) v = λ k. miss i v.0 k ∷ map_miss p g miss is v.1 k

-- What the signal does to one incident.

abbrev of_signal : Carried → Incident → Bool
of_signal x = is_of x.account x.signal.class

missed : (x : Carried) (i : Incident) → of_signal x i ≡ false → i ≡ touched_by (Carries x) i
missed x i e = rw e refl

hit_new : (x : Carried) (i : Incident) → x.signal.kind ≡ New → of_signal x i ≡ true → attached i ≡ touched_by (Carries x) i
hit_new x i k e = rw (e, k) refl

hit_again : (x : Carried) (i : Incident) → x.signal.kind ≡ Again → of_signal x i ≡ true → attached i ≡ touched_by (Carries x) i
hit_again x i k e = rw (e, k) refl

hit_restore : (x : Carried) (i : Incident) → x.signal.kind ≡ Restore → of_signal x i ≡ true → restored i ≡ touched_by (Carries x) i
hit_restore x i k e = rw (e, k) refl

hit_news : (x : Carried) → (x.signal.kind ≡ New) ⊎ (x.signal.kind ≡ Again) → (i : Incident) → of_signal x i ≡ true → attached i ≡ touched_by (Carries x) i
hit_news x (inl k) i e = hit_new x i k e
hit_news x (inr k) i e = hit_again x i k e

news : (k : Kind) → (k ≡ New) ⊎ (k ≡ Again) → is_new k ≡ true
news k (inl e) = ap is_new e
news k (inr e) = ap is_new e

-- The whole table.

stays_closed : (x : Carried) (t : TableValue) (is : List Incident) (b : Bool) → opens x t.incidents ≡ b → b ≡ false → is ≡ map (touched_by (Carries x)) t.incidents → record t { incidents = is } ≡ marked_table (Carries x) t
stays_closed x t is true o f e = absurd (false≢true (sym f))
stays_closed x t is false o f e = rw o (λ i. record t { incidents = e i })

no_more : (x : Carried) (t : TableValue) (is : List Incident) → opens x t.incidents ≡ false → is ≡ map (touched_by (Carries x)) t.incidents → record t { incidents = is } ≡ marked_table (Carries x) t
no_more x t is o e = stays_closed x t is (opens x t.incidents) refl o e

and_false : (a b c : Bool) → c ≡ true → (a && b && not c) ≡ false
and_false true true c e = ap not e
and_false true false c e = refl
and_false false b c e = refl

number_found : (f : Option Incident) (n : ℕ) → number_of f ≡ Some n → (j : Incident) × (f ≡ Some j) × (j.number ≡ n)
number_found None n e = cc
number_found (Some j) n e = (j, refl, cc)

number_none : (f : Option Incident) → number_of f ≡ None → f ≡ None
number_none None e = refl
number_none (Some j) e = cc

pub attach_carries : (x : Carried) (t : TableValue) (n : ℕ) → Ascends 0 t.incidents t.opened → IsSingle t.incidents → (x.signal.kind ≡ New) ⊎ (x.signal.kind ≡ Again)
    → number_of (find (of_signal x) t.incidents) ≡ Some n → record t { incidents = at_number n attached t.incidents } ≡ marked_table (Carries x) t
attach_carries x t n a v k e =
    let w = number_found (find (of_signal x) t.incidents) n e in
    let tests = same_tests x.account x.signal.class 0 t.incidents t.opened w.0 a v w.1 in
    no_more x t _ (and_false (is_new x.signal.kind) (nat_lt 0 (priority_of x.signal.class)) (list_any (of_signal x) t.incidents) (some_any (of_signal x) t.incidents w.0 w.1))
    (subst (λ (m : ℕ). at_number m attached t.incidents ≡ map (touched_by (Carries x)) t.incidents) w.2 (at_each w.0.number (of_signal x) attached (touched_by (Carries x)) (hit_news x k) (missed x) t.incidents tests))

restore_closed : (k : Kind) (b c : Bool) → k ≡ Restore → (is_new k && b && c) ≡ false
restore_closed k b c e = rw e refl

pub restore_carries : (x : Carried) (t : TableValue) (n : ℕ) → Ascends 0 t.incidents t.opened → IsSingle t.incidents → x.signal.kind ≡ Restore
    → number_of (find (of_signal x) t.incidents) ≡ Some n → record t { incidents = at_number n restored t.incidents } ≡ marked_table (Carries x) t
restore_carries x t n a v k e =
    let w = number_found (find (of_signal x) t.incidents) n e in
    let tests = same_tests x.account x.signal.class 0 t.incidents t.opened w.0 a v w.1 in
    no_more x t _ (restore_closed x.signal.kind (nat_lt 0 (priority_of x.signal.class)) (not (list_any (of_signal x) t.incidents)) k)
    (subst (λ (m : ℕ). at_number m restored t.incidents ≡ map (touched_by (Carries x)) t.incidents) w.2 (at_each w.0.number (of_signal x) restored (touched_by (Carries x)) (λ i p. hit_restore x i k p) (missed x) t.incidents tests))

none_carries : (x : Carried) (t : TableValue) → opens x t.incidents ≡ false → number_of (find (of_signal x) t.incidents) ≡ None → t ≡ marked_table (Carries x) t
none_carries x t o e = no_more x t t.incidents o (map_miss (of_signal x) (touched_by (Carries x)) (missed x) t.incidents (none_each (of_signal x) t.incidents (number_none (find (of_signal x) t.incidents) e)))

pub restore_none : (x : Carried) (t : TableValue) → x.signal.kind ≡ Restore → number_of (find (of_signal x) t.incidents) ≡ None → t ≡ marked_table (Carries x) t
restore_none x t k e = none_carries x t (restore_closed x.signal.kind (nat_lt 0 (priority_of x.signal.class)) (not (list_any (of_signal x) t.incidents)) k) e

low : (n : ℕ) (b : Bool) → nat_lt 0 n ≡ b → n ≤ 0 → b ≡ false
low n true e le = grind (arith, nat_tests)
low n false e le = refl

high : (n : ℕ) → 0 < n → nat_lt 0 n ≡ true
high n lt = grind (arith, nat_tests)

both : (a b : Bool) → a ≡ true → b ≡ true → (a && b) ≡ true
both a b e f = rw (e, f) refl

low_closed : (a c : Bool) (n : ℕ) → n ≤ 0 → (a && nat_lt 0 n && c) ≡ false
low_closed true c n le = rw (low n (nat_lt 0 n) refl le) refl
low_closed false c n le = refl

pub low_none : (x : Carried) (t : TableValue) → priority_of x.signal.class ≤ 0 → number_of (find (of_signal x) t.incidents) ≡ None → t ≡ marked_table (Carries x) t
low_none x t le e = none_carries x t (low_closed (is_new x.signal.kind) (not (list_any (of_signal x) t.incidents)) (priority_of x.signal.class) le) e

-- A signal that opens an incident.

does_open : (k : Kind) (b c : Bool) → is_new k ≡ true → b ≡ true → c ≡ false → (is_new k && b && not c) ≡ true
does_open k b c e f g = rw (e, f, g) refl

opened_table : (x : Carried) (t : TableValue) (b : Bool) (is : List Incident) (i : Incident) → b ≡ true → is ≡ map (touched_by (Carries x)) t.incidents → i ≡ touched_by (Carries x) (fresh (t.opened + 1) x)
    → record t { opened = t.opened + 1; incidents = is ++ i ∷ [] }
    ≡ record t { opened = cond b (t.opened + 1) t.opened; incidents = map (touched_by (Carries x)) (cond b (t.incidents ++ fresh (t.opened + 1) x ∷ []) t.incidents) }
opened_table x t true is i o e f =
    (λ k. record t { opened = t.opened + 1; incidents = e k ++ f k ∷ [] })
    ∙ ap (λ (l : List Incident). record t { opened = t.opened + 1; incidents = l }) (sym (map-append (touched_by (Carries x)) t.incidents (fresh (t.opened + 1) x ∷ [])))
opened_table x t false is i o e f = absurd (false≢true o)

of_itself : (x : Carried) (n : ℕ) → of_signal x (fresh n x) ≡ true
of_itself x n = both (bytes_eq x.account x.account) (nat_eq (class_place x.signal.class) (class_place x.signal.class)) ((bytes_eq-Decides x.account x.account).1 refl) (eq-eqb (class_place x.signal.class) (class_place x.signal.class) refl)

new_one : (x : Carried) (n : ℕ) → (x.signal.kind ≡ New) ⊎ (x.signal.kind ≡ Again) → raised n x.account x.signal.class x.signal.code x.at x.steps x.via ≡ touched_by (Carries x) (fresh n x)
new_one x n k = hit_news x k (fresh n x) (of_itself x n)

pub raise_carries : (x : Carried) (t : TableValue) → (x.signal.kind ≡ New) ⊎ (x.signal.kind ≡ Again) → 0 < priority_of x.signal.class → number_of (find (of_signal x) t.incidents) ≡ None
    → record t { opened = t.opened + 1; incidents = t.incidents ++ raised (t.opened + 1) x.account x.signal.class x.signal.code x.at x.steps x.via ∷ [] } ≡ marked_table (Carries x) t
raise_carries x t k lt e =
    let none = none_each (of_signal x) t.incidents (number_none (find (of_signal x) t.incidents) e) in
    opened_table x t (opens x t.incidents) t.incidents _ (does_open x.signal.kind (nat_lt 0 (priority_of x.signal.class)) (list_any (of_signal x) t.incidents) (news x.signal.kind k) (high (priority_of x.signal.class) lt) (none_any (of_signal x) t.incidents none))
    (map_miss (of_signal x) (touched_by (Carries x)) (missed x) t.incidents none) (new_one x (t.opened + 1) k)

-- a table is its fields
pub raised_table : (t u : TableValue) (is : List Incident) → u.opened ≡ t.opened + 1 → u.incidents ≡ is → u.room ≡ t.room → u ≡ record t { opened = t.opened + 1; incidents = is }
raised_table t u is e f g = λ k. record { opened = e k; incidents = f k; room = g k }

-- A signal that does nothing to the table.

quiet_if : (x : Carried) (i : Incident) (b : Bool) → of_signal x i ≡ b → is_new x.signal.kind ≡ false → is_restore x.signal.kind ≡ false → i ≡ touched_by (Carries x) i
quiet_if x i true e f r = rw (e, f, r) refl
quiet_if x i false e f r = missed x i e

map_quiet : (x : Carried) (is : List Incident) → is_new x.signal.kind ≡ false → is_restore x.signal.kind ≡ false → is ≡ map (touched_by (Carries x)) is
map_quiet x [] f r = refl
map_quiet x (i ∷ is) f r = λ k. quiet_if x i (of_signal x i) refl f r k ∷ map_quiet x is f r k

no_new : (a b c : Bool) → a ≡ false → (a && b && c) ≡ false
no_new a b c e = rw e refl

quiet_carries : (x : Carried) (t : TableValue) → is_new x.signal.kind ≡ false → is_restore x.signal.kind ≡ false → t ≡ marked_table (Carries x) t
quiet_carries x t f r = no_more x t t.incidents (no_new (is_new x.signal.kind) (nat_lt 0 (priority_of x.signal.class)) (not (list_any (of_signal x) t.incidents)) f) (map_quiet x t.incidents f r)

unlisted : (k : Kind) → (k ≡ Opening) ⊎ ((k ≡ Closing) ⊎ (k ≡ LogOnly)) → (is_new k ≡ false) × (is_restore k ≡ false)
unlisted k (inl e) = (ap is_new e, ap is_restore e)
unlisted k (inr (inl e)) = (ap is_new e, ap is_restore e)
unlisted k (inr (inr e)) = (ap is_new e, ap is_restore e)

pub others_carry : (x : Carried) (t : TableValue) → (x.signal.kind ≡ Opening) ⊎ ((x.signal.kind ≡ Closing) ⊎ (x.signal.kind ≡ LogOnly)) → t ≡ marked_table (Carries x) t
others_carry x t k = let w = unlisted x.signal.kind k in quiet_carries x t w.0 w.1

-- the incident found by a number has few signals

few_if : (b : Bool) (i : Incident) (rest : Option Incident) → i.signals < 2 ^ 62 → IfSome rest (λ k. k.signals < 2 ^ 62) → IfSome (cond b (Some i) rest) (λ k. k.signals < 2 ^ 62)
few_if true i rest lt w = lt
few_if false i rest lt w = w

pub few_at : (n : ℕ) (is : List Incident) → HasFew is → IfSome (find (has_number n) is) (λ i. i.signals < 2 ^ 62)
few_at n [] w = tt
few_at n (i ∷ is) w = few_if (has_number n i) i (find (has_number n) is) w.0 (few_at n is w.1)

-- What follows for the counts and the room.

pub few_after : (x : Carried) (t u : TableValue) → u ≡ marked_table (Carries x) t → (n : ℕ) → IsFew n t.opened t.incidents → IsFew (n + 1) u.opened u.incidents
few_after x t u e n w = subst (λ (y : TableValue). IsFew (n + 1) y.opened y.incidents) (sym e) (few_carries x n t.opened t.incidents w)

pub room_after : (x : Carried) (t u : TableValue) → u ≡ marked_table (Carries x) t → length x.steps ≤ 10 → HaveActRoom t.incidents → HaveActRoom u.incidents
room_after x t u e few r = subst (λ (y : TableValue). HaveActRoom y.incidents) (sym e) (room_carries x t.opened t.incidents few r)
