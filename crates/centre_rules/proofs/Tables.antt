-- What a mark leaves of the open incidents.
use Rattle.std.proofs.Common.{◌≡◌, ◌<◌, ◌≤◌, ℕ, ◌+◌, List, [], ◌∷◌, ◌++◌, map, Bool, true, false, cond, refl, sym, ap, ◌∙◌, Option, Some, None, arith, subst}
use Rattle.std.specs.Prelude.{not, is_some, ◌==◌, ◌&&◌, if◌then◌else◌}
use Rattle.std.specs.List.{filter}
use Rattle.std.proofs.lemmas.Bool.{eqb-true, eq-eqb, false≢true}
use Rattle.arc_data.specs.Incidents.{Each}
use Rattle.centre_rules.specs.Marks.{Mark, Adopts, Starts, Carries, Claims, Acts, Releases, Closes, Carried}
use Rattle.centre_rules.specs.Cases.{Incident, opens, fresh, has_number, holder_at, touched_at, Ascends}
use Rattle.centre_rules.specs.Tables.{touched_by, opened_after, with_opened, without_closed, table_after}
use Rattle.centre_rules.specs.Desks.{numbered, held_by, holds, is_free, is_before, lesser, least, best}

-- Look-ups by number.

if_some : (b : Bool) (i j : Incident) (rest : Option Incident) (P : Type 0) → (b ≡ true → i ≡ j → P) → (b ≡ false → rest ≡ Some j → P) → cond b (Some i) rest ≡ Some j → P
if_some true i j rest P yes_ no_ e = yes_ refl cc
if_some false i j rest P yes_ no_ e = no_ refl e

pub numbered_number : (n : ℕ) (is : List Incident) (i : Incident) → numbered n is ≡ Some i → i.number ≡ n
numbered_number n [] i e = cc
numbered_number n (j ∷ is) i e = if_some (has_number n j) j i (numbered n is) (i.number ≡ n) (λ t same. sym (ap (λ (k : Incident). k.number) same) ∙ eqb-true j.number n t) (λ f rest. numbered_number n is i rest) e

map_if : (m : Mark) (b : Bool) (i j : Incident) (rest new_ : Option Incident) → (rest ≡ Some j → new_ ≡ Some (touched_by m j)) → cond b (Some i) rest ≡ Some j → cond b (Some (touched_by m i)) new_ ≡ Some (touched_by m j)
map_if m true i j rest new_ f e = let same : i ≡ j = cc in ap (λ k. Some (touched_by m k)) same
map_if m false i j rest new_ f e = f e

pub numbered_map : (m : Mark) (n : ℕ) (is : List Incident) (i : Incident) → numbered n is ≡ Some i → numbered n (map (touched_by m) is) ≡ Some (touched_by m i)
numbered_map m n [] i e = cc
numbered_map m n (j ∷ is) i e = map_if m (has_number n j) j i (numbered n is) (numbered n (map (touched_by m) is)) (numbered_map m n is i) e

append_if : (b : Bool) (i j : Incident) (rest new_ : Option Incident) → (rest ≡ Some j → new_ ≡ Some j) → cond b (Some i) rest ≡ Some j → cond b (Some i) new_ ≡ Some j
append_if true i j rest new_ f e = e
append_if false i j rest new_ f e = f e

pub numbered_append : (n : ℕ) (is js : List Incident) (i : Incident) → numbered n is ≡ Some i → numbered n (is ++ js) ≡ Some i
numbered_append n [] js i e = cc
numbered_append n (j ∷ is) js i e = append_if (has_number n j) j i (numbered n is) (numbered n (is ++ js)) (numbered_append n is js i) e

filter_if : (n k : ℕ) (j i : Incident) (is : List Incident) (a b : Bool) → has_number n j ≡ a → has_number k j ≡ b → (n == k) ≡ false → (numbered n is ≡ Some i → numbered n (filter (λ x. not (has_number k x)) is) ≡ Some i) → cond a (Some j) (numbered n is) ≡ Some i → numbered n (cond (not b) (j ∷ filter (λ x. not (has_number k x)) is) (filter (λ x. not (has_number k x)) is)) ≡ Some i
filter_if n k j i is true true p q other f e = absurd (false≢true (sym other ∙ eq-eqb n k (sym (eqb-true j.number n p) ∙ eqb-true j.number k q)))
filter_if n k j i is true false p q other f e = rw p e
filter_if n k j i is false true p q other f e = f e
filter_if n k j i is false false p q other f e = rw p (f e)

pub numbered_filter : (n k : ℕ) (is : List Incident) (i : Incident) → (n == k) ≡ false → numbered n is ≡ Some i → numbered n (filter (λ x. not (has_number k x)) is) ≡ Some i
numbered_filter n k [] i other e = e
numbered_filter n k (j ∷ is) i other e = filter_if n k j i is (has_number n j) (has_number k j) refl refl other (numbered_filter n k is i other) e

opened_if : (n number : ℕ) (x : Carried) (is : List Incident) (i : Incident) (b : Bool) → numbered n is ≡ Some i → numbered n (cond b (is ++ fresh number x ∷ []) is) ≡ Some i
opened_if n number x is i true e = numbered_append n is _ i e
opened_if n number x is i false e = e

numbered_opened : (m : Mark) (n opened : ℕ) (is : List Incident) (i : Incident) → numbered n is ≡ Some i → numbered n (with_opened m opened is) ≡ Some i
numbered_opened (Carries x) n opened is i e = opened_if n (opened + 1) x is i (opens x is) e
numbered_opened m n opened is i e = e

-- the mark closes the incident of this number
abbrev pub ends_it : ℕ → Mark → Bool
ends_it n (Closes number) = n == number
ends_it n m = false

numbered_left : (m : Mark) (n : ℕ) (is : List Incident) (i : Incident) → ends_it n m ≡ false → numbered n is ≡ Some i → numbered n (without_closed m is) ≡ Some i
numbered_left (Closes number) n is i other e = numbered_filter n number is i other e
numbered_left m n is i other e = e

-- an incident that the mark does not close is there after it, as the mark leaves it
pub numbered_table : (m : Mark) (n opened : ℕ) (is : List Incident) (i : Incident) → ends_it n m ≡ false → numbered n is ≡ Some i → numbered n (table_after m opened is) ≡ Some (touched_by m i)
numbered_table m n opened is i other e = numbered_left m n _ (touched_by m i) other (numbered_map m n (with_opened m opened is) i (numbered_opened m n opened is i e))

-- An incident with a claimer, and the moment when it was touched.

pub record HeldIn (n : ℕ) (o : List ℕ) (moment : ℕ) (is : List Incident) : Type 0 where
  pub incident : Incident
  pub found : numbered n is ≡ Some incident
  pub holder : incident.holder ≡ Some o
  pub touched : incident.touched ≡ moment

-- a mark that may change who holds an incident
abbrev pub ends_hold : ℕ → Mark → Bool
ends_hold n (Adopts text) = true
ends_hold n (Starts at) = true
ends_hold n (Claims operator number at) = n == number
ends_hold n (Releases number) = n == number
ends_hold n (Closes number) = n == number
ends_hold n m = false

holder_kept : (n : ℕ) (o : List ℕ) (m : Mark) (i : Incident) → i.number ≡ n → ends_hold n m ≡ false → i.holder ≡ Some o → holder_at i m i.holder ≡ Some o
holder_kept n o (Adopts text) i e spared h = absurd (false≢true (sym spared))
holder_kept n o (Starts at) i e spared h = absurd (false≢true (sym spared))
holder_kept n o (Claims operator number at) i e spared h = rw (e, spared) h
holder_kept n o (Releases number) i e spared h = rw (e, spared) h
holder_kept n o (Closes number) i e spared h = rw (e, spared) h
holder_kept n o m i e spared h = h

not_ended : (n : ℕ) (m : Mark) → ends_hold n m ≡ false → ends_it n m ≡ false
not_ended n (Closes number) spared = spared
not_ended n m spared = refl

-- when it was touched, after a mark that leaves the hold
abbrev pub touched_then : ℕ → Mark → ℕ → ℕ
touched_then n (Acts number acted) before = if n == number then acted.at else before
touched_then n m before = before

act_if : (b : Bool) (at before : ℕ) → cond (b && true) at before ≡ cond b at before
act_if true at before = refl
act_if false at before = refl

touched_kept : (n : ℕ) (o : List ℕ) (m : Mark) (i : Incident) (moment : ℕ) → i.number ≡ n → ends_hold n m ≡ false → i.holder ≡ Some o
    → i.touched ≡ moment → touched_at i m i.holder i.touched ≡ touched_then n m moment
touched_kept n o (Adopts text) i moment e spared h t = absurd (false≢true (sym spared))
touched_kept n o (Starts at) i moment e spared h t = absurd (false≢true (sym spared))
touched_kept n o (Claims operator number at) i moment e spared h t = rw (e, spared) t
touched_kept n o (Acts number acted) i moment e spared h t = rw (e, h, t) (act_if (n == number) acted.at moment)
touched_kept n o (Releases number) i moment e spared h t = rw (e, spared) t
touched_kept n o (Closes number) i moment e spared h t = rw (e, spared) t
touched_kept n o m i moment e spared h t = t

pub held_table : (n : ℕ) (o : List ℕ) (m : Mark) (opened moment : ℕ) (is : List Incident) → ends_hold n m ≡ false
    → HeldIn n o moment is → HeldIn n o (touched_then n m moment) (table_after m opened is)
held_table n o m opened moment is spared w = record {
  incident = touched_by m w.incident;
  found = numbered_table m n opened is w.incident (not_ended n m spared) w.found;
  holder = holder_kept n o m w.incident (numbered_number n is w.incident w.found) spared w.holder;
  touched = touched_kept n o m w.incident moment (numbered_number n is w.incident w.found) spared w.holder w.touched;
}

-- a claim of an incident that is there
pub held_claimed : (n : ℕ) (o : List ℕ) (at : ℕ) (is : List Incident) (i : Incident) → numbered n is ≡ Some i → HeldIn n o at (map (touched_by (Claims o n at)) is)
held_claimed n o at is i e = record {
  incident = touched_by (Claims o n at) i;
  found = numbered_map (Claims o n at) n is i e;
  holder = rw (eq-eqb i.number n (numbered_number n is i e)) refl;
  touched = rw (eq-eqb i.number n (numbered_number n is i e)) refl;
}

-- who holds an incident of the table holds one
is_some_if : (b : Bool) (i : Incident) (rest : Option Incident) → is_some rest ≡ true → is_some (cond b (Some i) rest) ≡ true
is_some_if true i rest e = refl
is_some_if false i rest e = e

is_some_hit : (b : Bool) (i : Incident) (rest : Option Incident) → b ≡ true → is_some (cond b (Some i) rest) ≡ true
is_some_hit true i rest e = refl
is_some_hit false i rest e = absurd (false≢true e)

pub holds_some : (n : ℕ) (o : List ℕ) (is : List Incident) (i : Incident) → numbered n is ≡ Some i → holds o i ≡ true → is_some (held_by o is) ≡ true
holds_some n o [] i e h = cc
holds_some n o (j ∷ is) i e h = if_some (has_number n j) j i (numbered n is) (is_some (held_by o (j ∷ is)) ≡ true) (λ t same. is_some_hit (holds o j) j (held_by o is) (ap (holds o) same ∙ h)) (λ f rest. is_some_if (holds o j) j (held_by o is) (holds_some n o is i rest h)) e

-- The numbers rise.

pub ascends_map : (m : Mark) (low : ℕ) (is : List Incident) (high : ℕ) → Ascends low is high → Ascends low (map (touched_by m) is) high
ascends_map m low [] high a = a
ascends_map m low (i ∷ is) high a = (a.0, ascends_map m i.number is high a.1)

pub ascends_weak : (low below : ℕ) (is : List Incident) (high : ℕ) → low ≤ below → Ascends below is high → Ascends low is high
ascends_weak low below [] high le a = omega arith
ascends_weak low below (i ∷ is) high le a = (omega arith, a.1)

ascends_keep : (low : ℕ) (b : Bool) (i : Incident) (js : List Incident) (high : ℕ) → low < i.number → Ascends i.number js high → Ascends low (cond b (i ∷ js) js) high
ascends_keep low true i js high lt a = (lt, a)
ascends_keep low false i js high lt a = ascends_weak low i.number js high (omega arith) a

pub ascends_filter : (k : ℕ) (low : ℕ) (is : List Incident) (high : ℕ) → Ascends low is high → Ascends low (filter (λ x. not (has_number k x)) is) high
ascends_filter k low [] high a = a
ascends_filter k low (i ∷ is) high a = ascends_keep low (not (has_number k i)) i _ high a.0 (ascends_filter k i.number is high a.1)

pub ascends_more : (i : Incident) (low : ℕ) (is : List Incident) (high : ℕ) → i.number ≡ high + 1 → Ascends low is high → Ascends low (is ++ i ∷ []) (high + 1)
ascends_more i low [] high e a = (omega arith, omega arith)
ascends_more i low (j ∷ is) high e a = (a.0, ascends_more i j.number is high e a.1)

ascends_if : (x : Carried) (opened : ℕ) (is : List Incident) (b : Bool) → Ascends 0 is opened → Ascends 0 (cond b (is ++ fresh (opened + 1) x ∷ []) is) (cond b (opened + 1) opened)
ascends_if x opened is true a = ascends_more (fresh (opened + 1) x) 0 is opened refl a
ascends_if x opened is false a = a

ascends_opened : (m : Mark) (opened : ℕ) (is : List Incident) → Ascends 0 is opened → Ascends 0 (with_opened m opened is) (opened_after m opened is)
ascends_opened (Carries x) opened is a = ascends_if x opened is (opens x is) a
ascends_opened m opened is a = a

ascends_left : (m : Mark) (is : List Incident) (high : ℕ) → Ascends 0 is high → Ascends 0 (without_closed m is) high
ascends_left (Closes number) is high a = ascends_filter number 0 is high a
ascends_left m is high a = a

pub ascends_table : (m : Mark) (opened : ℕ) (is : List Incident) → Ascends 0 is opened → Ascends 0 (table_after m opened is) (opened_after m opened is)
ascends_table m opened is a = ascends_left m _ _ (ascends_map m 0 (with_opened m opened is) _ (ascends_opened m opened is a))

-- each incident is found by its number
pub above : (low : ℕ) (is : List Incident) (high : ℕ) → Ascends low is high → Each (λ i. low < i.number) is
above low [] high a = tt
above low (i ∷ is) high a = (a.0, above low is high (ascends_weak low i.number is high (omega arith) a.1))

past_one : (j i : Incident) (rest : Option Incident) (b : Bool) → has_number i.number j ≡ b → j.number < i.number → rest ≡ Some i → cond b (Some j) rest ≡ Some i
past_one j i rest true t lt e = absurd (omega (arith, eqb-true j.number i.number t))
past_one j i rest false t lt e = e

all_past : (j : Incident) (is all : List Incident) → Each (λ i. j.number < i.number) is → Each (λ i. numbered i.number all ≡ Some i) is → Each (λ i. numbered i.number (j ∷ all) ≡ Some i) is
all_past j [] all lts finds = tt
all_past j (i ∷ is) all lts finds = (past_one j i (numbered i.number all) (has_number i.number j) refl lts.0 finds.0, all_past j is all lts.1 finds.1)

is_first : (i : Incident) (rest : Option Incident) (b : Bool) → b ≡ true → cond b (Some i) rest ≡ Some i
is_first i rest true t = refl
is_first i rest false t = absurd (false≢true t)

pub all_found : (low : ℕ) (is : List Incident) (high : ℕ) → Ascends low is high → Each (λ i. numbered i.number is ≡ Some i) is
all_found low [] high a = tt
all_found low (i ∷ is) high a = (is_first i (numbered i.number is) (has_number i.number i) (eq-eqb i.number i.number refl), all_past i is is (above i.number is high a.1) (all_found i.number is high a.1))

-- the best has the number and no holder
abbrev Found : List Incident → Incident → Type 0
Found all i = (numbered i.number all ≡ Some i) × (is_free i ≡ true)

free_if : (all : List Incident) (b : Bool) (i : Incident) (js : List Incident) → is_free i ≡ b → numbered i.number all ≡ Some i → Each (Found all) js → Each (Found all) (cond b (i ∷ js) js)
free_if all true i js free found rest = ((found, free), rest)
free_if all false i js free found rest = rest

all_free : (all is : List Incident) → Each (λ i. numbered i.number all ≡ Some i) is → Each (Found all) (filter is_free is)
all_free all [] a = tt
all_free all (i ∷ is) a = free_if all (is_free i) i _ refl a.0 (all_free all is a.1)

lesser_all : (P : Incident → Type 0) (b : Bool) (i j k : Incident) → P i → P j → cond b (Some j) (Some i) ≡ Some k → P k
lesser_all P true i j k pi pj e = (let same : j ≡ k = cc in subst P same pj)
lesser_all P false i j k pi pj e = (let same : i ≡ k = cc in subst P same pi)

least_rest : (P : Incident → Type 0) (i k : Incident) (rest : Option Incident) → P i → ((j : Incident) → rest ≡ Some j → P j) → lesser i rest ≡ Some k → P k
least_rest P i k None pi pr e = (let same : i ≡ k = cc in subst P same pi)
least_rest P i k (Some j) pi pr e = lesser_all P (is_before j i) i j k pi (pr j refl) e

pub least_all : (P : Incident → Type 0) (is : List Incident) → Each P is → (i : Incident) → least is ≡ Some i → P i
least_all P [] a i e = cc
least_all P (j ∷ is) a i e = least_rest P j i (least is) a.0 (least_all P is a.1) e

pub best_found : (is : List Incident) (high : ℕ) → Ascends 0 is high → (i : Incident) → best is ≡ Some i → (numbered i.number is ≡ Some i) × (is_free i ≡ true)
best_found is high a i e = least_all (Found is) (filter is_free is) (all_free is is (all_found 0 is high a)) i e
