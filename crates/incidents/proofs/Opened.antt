-- The incidents that are open at places, after each change of a place.
use Rattle.std.proofs.Common.{◌≡◌, ◌<◌, ◌≤◌, ℕ, zero, suc, ◌+◌, ◌-◌, List, [], ◌∷◌, ◌++◌, length, get_or, set, map, take, drop, Bool, true, false, cond, ltb, refl, sym, ap, ◌∙◌, Option, Some, None, arith, subst, length-append}
use Rattle.std.specs.Prelude.{◌&&◌, ◌↔◌, IsTrue, not, if◌then◌else◌}
use Rattle.std.specs.List.{find, filter, position, position_or_len}
use Rattle.std.proofs.lemmas.Bool.{false≢true}
use Rattle.std.proofs.lemmas.Bool.Decides.{nat_tests}
use Rattle.std.proofs.lemmas.List.{length-map, length-set, map-append, take_all, take-append-le}
use Rattle.std.proofs.lemmas.List.Elements.{filter_map-append}
use Rattle.std.proofs.lemmas.List.Quantifiers.{position-Some}
use Rattle.arc_data.specs.declared.incident.Incident.{Incident}
use Rattle.arc_data.specs.Incidents.{has_number, Ascends, Each}
use Rattle.incidents.specs.declared.slots.Slot.{Slot}
use Rattle.incidents.specs.Slots.{has_open, standing, open_of, all_of, room_of, thinned, released, AreSlots, SlotsValue}
use Rattle.incidents.specs.Tables.{at_number, without, held}
use Rattle.incidents.proofs.Numbers.{ascends_weak, ascends_top, ascends_under}
use Rattle.incidents.proofs.Places.{IsFree, map_free, map_above, filter_above, equal_le}

pub both_first : (b c : Bool) → (b && c) ≡ true → b ≡ true
both_first true c e = refl
both_first false c e = absurd (false≢true e)

pub both_second : (b c : Bool) → (b && c) ≡ true → c ≡ true
both_second true c e = e
both_second false c e = absurd (false≢true e)

second_fails : (b c : Bool) → b ≡ true → (b && c) ≡ false → c ≡ false
second_fails true c e f = f
second_fails false c e f = absurd (false≢true e)

-- The open ones among all.

open_ascends_if : (low : ℕ) (s : Slot) (slots : List Slot) (high : ℕ) (b : Bool) → s.is_open ≡ b → low < s.incident.number → Ascends s.incident.number (open_of slots) high → Ascends low (open_of (s ∷ slots)) high
open_ascends_if low s slots high true e lt a = rw e (lt, a)
open_ascends_if low s slots high false e lt a = rw e (ascends_weak low s.incident.number (open_of slots) high (omega (arith, lt)) a)

pub open_ascends : (low : ℕ) (slots : List Slot) (high : ℕ) → Ascends low (all_of slots) high → Ascends low (open_of slots) high
open_ascends low [] high a = a
open_ascends low (s ∷ slots) high a = open_ascends_if low s slots high s.is_open refl a.0 (open_ascends s.incident.number slots high a.1)

few_if : (s : Slot) (slots : List Slot) (b : Bool) → s.is_open ≡ b → length (open_of slots) ≤ length slots → length (open_of (s ∷ slots)) ≤ suc (length slots)
few_if s slots true e le = rw e (omega (arith, le))
few_if s slots false e le = rw e (omega (arith, le))

pub open_few : (slots : List Slot) → length (open_of slots) ≤ length slots
open_few [] = omega arith
open_few (s ∷ slots) = few_if s slots s.is_open refl (open_few slots)

-- The place of a number.

-- the first place where the incident of the number is open is this, and has x
pub record IsAt (n : ℕ) (slots : List Slot) (place : ℕ) (x : Slot) : Type 0 where
  pub below : place < length slots
  pub here : has_open n x ≡ true
  pub item : x ≡ get_or slots place x
  pub first : (j : ℕ) → j < place → has_open n (get_or slots j x) ≡ false

pub is_at : (n : ℕ) (slots : List Slot) (place : ℕ) (x : Slot) → position (has_open n) slots ≡ Some place → x ≡ get_or slots place x → IsAt n slots place x
is_at n slots place x p e =
    let w = position-Some (has_open n) slots place x p in
    record { below = w.0; here = ap (has_open n) e ∙ w.1; item = e; first = w.2 }

later : (n : ℕ) (s : Slot) (slots : List Slot) (place : ℕ) (x : Slot) → IsAt n (s ∷ slots) (suc place) x → IsAt n slots place x
later n s slots place x w = record { below = omega (arith, w.below); here = w.here; item = w.item; first = λ j lt. w.first (suc j) (omega (arith, lt)) }

open_here : (n : ℕ) (s x : Slot) → x ≡ s → has_open n x ≡ true → has_open n s ≡ true
open_here n s x e h = ap (has_open n) (sym e) ∙ h

-- What stands there.

found_step : (n : ℕ) (s : Slot) (slots : List Slot) (o : Option Incident) (b : Bool) → s.is_open ≡ b → has_open n s ≡ false → find (has_number n) (open_of slots) ≡ o → find (has_number n) (open_of (s ∷ slots)) ≡ o
found_step n s slots o true e shut r = rw e (rw (second_fails s.is_open (has_number n s.incident) e shut) r)
found_step n s slots o false e shut r = rw e r

pub found_there : (n : ℕ) (slots : List Slot) (place : ℕ) (x : Slot) → IsAt n slots place x → find (has_number n) (open_of slots) ≡ Some x.incident
found_there n [] place x w = absurd (omega (arith, w.below))
found_there n (s ∷ slots) zero x w =
    let same : x ≡ s = w.item in
    let h = open_here n s x same w.here in
    rw (both_first s.is_open (has_number n s.incident) h) (rw (both_second s.is_open (has_number n s.incident) h) (ap (λ (y : Slot). Some y.incident) (sym same)))
found_there n (s ∷ slots) (suc place) x w = found_step n s slots (Some x.incident) s.is_open refl (w.first 0 (omega arith)) (found_there n slots place x (later n s slots place x w))

-- No open incident has the number.

free_open : (n : ℕ) (s : Slot) (slots : List Slot) (b : Bool) → s.is_open ≡ b → has_open n s ≡ false → IsFree n (open_of slots) → IsFree n (open_of (s ∷ slots))
free_open n s slots true e shut w = rw e (second_fails s.is_open (has_number n s.incident) e shut, w)
free_open n s slots false e shut w = rw e w

free_step : (n : ℕ) (s : Slot) (slots : List Slot) (b : Bool) → has_open n s ≡ b → suc (length slots) ≤ cond (not b) (1 + position_or_len (has_open n) slots) 0 → (length slots ≤ position_or_len (has_open n) slots → IsFree n (open_of slots)) → IsFree n (open_of (s ∷ slots))
free_step n s slots true e le f = absurd (omega (arith, le))
free_step n s slots false e le f = free_open n s slots s.is_open refl e (f (omega (arith, le)))

free_from : (n : ℕ) (slots : List Slot) → length slots ≤ position_or_len (has_open n) slots → IsFree n (open_of slots)
free_from n [] le = tt
free_from n (s ∷ slots) le = free_step n s slots (has_open n s) refl le (free_from n slots)

not_less : (a b : ℕ) (t : Bool) → ltb a b ≡ t → cond t (Some a) None ≡ None → b ≤ a
not_less a b true e p = cc
not_less a b false e p = grind (arith, nat_tests)

pub is_free : (n : ℕ) (slots : List Slot) → position (has_open n) slots ≡ None → IsFree n (open_of slots)
is_free n slots p = free_from n slots (not_less (position_or_len (has_open n) slots) (length slots) (ltb (position_or_len (has_open n) slots) (length slots)) refl p)

-- A change there.

changed_step : (n : ℕ) (f : Incident → Incident) (s : Slot) (new old : List Slot) (b : Bool) → s.is_open ≡ b → has_open n s ≡ false → open_of new ≡ at_number n f (open_of old) → open_of (s ∷ new) ≡ at_number n f (open_of (s ∷ old))
changed_step n f s new old true e shut r = rw e (rw (second_fails s.is_open (has_number n s.incident) e shut) (ap (λ l. s.incident ∷ l) r))
changed_step n f s new old false e shut r = rw e r

pub changed_there : (n : ℕ) (f : Incident → Incident) (low : ℕ) (slots : List Slot) (high place : ℕ) (x : Slot) → Ascends low (all_of slots) high → IsAt n slots place x → open_of (set slots place (record x { incident = f x.incident })) ≡ at_number n f (open_of slots)
changed_there n f low [] high place x a w = absurd (omega (arith, w.below))
changed_there n f low (s ∷ slots) high zero x a w =
    let same : x ≡ s = w.item in
    let h = open_here n s x same w.here in
    let number = both_second s.is_open (has_number n s.incident) h in
    rw (both_first x.is_open (has_number n x.incident) w.here)
    (rw (both_first s.is_open (has_number n s.incident) h)
    (rw number
    (ap (λ (y : Slot). f y.incident ∷ open_of slots) same
    ∙ ap (λ l. f s.incident ∷ l) (sym (map_above n f s.incident.number (open_of slots) high (equal_le s.incident.number n number) (open_ascends s.incident.number slots high a.1))))))
changed_there n f low (s ∷ slots) high (suc place) x a w =
    changed_step n f s (set slots place (record x { incident = f x.incident })) slots s.is_open refl (w.first 0 (omega arith)) (changed_there n f s.incident.number slots high place x a.1 (later n s slots place x w))

closed_step : (n : ℕ) (s : Slot) (new old : List Slot) (b : Bool) → s.is_open ≡ b → has_open n s ≡ false → open_of new ≡ without n (open_of old) → open_of (s ∷ new) ≡ without n (open_of (s ∷ old))
closed_step n s new old true e shut r = rw e (rw (second_fails s.is_open (has_number n s.incident) e shut) (ap (λ l. s.incident ∷ l) r))
closed_step n s new old false e shut r = rw e r

pub closed_there : (n low : ℕ) (slots : List Slot) (high place : ℕ) (x : Slot) → Ascends low (all_of slots) high → IsAt n slots place x → open_of (set slots place (record x { is_open = false })) ≡ without n (open_of slots)
closed_there n low [] high place x a w = absurd (omega (arith, w.below))
closed_there n low (s ∷ slots) high zero x a w =
    let same : x ≡ s = w.item in
    let h = open_here n s x same w.here in
    let number = both_second s.is_open (has_number n s.incident) h in
    rw (both_first s.is_open (has_number n s.incident) h)
    (rw number
    (sym (filter_above n s.incident.number (open_of slots) high (equal_le s.incident.number n number) (open_ascends s.incident.number slots high a.1))))
closed_there n low (s ∷ slots) high (suc place) x a w =
    closed_step n s (set slots place (record x { is_open = false })) slots s.is_open refl (w.first 0 (omega arith)) (closed_there n s.incident.number slots high place x a.1 (later n s slots place x w))

fewer_step : (s : Slot) (new old : List Slot) (b : Bool) → s.is_open ≡ b → suc (length (open_of new)) ≡ length (open_of old) → suc (length (open_of (s ∷ new))) ≡ length (open_of (s ∷ old))
fewer_step s new old true e r = rw e (omega (arith, r))
fewer_step s new old false e r = rw e r

pub fewer_there : (n : ℕ) (slots : List Slot) (place : ℕ) (x : Slot) → IsAt n slots place x → suc (length (open_of (set slots place (record x { is_open = false })))) ≡ length (open_of slots)
fewer_there n [] place x w = absurd (omega (arith, w.below))
fewer_there n (s ∷ slots) zero x w =
    let same : x ≡ s = w.item in
    rw (both_first s.is_open (has_number n s.incident) (open_here n s x same w.here)) refl
fewer_there n (s ∷ slots) (suc place) x w = fewer_step s (set slots place (record x { is_open = false })) slots s.is_open refl (fewer_there n slots place x (later n s slots place x w))

pub ascends_set : (low : ℕ) (slots : List Slot) (high place : ℕ) (x d : Slot) → Ascends low (all_of slots) high → place < length slots → x.incident.number ≡ (get_or slots place d).incident.number → Ascends low (all_of (set slots place x)) high
ascends_set low [] high place x d a lt e = absurd (omega (arith, lt))
ascends_set low (s ∷ slots) high zero x d a lt e = (omega (arith, e, a.0), subst (λ (n : ℕ). Ascends n (all_of slots) high) (sym e) a.1)
ascends_set low (s ∷ slots) high (suc place) x d a lt e = (a.0, ascends_set s.incident.number slots high place x d a.1 (omega (arith, lt)) e)

-- Without the closed ones.

kept_if : (s : Slot) (slots : List Slot) (b : Bool) → s.is_open ≡ b → all_of (filter (λ t. t.is_open) slots) ≡ open_of slots → all_of (filter (λ t. t.is_open) (s ∷ slots)) ≡ open_of (s ∷ slots)
kept_if s slots true e r = rw e (ap (λ l. s.incident ∷ l) r)
kept_if s slots false e r = rw e r

kept_all : (slots : List Slot) → all_of (filter (λ t. t.is_open) slots) ≡ open_of slots
kept_all [] = refl
kept_all (s ∷ slots) = kept_if s slots s.is_open refl (kept_all slots)

kept_open_if : (s : Slot) (slots : List Slot) (b : Bool) → s.is_open ≡ b → open_of (filter (λ t. t.is_open) slots) ≡ open_of slots → open_of (filter (λ t. t.is_open) (s ∷ slots)) ≡ open_of (s ∷ slots)
kept_open_if s slots true e r = rw e (ap (λ l. s.incident ∷ l) r)
kept_open_if s slots false e r = rw e r

kept_open : (slots : List Slot) → open_of (filter (λ t. t.is_open) slots) ≡ open_of slots
kept_open [] = refl
kept_open (s ∷ slots) = kept_open_if s slots s.is_open refl (kept_open slots)

pub thinned_open : (wanted : Bool) (slots : List Slot) → open_of (thinned wanted slots) ≡ open_of slots
thinned_open true slots = kept_open slots
thinned_open false slots = refl

pub thinned_rise : (wanted : Bool) (slots : List Slot) (high : ℕ) → Ascends 0 (all_of slots) high → Ascends 0 (all_of (thinned wanted slots)) high
thinned_rise true slots high a = subst (λ (l : List Incident). Ascends 0 l high) (sym (kept_all slots)) (open_ascends 0 slots high a)
thinned_rise false slots high a = a

pub thinned_few : (wanted : Bool) (slots : List Slot) → length (thinned wanted slots) ≤ length slots
thinned_few true slots =
    omega (arith, length-map (filter (λ (t : Slot). t.is_open) slots) (λ (t : Slot). t.incident), ap length (kept_all slots), open_few slots)
thinned_few false slots = omega arith

pub thinned_to : (wanted : Bool) (slots new : List Slot) → new ≡ thinned wanted slots → length new ≤ length slots
thinned_to wanted slots new e = omega (arith, ap length e, thinned_few wanted slots)

-- One more.

pub pushed_open : (slots : List Slot) (i : Incident) → open_of (slots ++ record { incident = i; is_open = true } ∷ []) ≡ open_of slots ++ i ∷ []
pushed_open slots i = filter_map-append standing slots (record { incident = i; is_open = true } ∷ [])

pub pushed_rise : (wanted : Bool) (slots : List Slot) (high : ℕ) (i : Incident) → (wanted ≡ false → high < i.number) → 0 < i.number → Each (λ j. j.number < i.number) (open_of slots) → Ascends 0 (all_of slots) high
    → Ascends 0 (all_of (thinned wanted slots ++ record { incident = i; is_open = true } ∷ [])) i.number
pushed_rise true slots high i lt positive above a =
    subst (λ (l : List Incident). Ascends 0 l i.number) (ap (λ (l : List Incident). l ++ i ∷ []) (sym (kept_all slots)) ∙ sym (map-append (λ (t : Slot). t.incident) (filter (λ (t : Slot). t.is_open) slots) (record { incident = i; is_open = true } ∷ [])))
    (ascends_under i 0 (open_of slots) high positive above (open_ascends 0 slots high a))
pushed_rise false slots high i lt positive above a =
    subst (λ (l : List Incident). Ascends 0 l i.number) (sym (map-append (λ (t : Slot). t.incident) slots (record { incident = i; is_open = true } ∷ [])))
    (ascends_top i 0 (all_of slots) high (lt refl) a)

-- Each released.

released_if : (s : Slot) (slots : List Slot) (b : Bool) → s.is_open ≡ b → open_of (map released slots) ≡ map (held None 0) (open_of slots) → open_of (map released (s ∷ slots)) ≡ map (held None 0) (open_of (s ∷ slots))
released_if s slots true e r = rw e (ap (λ l. held None 0 s.incident ∷ l) r)
released_if s slots false e r = rw e r

pub released_open : (slots : List Slot) → open_of (map released slots) ≡ map (held None 0) (open_of slots)
released_open [] = refl
released_open (s ∷ slots) = released_if s slots s.is_open refl (released_open slots)

pub released_rise : (low : ℕ) (slots : List Slot) (high : ℕ) → Ascends low (all_of slots) high → Ascends low (all_of (map released slots)) high
released_rise low [] high a = a
released_rise low (s ∷ slots) high a = (a.0, released_rise s.incident.number slots high a.1)

-- a slice of all places, changed all through
pub whole : (f : Slot → Slot) (slots items new : List Slot) (len : ℕ) → slots ≡ items → length slots ≡ len → new ≡ map f slots → take len (new ++ drop (length new) items) ≡ map f items
whole f slots items new len e l n =
    let long : length new ≡ len = ap (λ (xs : List Slot). length xs) n ∙ length-map slots f ∙ l in
    take-append-le len new (drop (length new) items) (omega (arith, long)) ∙ take_all len new (omega (arith, long)) ∙ n ∙ ap (λ (xs : List Slot). map f xs) e

pub there : (n : ℕ) (slots ks : List Slot) (place : ℕ) (x : Slot) (o : Option ℕ) → ks ≡ slots → o ≡ position (has_open n) ks → o ≡ Some place → x ≡ get_or slots place x → IsAt n slots place x
there n slots ks place x o e p q item = is_at n slots place x (ap (λ (l : List Slot). position (has_open n) l) (sym e) ∙ sym p ∙ q) item

pub pushed_one : {X : Type 0} (taken : Bool) (old new : List X) (x : X) → (IsTrue taken ↔ (length old < 10)) → new ≡ cond taken (old ++ x ∷ []) old → length old < 10 → new ≡ old ++ x ∷ []
pushed_one true old new x room e lt = e
pushed_one false old new x room e lt = absurd (false≢true (room.1 lt))

-- The same, said of what is kept and of what contracts see.

abbrev pub value_of : List Slot → ℕ → SlotsValue
value_of slots memory = record { incidents = open_of slots; room = room_of slots memory }

are_after : (count highest : ℕ) (slots new : List Slot) (f : Incident → Incident) → AreSlots count highest slots → Ascends 0 (all_of new) highest → open_of new ≡ map f (open_of slots) → AreSlots count highest new
are_after count highest slots new f a rise e = record { rise = rise; counted = a.counted ∙ sym (ap length e ∙ length-map (open_of slots) f) }

value_after : (slots new : List Slot) (memory : ℕ) (old : SlotsValue) (f : Incident → Incident) → value_of slots memory ≡ old → open_of new ≡ map f (open_of slots) → length new ≡ length slots → value_of new memory ≡ record old { incidents = map f old.incidents }
value_after slots new memory old f v e l =
    let many : length (open_of new) ≡ length (open_of slots) = ap length e ∙ length-map (open_of slots) f in
    (λ i. record { incidents = e i; room = many i + (memory - l i) }) ∙ ap (λ (t : SlotsValue). record t { incidents = map f t.incidents }) v

abbrev change_at : ℕ → (Incident → Incident) → Incident → Incident
change_at n f i = if has_number n i then f i else i

pub changed_are : (n count highest : ℕ) (f : Incident → Incident) (slots : List Slot) (place : ℕ) (x : Slot) → AreSlots count highest slots → IsAt n slots place x → (f x.incident).number ≡ x.incident.number → AreSlots count highest (set slots place (record x { incident = f x.incident }))
changed_are n count highest f slots place x a w e =
    are_after count highest slots (set slots place (record x { incident = f x.incident })) (change_at n f) a
    (ascends_set 0 slots highest place (record x { incident = f x.incident }) x a.rise w.below (e ∙ ap (λ (s : Slot). s.incident.number) w.item))
    (changed_there n f 0 slots highest place x a.rise w)

pub changed_value : (n count highest memory : ℕ) (f : Incident → Incident) (slots : List Slot) (old : SlotsValue) (place : ℕ) (x : Slot) → value_of slots memory ≡ old → AreSlots count highest slots → IsAt n slots place x → value_of (set slots place (record x { incident = f x.incident })) memory ≡ record old { incidents = at_number n f old.incidents }
changed_value n count highest memory f slots old place x v a w =
    value_after slots (set slots place (record x { incident = f x.incident })) memory old (change_at n f) v (changed_there n f 0 slots highest place x a.rise w) (length-set slots place (record x { incident = f x.incident }))

pub free_now : (n : ℕ) (slots ks : List Slot) (memory : ℕ) (old : SlotsValue) → value_of slots memory ≡ old → ks ≡ slots → position (has_open n) ks ≡ None → IsFree n old.incidents
free_now n slots ks memory old v e p =
    subst (λ (l : List Incident). IsFree n l) (ap (λ (l : List Slot). open_of l) e ∙ ap (λ (t : SlotsValue). t.incidents) v) (is_free n ks p)

pub same_value : (n : ℕ) (f : Incident → Incident) (old : SlotsValue) → IsFree n old.incidents → old ≡ record old { incidents = at_number n f old.incidents }
same_value n f old free = λ i. record old { incidents = sym (map_free n f old.incidents free) i }

pub released_are : (count highest : ℕ) (slots : List Slot) → AreSlots count highest slots → AreSlots count highest (map released slots)
released_are count highest slots a = are_after count highest slots (map released slots) (held None 0) a (released_rise 0 slots highest a.rise) (released_open slots)

pub released_value : (slots : List Slot) (memory : ℕ) (old : SlotsValue) → value_of slots memory ≡ old → value_of (map released slots) memory ≡ record old { incidents = map (held None 0) old.incidents }
released_value slots memory old v = value_after slots (map released slots) memory old (held None 0) v (released_open slots) (length-map slots released)

-- where there is room for one more, there is a place behind all
pub room_left : (slots : List Slot) (memory : ℕ) (old : SlotsValue) → value_of slots memory ≡ old → length old.incidents < old.room → length slots < memory
room_left slots memory old v lt = omega (arith, lt, ap (λ (t : SlotsValue). length t.incidents) v, ap (λ (t : SlotsValue). t.room) v)

abbrev open_slot : Incident → Slot
open_slot i = record { incident = i; is_open = true }

pub pushed_are : (wanted : Bool) (count highest memory : ℕ) (slots : List Slot) (i : Incident) (old : SlotsValue) → value_of slots memory ≡ old → AreSlots count highest slots → (wanted ≡ false → highest < i.number) → 0 < i.number → Each (λ j. j.number < i.number) old.incidents
    → AreSlots (count + 1) i.number (thinned wanted slots ++ open_slot i ∷ [])
pushed_are wanted count highest memory slots i old v a lt positive above = record {
  rise = pushed_rise wanted slots highest i lt positive (subst (λ (l : List Incident). Each (λ j. j.number < i.number) l) (sym (ap (λ (t : SlotsValue). t.incidents) v)) above) a.rise;
  counted = omega (arith, a.counted, ap length (pushed_open (thinned wanted slots) i), length-append (open_of (thinned wanted slots)) (i ∷ []), ap length (thinned_open wanted slots));
}

pub pushed_incidents : (wanted : Bool) (slots : List Slot) (memory : ℕ) (i : Incident) (old : SlotsValue) → value_of slots memory ≡ old → open_of (thinned wanted slots ++ open_slot i ∷ []) ≡ old.incidents ++ i ∷ []
pushed_incidents wanted slots memory i old v =
    pushed_open (thinned wanted slots) i ∙ ap (λ (l : List Incident). l ++ i ∷ []) (thinned_open wanted slots ∙ ap (λ (t : SlotsValue). t.incidents) v)

pub pushed_room : (wanted : Bool) (slots : List Slot) (memory : ℕ) (i : Incident) (old : SlotsValue) → value_of slots memory ≡ old → length slots < memory → old.room ≤ room_of (thinned wanted slots ++ open_slot i ∷ []) memory
pushed_room wanted slots memory i old v lt =
    omega (
      arith,
      lt,
      ap (λ (t : SlotsValue). t.room) v,
      ap length (pushed_open (thinned wanted slots) i),
      length-append (open_of (thinned wanted slots)) (i ∷ []),
      ap length (thinned_open wanted slots),
      length-append (thinned wanted slots) (open_slot i ∷ []),
      thinned_few wanted slots,
    )

abbrev closed_at : List Slot → ℕ → Slot → List Slot
closed_at slots place x = set slots place (record x { is_open = false })

pub removed_are : (wanted : Bool) (n count highest : ℕ) (slots : List Slot) (place : ℕ) (x : Slot) → AreSlots count highest slots → IsAt n slots place x → AreSlots (count - 1) highest (thinned wanted (closed_at slots place x))
removed_are wanted n count highest slots place x a w = record {
  rise = thinned_rise wanted (closed_at slots place x) highest (ascends_set 0 slots highest place (record x { is_open = false }) x a.rise w.below (ap (λ (s : Slot). s.incident.number) w.item));
  counted = omega (arith, a.counted, fewer_there n slots place x w, ap length (thinned_open wanted (closed_at slots place x)));
}

pub removed_incidents : (wanted : Bool) (n highest memory : ℕ) (slots : List Slot) (place : ℕ) (x : Slot) (old : SlotsValue) → value_of slots memory ≡ old → Ascends 0 (all_of slots) highest → IsAt n slots place x → open_of (thinned wanted (closed_at slots place x)) ≡ without n old.incidents
removed_incidents wanted n highest memory slots place x old v a w =
    thinned_open wanted (closed_at slots place x) ∙ closed_there n 0 slots highest place x a w ∙ ap (λ (t : SlotsValue). without n t.incidents) v

pub removed_room : (wanted : Bool) (n memory : ℕ) (slots : List Slot) (place : ℕ) (x : Slot) (old : SlotsValue) → value_of slots memory ≡ old → IsAt n slots place x → old.room ≤ room_of (thinned wanted (closed_at slots place x)) memory + 1
removed_room wanted n memory slots place x old v w =
    omega (
      arith,
      ap (λ (t : SlotsValue). t.room) v,
      fewer_there n slots place x w,
      ap length (thinned_open wanted (closed_at slots place x)),
      thinned_few wanted (closed_at slots place x),
      length-set slots place (record x { is_open = false }),
    )
