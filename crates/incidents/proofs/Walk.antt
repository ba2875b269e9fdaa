-- A walk over places: how many of those before one are open, and what is open at it.
use Rattle.std.proofs.Common.{◌≡◌, ◌<◌, ◌≤◌, ℕ, zero, suc, ◌+◌, List, [], ◌∷◌, ◌++◌, length, get_or, take, refl, sym, ap, ◌∙◌, Option, Some, None, arith, length-append}
use Rattle.std.specs.Prelude.{slice_get}
use Rattle.std.specs.List.{cons_option}
use Rattle.std.proofs.lemmas.List.{take_more, take_all}
use Rattle.std.proofs.lemmas.Option.{slice_get_within, get_or_from_slice_get}
use Rattle.std.proofs.lemmas.List.Elements.{filter_map-append}
use Rattle.arc_data.specs.declared.incident.Incident.{Incident}
use Rattle.incidents.specs.declared.slots.Slot.{Slot}
use Rattle.incidents.specs.Slots.{standing, open_of}

-- how many are open before a place
abbrev pub before : ℕ → List Slot → ℕ
before k slots = length (open_of (take k slots))

next_of : (k : ℕ) (slots : List Slot) (x : Slot) → k < length slots → x ≡ get_or slots k x → open_of (take (k + 1) slots) ≡ open_of (take k slots) ++ open_of (x ∷ [])
next_of k slots x lt e =
    ap (λ (l : List Slot). open_of l) (take_more slots k x lt ∙ ap (λ (y : Slot). take k slots ++ y ∷ []) (sym e)) ∙ filter_map-append standing (take k slots) (x ∷ [])

one_of : (x : Slot) (o : Option Incident) → standing x ≡ o → open_of (x ∷ []) ≡ cons_option o []
one_of x o e = ap (λ (p : Option Incident). cons_option p []) e

-- one more, where an incident is open
pub walk_open : (k : ℕ) (slots : List Slot) (x : Slot) (i : Incident) → k < length slots → x ≡ get_or slots k x → standing x ≡ Some i → before (k + 1) slots ≡ before k slots + 1
walk_open k slots x i lt e open_ =
    omega (arith, ap length (next_of k slots x lt e), length-append (open_of (take k slots)) (open_of (x ∷ [])), ap length (one_of x (Some i) open_))

-- and no more, where none is
pub walk_closed : (k : ℕ) (slots : List Slot) (x : Slot) → k < length slots → x ≡ get_or slots k x → standing x ≡ None → before (k + 1) slots ≡ before k slots
walk_closed k slots x lt e closed =
    omega (arith, ap length (next_of k slots x lt e), length-append (open_of (take k slots)) (open_of (x ∷ [])), ap length (one_of x None closed))

here_if : (s : Slot) (rest : List Slot) (k : ℕ) (o p : Option Incident) → standing s ≡ p → slice_get (open_of rest) (before k rest) ≡ o → slice_get (open_of (s ∷ rest)) (before (suc k) (s ∷ rest)) ≡ o
here_if s rest k o (Some j) e r = rw e r
here_if s rest k o None e r = rw e r

-- the incident that is open at a place stands among the open ones behind those before it
pub walk_here : (k : ℕ) (slots : List Slot) (x : Slot) (i : Incident) → k < length slots → x ≡ get_or slots k x → standing x ≡ Some i → slice_get (open_of slots) (before k slots) ≡ Some i
walk_here k [] x i lt e open_ = absurd (omega (arith, lt))
walk_here zero (s ∷ slots) x i lt e open_ = let same : x ≡ s = e in let here : standing s ≡ Some i = ap standing (sym same) ∙ open_ in rw here refl
walk_here (suc k) (s ∷ slots) x i lt e open_ = here_if s slots k (Some i) (standing s) refl (walk_here k slots x i (omega (arith, lt)) e open_)

pub walk_next : (k : ℕ) (slots : List Slot) (is : List Incident) (x : Slot) (i j : Incident) → open_of slots ≡ is → k < length slots → x ≡ get_or slots k x → standing x ≡ Some i → j ≡ i → slice_get is (before k slots) ≡ Some j
walk_next k slots is x i j whole lt e open_ same = ap (λ (l : List Incident). slice_get l (before k slots)) (sym whole) ∙ walk_here k slots x i lt e open_ ∙ ap Some (sym same)

pub walk_within : (k : ℕ) (slots : List Slot) (x : Slot) (i : Incident) → k < length slots → x ≡ get_or slots k x → standing x ≡ Some i → before k slots < length (open_of slots)
walk_within k slots x i lt e open_ = slice_get_within (open_of slots) (before k slots) i (walk_here k slots x i lt e open_)

pub walk_item : (k : ℕ) (slots : List Slot) (x : Slot) (i : Incident) → k < length slots → x ≡ get_or slots k x → standing x ≡ Some i → i ≡ get_or (open_of slots) (before k slots) i
walk_item k slots x i lt e open_ = sym (get_or_from_slice_get (open_of slots) (before k slots) i i (walk_here k slots x i lt e open_))

-- before the end are all
pub walk_end : (k : ℕ) (slots : List Slot) → length slots ≤ k → before k slots ≡ length (open_of slots)
walk_end k slots le = ap (λ (l : List Slot). length (open_of l)) (take_all k slots le)
