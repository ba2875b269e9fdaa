-- The texts of what is open at places, one place after another.
use Rattle.std.proofs.Common.{◌≡◌, ◌<◌, ◌≤◌, ◌+◌, ℕ, zero, suc, List, [], ◌∷◌, ◌++◌, length, take, get_or, Option, Some, None, sym, ap, ◌∙◌, append_assoc, arith, subst}
use Rattle.std.specs.List.{flat_map, cons_option}
use Rattle.std.proofs.lemmas.Grind.{flat_map-append}
use Rattle.std.proofs.lemmas.List.{take_more, take_all}
use Rattle.std.proofs.lemmas.List.Elements.{filter_map-append}
use Rattle.arc_data.specs.declared.incident.Incident.{Incident}
use Rattle.incidents.specs.declared.slots.Slot.{Slot}
use Rattle.incidents.specs.Slots.{standing, open_of}
use Rattle.summary_rules.specs.Lists.{Every}

next_of : (slots : List Slot) (k : ℕ) (x : Slot) → k < length slots → x ≡ get_or slots k x → open_of (take (k + 1) slots) ≡ open_of (take k slots) ++ open_of (x ∷ [])
next_of slots k x lt e =
    ap (λ (l : List Slot). open_of l) (take_more slots k x lt ∙ ap (λ (y : Slot). take k slots ++ y ∷ []) (sym e)) ∙ filter_map-append standing (take k slots) (x ∷ [])

-- behind what stood there, the texts at the first so many places, and at one more
pub slots_more : (f : Incident → List ℕ) (slots : List Slot) (k : ℕ) (x : Slot) (old out new : List ℕ) → k < length slots → x ≡ get_or slots k x
    → out ≡ old ++ flat_map f (open_of (take k slots)) → new ≡ out ++ flat_map f (open_of (x ∷ [])) → new ≡ old ++ flat_map f (open_of (take (k + 1) slots))
slots_more f slots k x old out new lt e so_far more =
    let next : flat_map f (open_of (take (k + 1) slots)) ≡ flat_map f (open_of (take k slots)) ++ flat_map f (open_of (x ∷ [])) =
    ap (flat_map f) (next_of slots k x lt e) ∙ flat_map-append f (open_of (take k slots)) (open_of (x ∷ [])) in
    more ∙ ap (λ l. l ++ flat_map f (open_of (x ∷ []))) so_far ∙ append_assoc old (flat_map f (open_of (take k slots))) (flat_map f (open_of (x ∷ []))) ∙ ap (λ l. old ++ l) (sym next)

-- the texts of all that are open
pub slots_all : (f : Incident → List ℕ) (slots : List Slot) (is : List Incident) (k : ℕ) (old out : List ℕ) → length slots ≤ k → open_of slots ≡ is → out ≡ old ++ flat_map f (open_of (take k slots)) → out ≡ old ++ flat_map f is
slots_all f slots is k old out all whole so_far = so_far ∙ ap (λ (l : List Slot). old ++ flat_map f (open_of l)) (take_all k slots all) ∙ ap (λ (js : List Incident). old ++ flat_map f js) whole

every_first : (P : Incident → Type 0) (o : Option Incident) (is : List Incident) → Every P (cons_option o is) → Every P (cons_option o [])
every_first P None is w = tt
every_first P (Some i) is w = (w.0, tt)

every_rest : (P : Incident → Type 0) (o : Option Incident) (is : List Incident) → Every P (cons_option o is) → Every P is
every_rest P None is w = w
every_rest P (Some i) is w = w.1

-- what holds of each that is open holds of what is open at a place
pub every_open : (P : Incident → Type 0) (slots : List Slot) (k : ℕ) (x : Slot) → k < length slots → x ≡ get_or slots k x → Every P (open_of slots) → Every P (open_of (x ∷ []))
every_open P [] k x lt e w = absurd (omega (arith, lt))
every_open P (s ∷ slots) zero x lt e w = let same : x ≡ s = e in subst (λ (y : Slot). Every P (open_of (y ∷ []))) (sym same) (every_first P (standing s) (open_of slots) w)
every_open P (s ∷ slots) (suc k) x lt e w = every_open P slots k x (omega (arith, lt)) e (every_rest P (standing s) (open_of slots) w)
