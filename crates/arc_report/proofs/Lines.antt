-- The lines of incidents, one after the other.
use Rattle.std.proofs.Common.{◌≡◌, ◌<◌, ◌+◌, ℕ, List, [], ◌∷◌, ◌++◌, length, take, drop, slice_index_or, Option, Some, None, codes, decimal, refl, sym, ◌∙◌, ap, append-nil}
use Rattle.std.specs.List.{flat_map, cons_option}
use Rattle.std.proofs.lemmas.List.{take_more, take-append-drop, append_assoc, length-map}
use Rattle.arc_data.specs.declared.incident.Incident.{Incident}
use Rattle.centre_rules.specs.Standing.{stands_at, standing_of}
use Rattle.incidents.specs.declared.slots.Slot.{Slot}
use Rattle.incidents.specs.Slots.{standing, open_of}
use Rattle.desk_wire.specs.Replies.{ended}
use Rattle.arc_report.specs.Reports.{incident_line}

lines_append : {A : Type 0} (f : A → List ℕ) (xs ys : List A) → flat_map f (xs ++ ys) ≡ flat_map f xs ++ flat_map f ys
lines_append f [] ys = refl
lines_append f (x ∷ xs) ys = ap (λ l. f x ++ l) (lines_append f xs ys) ∙ sym (append_assoc (f x) (flat_map f xs) (flat_map f ys))

-- with one line more
pub lines_more : {A : Type 0} (f : A → List ℕ) (xs : List A) (i : ℕ) (d : A) → i < length xs
    → flat_map f (take i xs) ++ f (slice_index_or xs i d) ≡ flat_map f (take (i + 1) xs)
lines_more f xs i d lt =
    let x = slice_index_or xs i d in
    ap (λ l. flat_map f (take i xs) ++ l) (sym (append-nil (f x))) ∙ sym (lines_append f (take i xs) (x ∷ [])) ∙ ap (flat_map f) (sym (take_more xs i d lt))

-- and with all that follow
pub lines_all : {A : Type 0} (f : A → List ℕ) (xs : List A) (n : ℕ) → flat_map f (take n xs) ++ flat_map f (drop n xs) ≡ flat_map f xs
lines_all f xs n = sym (lines_append f (take n xs) (drop n xs)) ∙ ap (flat_map f) (take-append-drop n xs)

-- Incidents as they stand.

abbrev pub stood_line : Option ℕ → ℕ → Incident → List ℕ
stood_line lapse at i = incident_line (stands_at lapse at i)

-- the line of what is open at a place
abbrev pub slot_line : Option ℕ → ℕ → Slot → List ℕ
slot_line lapse at s = flat_map incident_line (standing_of lapse at (open_of (s ∷ [])))

pub line_open : (lapse : Option ℕ) (at : ℕ) (s : Slot) (i : Incident) → standing s ≡ Some i → stood_line lapse at i ≡ slot_line lapse at s
line_open lapse at s i e = sym (append-nil (stood_line lapse at i)) ∙ ap (λ (o : Option Incident). flat_map incident_line (standing_of lapse at (cons_option o []))) (sym e)

pub line_closed : (lapse : Option ℕ) (at : ℕ) (s : Slot) → standing s ≡ None → [] ≡ slot_line lapse at s
line_closed lapse at s e = ap (λ (o : Option Incident). flat_map incident_line (standing_of lapse at (cons_option o []))) (sym e)

next_lines : (lapse : Option ℕ) (at : ℕ) (o : Option Incident) (rest : List ℕ) (is : List Incident) → rest ≡ flat_map incident_line (standing_of lapse at is)
    → flat_map incident_line (standing_of lapse at (cons_option o [])) ++ rest ≡ flat_map incident_line (standing_of lapse at (cons_option o is))
next_lines lapse at None rest is e = e
next_lines lapse at (Some i) rest is e = ap (λ l. l ++ rest) (append-nil (stood_line lapse at i)) ∙ ap (λ l. stood_line lapse at i ++ l) e

pub lines_stood : (lapse : Option ℕ) (at : ℕ) (slots : List Slot) → flat_map (slot_line lapse at) slots ≡ flat_map incident_line (standing_of lapse at (open_of slots))
lines_stood lapse at [] = refl
lines_stood lapse at (s ∷ slots) = next_lines lapse at (standing s) (flat_map (slot_line lapse at) slots) (open_of slots) (lines_stood lapse at slots)

pub count_stood : (lapse : Option ℕ) (at : ℕ) (is : List Incident)
    → codes "open " ++ ended (decimal (length is)) ≡ codes "open " ++ ended (decimal (length (standing_of lapse at is)))
count_stood lapse at is = ap (λ (n : ℕ). codes "open " ++ ended (decimal n)) (sym (length-map is (stands_at lapse at)))
