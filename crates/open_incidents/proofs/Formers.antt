-- The incident of a number, known by what it was.
use Rattle.std.proofs.Common.{◌≡◌, ℕ, List, [], ◌∷◌, Bool, true, false, cond, refl, sym, ap, ◌∙◌, Option, Some, None}
use Rattle.std.specs.Option.{option_map}
use Rattle.std.proofs.lemmas.Bool.{eqb-true}
use Rattle.arc_data.specs.Classes.{priority_of}
use Rattle.arc_data.specs.Incidents.{has_number}
use Rattle.arc_data.specs.declared.incident.Incident.{Incident}
use Rattle.centre_rules.specs.Desks.{is_free, numbered}
use Rattle.incidents.specs.declared.slots.Former.{Former}
use Rattle.incidents.specs.Tables.{former_of}
use Rattle.open_incidents.specs.Holding.{is_held}
use Rattle.open_incidents.specs.Waiting.{pair_of, WasIn}
use Rattle.open_incidents.proofs.Parts.{free_by, held_by}

pub record One (is : List Incident) (n : ℕ) (f : Former) : Type 0 where
  pub incident : Incident
  pub found : numbered n is ≡ Some incident
  pub same : former_of incident ≡ f

one_if : (o : Option Incident) (is : List Incident) (n : ℕ) (f : Former) → numbered n is ≡ o → Some f ≡ option_map former_of o → One is n f
one_if None is n f e s = absurd (cc)
one_if (Some i) is n f e s = record { incident = i; found = e; same = cc }

pub one : (is : List Incident) (n : ℕ) (o : Option Former) (f : Former) → WasIn is n o → o ≡ Some f → One is n f
one is n o f w s = one_if (numbered n is) is n f refl (sym s ∙ w.found)

none_if : (o : Option Incident) (is : List Incident) (n : ℕ) → numbered n is ≡ o → None ≡ option_map former_of o → numbered n is ≡ None
none_if None is n e s = e
none_if (Some i) is n e s = absurd (cc)

pub none : (is : List Incident) (n : ℕ) (o : Option Former) → WasIn is n o → o ≡ None → numbered n is ≡ None
none is n o w s = none_if (numbered n is) is n refl (sym s ∙ w.found)

-- Its number, and whether it has a claimer.

number_if : (b : Bool) (n : ℕ) (j i : Incident) (is : List Incident) → has_number n j ≡ b → (numbered n is ≡ Some i → i.number ≡ n)
    → cond b (Some j) (numbered n is) ≡ Some i → i.number ≡ n
number_if true n j i is t rest e =
    let same : j ≡ i = cc in
    ap (λ (x : Incident). x.number) (sym same) ∙ eqb-true j.number n t
number_if false n j i is t rest e = rest e

number_is : (n : ℕ) (is : List Incident) (i : Incident) → numbered n is ≡ Some i → i.number ≡ n
number_is n [] i e = absurd (cc)
number_is n (j ∷ is) i e = number_if (has_number n j) n j i is refl (number_is n is i) e

pub claimed_so : (is : List Incident) (n : ℕ) (f : Former) (b : Bool) (w : One is n f) → f.is_held ≡ b → is_held w.incident ≡ b
claimed_so is n f b w e = ap (λ (g : Former). g.is_held) w.same ∙ e

pub free_so : (is : List Incident) (n : ℕ) (f : Former) (w : One is n f) → f.is_held ≡ false → is_free w.incident ≡ true
free_so is n f w e = free_by w.incident.holder (sym (claimed_so is n f false w e))

pub held_so : (is : List Incident) (n : ℕ) (f : Former) (w : One is n f) → f.is_held ≡ true → is_free w.incident ≡ false
held_so is n f w e = held_by w.incident.holder (sym (claimed_so is n f true w e))

pub pair_so : (is : List Incident) (n : ℕ) (f : Former) (p : ℕ) (w : One is n f) → p ≡ priority_of f.class → (p, n) ≡ pair_of w.incident
pair_so is n f p w e =
    let priority : p ≡ priority_of w.incident.class = e ∙ ap (λ (g : Former). priority_of g.class) (sym w.same) in
    let number : n ≡ w.incident.number = sym (number_is n is w.incident w.found) in
    λ k. (priority k, number k)
