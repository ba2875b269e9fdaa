-- The open incidents as they stand at a moment are those that are open.
use Rattle.std.proofs.Common.{◌≡◌, ℕ, List, [], ◌∷◌, map, Bool, true, false, cond, refl, sym, ap, ◌∙◌, Option, Some, None}
use Rattle.std.specs.Option.{option_map}
use Rattle.centre_rules.specs.Cases.{Incident, has_number, Ascends}
use Rattle.centre_rules.specs.Desks.{numbered}
pub use Rattle.centre_rules.specs.Standing.{stands_at, standing_of}

stood_if : (f : Incident → Incident) (b : Bool) (i : Incident) (rest stood : Option Incident) → stood ≡ option_map f rest
    → cond b (Some (f i)) stood ≡ option_map f (cond b (Some i) rest)
stood_if f true i rest stood e = refl
stood_if f false i rest stood e = e

pub numbered_stood : (lapse : Option ℕ) (at n : ℕ) (is : List Incident) → numbered n (standing_of lapse at is) ≡ option_map (stands_at lapse at) (numbered n is)
numbered_stood lapse at n [] = refl
numbered_stood lapse at n (i ∷ is) = stood_if (stands_at lapse at) (has_number n i) i (numbered n is) (numbered n (standing_of lapse at is)) (numbered_stood lapse at n is)

-- what stands is an open incident
pub record IsStood (lapse : Option ℕ) (at n : ℕ) (is : List Incident) (j : Incident) : Type 0 where
  pub incident : Incident
  pub found : numbered n is ≡ Some incident
  pub same : j ≡ stands_at lapse at incident

stood_of : (lapse : Option ℕ) (at n : ℕ) (is : List Incident) (j : Incident) (f : Option Incident) → numbered n is ≡ f
    → option_map (stands_at lapse at) f ≡ Some j → IsStood lapse at n is j
stood_of lapse at n is j None e same = cc
stood_of lapse at n is j (Some i) e same = record { incident = i; found = e; same = cc }

pub stood_found : (lapse : Option ℕ) (at n : ℕ) (is : List Incident) (j : Incident) → numbered n (standing_of lapse at is) ≡ Some j
    → IsStood lapse at n is j
stood_found lapse at n is j e = stood_of lapse at n is j (numbered n is) refl (sym (numbered_stood lapse at n is) ∙ e)

-- and an open incident stands
pub found_stood : (lapse : Option ℕ) (at n : ℕ) (is : List Incident) (i : Incident) → numbered n is ≡ Some i
    → numbered n (standing_of lapse at is) ≡ Some (stands_at lapse at i)
found_stood lapse at n is i e = numbered_stood lapse at n is ∙ ap (option_map (stands_at lapse at)) e

pub ascends_stood : (lapse : Option ℕ) (at low : ℕ) (is : List Incident) (high : ℕ) → Ascends low is high → Ascends low (standing_of lapse at is) high
ascends_stood lapse at low [] high a = a
ascends_stood lapse at low (i ∷ is) high a = (a.0, ascends_stood lapse at i.number is high a.1)
