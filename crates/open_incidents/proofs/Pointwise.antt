-- A change of the one incident of a number is what the mark makes of each.
use Rattle.std.proofs.Common.{◌≡◌, ℕ, List, [], ◌∷◌, map, Bool, true, false, cond, refl, sym, ap, ◌∙◌, Option, Some, None, subst}
use Rattle.std.specs.Prelude.{not, is_some, IsSome, IfSome}
use Rattle.std.specs.List.{find, filter}
use Rattle.std.proofs.lemmas.Bool.{eqb-true}
use Rattle.arc_data.specs.Incidents.{has_number, Ascends, Each}
use Rattle.arc_data.specs.declared.incident.Incident.{Incident}
use Rattle.arc_data.specs.declared.step.Acted.{Acted}
use Rattle.incidents.specs.Tables.{at_number, without, held, acted}
use Rattle.centre_rules.specs.Marks.{Claims, Acts, Releases, Closes}
use Rattle.centre_rules.specs.Tables.{touched_by}
use Rattle.centre_rules.specs.Desks.{numbered}
use Rattle.centre_rules.proofs.Tables.{all_found}

claim_if : (o : List ℕ) (n at : ℕ) (i : Incident) (b : Bool) → has_number n i ≡ b → cond b (held (Some o) at i) i ≡ touched_by (Claims o n at) i
claim_if o n at i true e = rw e refl
claim_if o n at i false e = rw e refl

pub claims_map : (o : List ℕ) (n at : ℕ) (is : List Incident) → at_number n (held (Some o) at) is ≡ map (touched_by (Claims o n at)) is
claims_map o n at [] = refl
claims_map o n at (i ∷ is) = λ k. claim_if o n at i (has_number n i) refl k ∷ claims_map o n at is k

release_if : (n : ℕ) (i : Incident) (b : Bool) → has_number n i ≡ b → cond b (held None 0 i) i ≡ touched_by (Releases n) i
release_if n i true e = rw e refl
release_if n i false e = rw e refl

pub releases_map : (n : ℕ) (is : List Incident) → at_number n (held None 0) is ≡ map (touched_by (Releases n)) is
releases_map n [] = refl
releases_map n (i ∷ is) = λ k. release_if n i (has_number n i) refl k ∷ releases_map n is k

-- An act is recorded where the incident is held.

act_if : (n : ℕ) (a : Acted) (i : Incident) (b : Bool) → has_number n i ≡ b → (b ≡ true → is_some i.holder ≡ true) → cond b (acted a i) i ≡ touched_by (Acts n a) i
act_if n a i true e h = rw (e, h refl) refl
act_if n a i false e h = rw e refl

acts_each : (n : ℕ) (a : Acted) (is : List Incident) → Each (λ i. has_number n i ≡ true → is_some i.holder ≡ true) is → at_number n (acted a) is ≡ map (touched_by (Acts n a)) is
acts_each n a [] w = refl
acts_each n a (i ∷ is) w = λ k. act_if n a i (has_number n i) refl w.0 k ∷ acts_each n a is w.1 k

found_held : (n : ℕ) (i : Incident) (all : List Incident) → IfSome (find (has_number n) all) (λ j. IsSome j.holder) → numbered i.number all ≡ Some i → has_number n i ≡ true → is_some i.holder ≡ true
found_held n i all held found e =
    let same : find (has_number n) all ≡ Some i = ap (λ k. find (has_number k) all) (sym (eqb-true i.number n e)) ∙ found in
    subst (λ (f : Option Incident). IfSome f (λ j. IsSome j.holder)) same held

all_held : (n : ℕ) (is all : List Incident) → IfSome (find (has_number n) all) (λ j. IsSome j.holder) → Each (λ i. numbered i.number all ≡ Some i) is → Each (λ i. has_number n i ≡ true → is_some i.holder ≡ true) is
all_held n [] all held found = tt
all_held n (i ∷ is) all held found = (found_held n i all held found.0, all_held n is all held found.1)

pub acts_map : (n : ℕ) (a : Acted) (is : List Incident) (high : ℕ) → Ascends 0 is high → IfSome (find (has_number n) is) (λ j. IsSome j.holder) → at_number n (acted a) is ≡ map (touched_by (Acts n a)) is
acts_map n a is high rise held = acts_each n a is (all_held n is is held (all_found 0 is high rise))

-- A closing takes the one of its number away, and leaves the others.

kept_if : (n : ℕ) (i : Incident) (xs ys : List Incident) (b : Bool) → has_number n i ≡ b → xs ≡ ys → cond (not b) (i ∷ xs) xs ≡ cond (not b) (touched_by (Closes n) i ∷ ys) ys
kept_if n i xs ys true e rest = rest
kept_if n i xs ys false e rest = rw e (ap (λ l. i ∷ l) rest)

pub closes_map : (n : ℕ) (is : List Incident) → without n is ≡ filter (λ i. not (has_number n i)) (map (touched_by (Closes n)) is)
closes_map n [] = refl
closes_map n (i ∷ is) = kept_if n i (without n is) _ (has_number n i) refl (closes_map n is)
