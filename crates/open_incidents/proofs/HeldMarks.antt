-- Who is held after each mark.
use Rattle.std.proofs.Common.{◌≡◌, ◌+◌, ℕ, List, [], ◌∷◌, ◌++◌, map, Bool, true, false, cond, refl, sym, ap, ◌∙◌, Some, append-nil}
use Rattle.arc_data.specs.declared.incident.Incident.{Incident}
use Rattle.arc_data.specs.declared.step.Acted.{Acted}
use Rattle.centre_rules.specs.Cases.{opens, fresh}
use Rattle.centre_rules.specs.Marks.{Starts, Carries, Claims, Acts, Releases, Closes, Carried}
use Rattle.centre_rules.specs.Tables.{touched_by, table_after}
use Rattle.open_incidents.proofs.Pointwise.{claims_map, releases_map, closes_map}
use Rattle.incidents.specs.Tables.{at_number, held}
use Rattle.open_incidents.specs.Holding.{held_numbers, without_number}
use Rattle.open_incidents.proofs.Holders.{same_all, held_append, released_numbers, closed_numbers}

starts_none : (at : ℕ) (is : List Incident) → held_numbers (map (touched_by (Starts at)) is) ≡ []
starts_none at [] = refl
starts_none at (i ∷ is) = starts_none at is

-- after a start none is held
pub held_started : (at : ℕ) (is js : List Incident) (ns : List ℕ) → js ≡ map (touched_by (Starts at)) is → ns ≡ [] → ns ≡ held_numbers js
held_started at is js ns e none = none ∙ sym (ap held_numbers e ∙ starts_none at is)

-- after a claim that incident is held too
pub held_claimed : (o : List ℕ) (n at : ℕ) (is js : List Incident) (ns : List ℕ) → js ≡ map (touched_by (Claims o n at)) is
    → ns ≡ held_numbers (at_number n (held (Some o) at) is) → ns ≡ held_numbers js
held_claimed o n at is js ns e put = put ∙ ap held_numbers (claims_map o n at is ∙ sym e)

-- after a release the others are held that were
pub held_released : (n : ℕ) (is js : List Incident) (ms ns : List ℕ) → js ≡ map (touched_by (Releases n)) is → ms ≡ held_numbers is
    → ns ≡ without_number n ms → ns ≡ held_numbers js
held_released n is js ms ns e same out =
    out ∙ ap (without_number n) same ∙ sym (released_numbers n is) ∙ ap held_numbers (releases_map n is ∙ sym e)

-- after an act the same ones are held
pub held_acted : (n : ℕ) (a : Acted) (is js : List Incident) (ns : List ℕ) → js ≡ map (touched_by (Acts n a)) is → ns ≡ held_numbers is
    → ns ≡ held_numbers js
held_acted n a is js ns e same =
    same ∙ sym (ap held_numbers e ∙ same_all (touched_by (Acts n a)) is (λ i. refl) (λ i. refl))

-- after a closing the others are held that were
pub held_closed : (n opened : ℕ) (is js : List Incident) (ms ns : List ℕ) → js ≡ table_after (Closes n) opened is → ms ≡ held_numbers is
    → ns ≡ without_number n ms → ns ≡ held_numbers js
held_closed n opened is js ms ns e same out =
    out ∙ ap (without_number n) same ∙ sym (closed_numbers n is) ∙ ap held_numbers (closes_map n is ∙ sym e)

-- what a signal opens is held by nobody
opened_if : (b : Bool) (n : ℕ) (x : Carried) (is : List Incident) → held_numbers (cond b (is ++ fresh n x ∷ []) is) ≡ held_numbers is
opened_if true n x is = held_append is (fresh n x ∷ []) ∙ append-nil (held_numbers is)
opened_if false n x is = refl

-- after a signal the same ones are held
pub held_carried : (x : Carried) (opened : ℕ) (is js : List Incident) (ns : List ℕ) → js ≡ table_after (Carries x) opened is
    → ns ≡ held_numbers is → ns ≡ held_numbers js
held_carried x opened is js ns e same =
    let all = cond (opens x is) (is ++ fresh (opened + 1) x ∷ []) is in
    same ∙ sym (ap held_numbers e ∙ same_all (touched_by (Carries x)) all (λ i. refl) (λ i. refl) ∙ opened_if (opens x is) (opened + 1) x is)
