-- Marks raise counts by one at most.
use Rattle.std.proofs.Common.{◌≡◌, ◌≤◌, ℕ, ◌+◌, List, [], ◌∷◌, ◌++◌, map, Bool, true, false, cond, refl, arith}
use Rattle.std.specs.Prelude.{not, ◌&&◌}
use Rattle.std.specs.List.{filter}
use Rattle.arc_data.specs.Incidents.{Each, is_of, has_number}
use Rattle.arc_data.specs.declared.incident.Incident.{Incident}
use Rattle.centre_rules.specs.Marks.{Mark, Carries, Closes, Carried}
use Rattle.centre_rules.specs.Cases.{signals_at, opens, fresh, is_new}
use Rattle.centre_rules.specs.Tables.{touched_by, opened_after, table_after}
use Rattle.open_incidents.specs.Marked.{IsFew}

abbrev HasAtMost : ℕ → List Incident → Type 0
HasAtMost n is = Each (λ i. i.signals ≤ n) is

count_if : (b : Bool) (n : ℕ) → cond b (n + 1) n ≤ n + 1
count_if true n = omega arith
count_if false n = omega arith

most_map : (x : Carried) (n : ℕ) (is : List Incident) → HasAtMost n is → HasAtMost (n + 1) (map (touched_by (Carries x)) is)
most_map x n [] w = tt
most_map x n (i ∷ is) w = (omega (arith, w.0, count_if (is_of x.account x.signal.class i && is_new x.signal.kind) i.signals), most_map x n is w.1)

most_more : (n : ℕ) (is : List Incident) (i : Incident) → HasAtMost n is → i.signals ≤ n → HasAtMost n (is ++ i ∷ [])
most_more n [] i w e = (e, tt)
most_more n (j ∷ is) i w e = (w.0, most_more n is i w.1 e)

most_opened : (x : Carried) (n opened : ℕ) (is : List Incident) (b : Bool) → HasAtMost n is → HasAtMost n (cond b (is ++ fresh (opened + 1) x ∷ []) is)
most_opened x n opened is true w = most_more n is (fresh (opened + 1) x) w (omega arith)
most_opened x n opened is false w = w

pub few_carries : (x : Carried) (n opened : ℕ) (is : List Incident) → IsFew n opened is → IsFew (n + 1) (opened_after (Carries x) opened is) (table_after (Carries x) opened is)
few_carries x n opened is w = record {
  opened = omega (arith, w.opened, count_if (opens x is) opened);
  signals = most_map x n _ (most_opened x n opened is (opens x is) w.signals);
}

-- marks that change no count

same_map : (m : Mark) (n : ℕ) (is : List Incident) → ((i : Incident) → signals_at i m i.signals ≡ i.signals) → HasAtMost n is → HasAtMost n (map (touched_by m) is)
same_map m n [] same w = tt
same_map m n (i ∷ is) same w = (omega (arith, w.0, same i), same_map m n is same w.1)

pub few_same : (m : Mark) (n opened : ℕ) (is : List Incident) → ((i : Incident) → signals_at i m i.signals ≡ i.signals) → IsFew n opened is → IsFew n opened (map (touched_by m) is)
few_same m n opened is same w = record { opened = w.opened; signals = same_map m n is same w.signals }

most_if : (n : ℕ) (b : Bool) (i : Incident) (is : List Incident) → i.signals ≤ n → HasAtMost n is → HasAtMost n (cond b (i ∷ is) is)
most_if n true i is e w = (e, w)
most_if n false i is e w = w

most_filter : (n : ℕ) (p : Incident → Bool) (is : List Incident) → HasAtMost n is → HasAtMost n (filter p is)
most_filter n p [] w = tt
most_filter n p (i ∷ is) w = most_if n (p i) i (filter p is) w.0 (most_filter n p is w.1)

pub few_closes : (number n opened : ℕ) (is : List Incident) → IsFew n opened is → IsFew n opened (table_after (Closes number) opened is)
few_closes number n opened is w = record {
  opened = w.opened;
  signals = most_filter n (λ i. not (has_number number i)) _ (same_map (Closes number) n is (λ i. refl) w.signals);
}
