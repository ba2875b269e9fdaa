-- What a table keeps, over each change.
use Rattle.std.proofs.Common.{◌≡◌, ◌<◌, ◌≤◌, ℕ, ◌+◌, ◌-◌, List, [], ◌∷◌, ◌++◌, length, map, Bool, true, false, Some, None, refl, subst}
use Rattle.std.specs.Prelude.{if◌then◌else◌}
use Rattle.std.specs.List.{find}
use Rattle.arc_data.specs.Incidents.{has_number, is_of, Each}
use Rattle.arc_data.specs.declared.incident.Incident.{Incident}
use Rattle.incidents.specs.Index.{IndexValue, Tells}
use Rattle.incidents.specs.Tables.{IsKept, at_number, without}
use Rattle.incidents.proofs.Indexed.{alike_indexed, more_indexed, less_indexed}
use Rattle.incidents.proofs.Places.{IsAlike, at_found, remove_there, alike_table, more_table, put_table, less_table}

pub alike_kept : (opened room memory : ℕ) (index : IndexValue) (f : Incident → Incident) (is : List Incident) → IsKept opened is room memory index → ((i : Incident) → IsAlike (f i) i) → IsKept opened (map f is) room memory index
alike_kept opened room memory index f is k a = record { table = alike_table opened room memory f is k.table a; indexed = alike_indexed index f is room k.indexed a }

if_alike : (b : Bool) (x i : Incident) → IsAlike x i → IsAlike (if b then x else i) i
if_alike true x i a = a
if_alike false x i a = record { number = refl; account = refl; class = refl }

-- one incident is changed, and goes on to have its number, account and class
pub changed_kept : (n opened room memory : ℕ) (index : IndexValue) (f : Incident → Incident) (is : List Incident) → IsKept opened is room memory index → ((i : Incident) → IsAlike (f i) i) → IsKept opened (at_number n f is) room memory index
changed_kept n opened room memory index f is k a =
    alike_kept opened room memory index (λ i. if has_number n i then f i else i) is k (λ i. if_alike (has_number n i) (f i) i (a i))

pub more_kept : (opened room memory more : ℕ) (old new : IndexValue) (is : List Incident) (i : Incident) → memory ≤ more → IsKept opened is room memory old → i.number ≡ opened + 1 → find (is_of i.account i.class) is ≡ None → length is < room → Tells i.account i.class (Some i.number) old new → old.spare ≤ new.spare + 1
    → IsKept (opened + 1) (is ++ i ∷ []) room more new
more_kept opened room memory more old new is i le k e none lt t s = record {
  table = more_table opened room memory more is i le k.table e none lt;
  indexed = more_indexed old new is room i k.indexed t s none;
}

pub put_kept : (opened room memory more : ℕ) (old new : IndexValue) (is : List Incident) (i : Incident) → memory ≤ more → IsKept opened is room memory old → 0 < i.number → Each (λ j. j.number < i.number) is → i.number ≤ opened → find (is_of i.account i.class) is ≡ None → length is < room → Tells i.account i.class (Some i.number) old new
    → old.spare ≤ new.spare + 1 → IsKept opened (is ++ i ∷ []) room more new
put_kept opened room memory more old new is i grown k positive above le none lt t s = record {
  table = put_table opened room memory more is i grown k.table positive above le none lt;
  indexed = more_indexed old new is room i k.indexed t s none;
}

pub less_kept : (n opened room memory left : ℕ) (old new : IndexValue) (is : List Incident) (x : Incident) → memory ≤ left + 1 → IsKept opened is room memory old → find (has_number n) is ≡ Some x → Tells x.account x.class None old new → old.spare ≤ new.spare → IsKept opened (without n is) (room - 1) left new
less_kept n opened room memory left old new is x le k found t s =
    let w = at_found n is x found in
    subst (λ (l : List Incident). IsKept opened l (room - 1) left new) (remove_there n 0 is opened w.0 x k.table.ascends w.1)
    (record {
      table = less_table n opened room memory left is w.0 x le k.table w.1;
      indexed = less_indexed old new is room w.0 x k.indexed k.table.single w.1.below w.1.item t s;
    })
