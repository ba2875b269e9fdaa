-- What is known of each open incident, after a mark.
use Rattle.std.proofs.Common.{◌≡◌, ℕ, ◌+◌, List, [], ◌∷◌, ◌++◌, map, Bool, true, false, cond, refl, Option, Some, subst}
use Rattle.std.specs.Prelude.{not}
use Rattle.std.specs.List.{filter}
use Rattle.arc_data.specs.Incidents.{Each}
use Rattle.centre_rules.specs.Marks.{Mark, Carries, Closes}
use Rattle.centre_rules.specs.Cases.{Incident, opens, fresh, has_number}
use Rattle.centre_rules.specs.Tables.{touched_by, with_opened, without_closed, table_after}
use Rattle.centre_rules.specs.Desks.{numbered}

pub each_weaker : (P Q : Incident → Type 0) → ((i : Incident) → P i → Q i) → (is : List Incident) → Each P is → Each Q is
each_weaker P Q f [] w = tt
each_weaker P Q f (i ∷ is) w = (f i w.0, each_weaker P Q f is w.1)

pub each_both : (P Q R : Incident → Type 0) → ((i : Incident) → P i → Q i → R i) → (is : List Incident) → Each P is → Each Q is → Each R is
each_both P Q R f [] v w = tt
each_both P Q R f (i ∷ is) v w = (f i v.0 w.0, each_both P Q R f is v.1 w.1)

each_more : (P : Incident → Type 0) (is : List Incident) (i : Incident) → Each P is → P i → Each P (is ++ i ∷ [])
each_more P [] i w p = (p, tt)
each_more P (j ∷ is) i w p = (w.0, each_more P is i w.1 p)

each_if : (P : Incident → Type 0) (b : Bool) (i : Incident) (is : List Incident) → P i → Each P is → Each P (cond b (i ∷ is) is)
each_if P true i is p w = (p, w)
each_if P false i is p w = w

each_filter : (P : Incident → Type 0) (test : Incident → Bool) (is : List Incident) → Each P is → Each P (filter test is)
each_filter P test [] w = tt
each_filter P test (i ∷ is) w = each_if P (test i) i (filter test is) w.0 (each_filter P test is w.1)

each_map : (P Q : Incident → Type 0) (m : Mark) → ((i : Incident) → P i → Q (touched_by m i)) → (is : List Incident) → Each P is → Each Q (map (touched_by m) is)
each_map P Q m f [] w = tt
each_map P Q m f (i ∷ is) w = (f i w.0, each_map P Q m f is w.1)

-- what has to be known of an incident that the mark opens
abbrev pub NewOne : (Incident → Type 0) → Mark → ℕ → List Incident → Type 0
NewOne P (Carries x) opened is = opens x is ≡ true → P (fresh (opened + 1) x)
NewOne P m opened is = Unit {0}

opened_if : (P : Incident → Type 0) (is : List Incident) (i : Incident) (b : Bool) → Each P is → (b ≡ true → P i) → Each P (cond b (is ++ i ∷ []) is)
opened_if P is i true w p = each_more P is i w (p refl)
opened_if P is i false w p = w

each_opened : (P : Incident → Type 0) (m : Mark) (opened : ℕ) (is : List Incident) → Each P is → NewOne P m opened is → Each P (with_opened m opened is)
each_opened P (Carries x) opened is w p = opened_if P is (fresh (opened + 1) x) (opens x is) w p
each_opened P m opened is w p = w

each_left : (P : Incident → Type 0) (m : Mark) (is : List Incident) → Each P is → Each P (without_closed m is)
each_left P (Closes number) is w = each_filter P (λ i. not (has_number number i)) is w
each_left P m is w = w

pub each_table : (P Q : Incident → Type 0) (m : Mark) (opened : ℕ) (is : List Incident) → Each P is → NewOne P m opened is → ((i : Incident) → P i → Q (touched_by m i)) → Each Q (table_after m opened is)
each_table P Q m opened is w p f = each_left Q m _ (each_map P Q m f (with_opened m opened is) (each_opened P m opened is w p))

found_if : (P : Incident → Type 0) (b : Bool) (i j : Incident) (rest : Option Incident) → P i → (rest ≡ Some j → P j) → cond b (Some i) rest ≡ Some j → P j
found_if P true i j rest p f e = (let same : i ≡ j = cc in subst P same p)
found_if P false i j rest p f e = f e

-- so it is known of one that is found
pub each_found : (P : Incident → Type 0) (n : ℕ) (is : List Incident) (i : Incident) → Each P is → numbered n is ≡ Some i → P i
each_found P n [] i w e = cc
each_found P n (j ∷ is) i w e = found_if P (has_number n j) j i (numbered n is) w.0 (each_found P n is i w.1) e
