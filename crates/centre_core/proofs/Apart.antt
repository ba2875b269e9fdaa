-- None of some incidents is of the account and class of another one, and its holder holds none of them.
use Rattle.std.proofs.Common.{◌≡◌, ℕ, List, [], ◌∷◌, Bool, true, false, cond, Option, Some, None, refl, sym, ap, ◌∙◌}
use Rattle.std.specs.Prelude.{◌&&◌}
use Rattle.std.specs.List.{find}
use Rattle.std.proofs.lemmas.Cmp.{nat_list_eq_equiv}
use Rattle.arc_data.specs.Classes.{same_class_equiv}
use Rattle.arc_data.specs.Incidents.{is_of}
use Rattle.arc_data.specs.declared.incident.Incident.{Incident}
use Rattle.centre_rules.specs.Desks.{holds, is_holder}
use Rattle.summary_rules.specs.Fields.{Given}
use Rattle.summary_rules.specs.Lists.{Every}
use Rattle.summary_rules.specs.Conditions.{IsApart, IsHeldApart}

-- What finds nothing.

none_if : {A : Type 0} (b : Bool) (x : A) (o : Option A) → cond b (Some x) o ≡ None → (b ≡ false) × (o ≡ None)
none_if true x o e = absurd cc
none_if false x o e = (refl, e)

pub none_every : {A : Type 0} (p : A → Bool) (xs : List A) → find p xs ≡ None → Every (λ x. p x ≡ false) xs
none_every p [] e = tt
none_every p (x ∷ xs) e = let w = none_if (p x) x (find p xs) e in (w.0, none_every p xs w.1)

pub every_none : {A : Type 0} (p : A → Bool) (xs : List A) → Every (λ x. p x ≡ false) xs → find p xs ≡ None
every_none p [] w = refl
every_none {A = A} p (x ∷ xs) w = ap (λ (b : Bool). cond b (Some x) (find p xs)) w.0 ∙ every_none p xs w.1

each_so : (P Q : Incident → Type 0) → ((i : Incident) → P i → Q i) → (is : List Incident) → Every P is → Every Q is
each_so P Q f [] w = tt
each_so P Q f (i ∷ is) w = (f i w.0, each_so P Q f is w.1)

-- Accounts and classes.

of_both : (i j : Incident) → is_of i.account i.class j ≡ is_of j.account j.class i
of_both i j = λ k. nat_list_eq_equiv.symm j.account i.account k && same_class_equiv.symm j.class i.class k

pub apart_every : (is : List Incident) (x : Incident) → find (is_of x.account x.class) is ≡ None → Every (λ other. IsApart other x) is
apart_every is x e =
    each_so (λ other. is_of x.account x.class other ≡ false) (λ other. IsApart other x) (λ other w. of_both other x ∙ w) is (none_every (is_of x.account x.class) is e)

pub every_apart : (is : List Incident) (x : Incident) → Every (λ other. IsApart other x) is → find (is_of x.account x.class) is ≡ None
every_apart is x w =
    every_none (is_of x.account x.class) is (each_so (λ other. IsApart other x) (λ other. is_of x.account x.class other ≡ false) (λ other v. of_both x other ∙ v) is w)

-- Holders.

not_holder : (operator : List ℕ) (of other : Option (List ℕ)) → of ≡ Some operator → is_holder operator other ≡ false → Given (λ x. is_holder x of ≡ false) other
not_holder operator of None e f = tt
not_holder operator of (Some x) e f = ap (is_holder x) e ∙ nat_list_eq_equiv.symm operator x ∙ f

holder_not : (operator : List ℕ) (of other : Option (List ℕ)) → of ≡ Some operator → Given (λ x. is_holder x of ≡ false) other → is_holder operator other ≡ false
holder_not operator of None e w = refl
holder_not operator of (Some x) e w = nat_list_eq_equiv.symm x operator ∙ sym (ap (is_holder x) e) ∙ w

free_holder : (of other : Option (List ℕ)) → of ≡ None → Given (λ x. is_holder x of ≡ false) other
free_holder of None e = tt
free_holder of (Some x) e = ap (is_holder x) e

pub held_every : (is : List Incident) (x : Incident) (operator : List ℕ) → x.holder ≡ Some operator → find (holds operator) is ≡ None → Every (λ other. IsHeldApart other x) is
held_every is x operator e none =
    each_so (λ other. holds operator other ≡ false) (λ other. IsHeldApart other x) (λ other w. not_holder operator x.holder other.holder e w) is (none_every (holds operator) is none)

pub every_held : (is : List Incident) (x : Incident) (operator : List ℕ) → x.holder ≡ Some operator → Every (λ other. IsHeldApart other x) is → find (holds operator) is ≡ None
every_held is x operator e w =
    every_none (holds operator) is (each_so (λ other. IsHeldApart other x) (λ other. holds operator other ≡ false) (λ other v. holder_not operator x.holder other.holder e v) is w)

pub free_every : (is : List Incident) (x : Incident) → x.holder ≡ None → Every (λ other. IsHeldApart other x) is
free_every [] x e = tt
free_every (i ∷ is) x e = (free_holder x.holder i.holder e, free_every is x e)
