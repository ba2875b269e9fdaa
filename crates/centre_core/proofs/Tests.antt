-- Tests that no item passes.
use Rattle.std.proofs.Common.{◌≡◌, List, [], ◌∷◌, Bool, true, false, refl, ap, ◌∙◌}
use Rattle.std.specs.Prelude.{◌||◌}
use Rattle.std.specs.List.{list_any}
use Rattle.summary_rules.specs.Lists.{Every}

or_false : (b c : Bool) → (b || c) ≡ false → (b ≡ false) × (c ≡ false)
or_false true c e = absurd cc
or_false false c e = (refl, e)

pub none_any : {A : Type 0} (p : A → Bool) (xs : List A) → list_any p xs ≡ false → Every (λ x. p x ≡ false) xs
none_any p [] e = tt
none_any p (x ∷ xs) e = let w = or_false (p x) (list_any p xs) e in (w.0, none_any p xs w.1)

pub any_none : {A : Type 0} (p : A → Bool) (xs : List A) → Every (λ x. p x ≡ false) xs → list_any p xs ≡ false
any_none p [] w = refl
any_none p (x ∷ xs) w = ap (λ (b : Bool). b || list_any p xs) w.0 ∙ any_none p xs w.1
