-- An account that has no place in a setup.
use Rattle.std.proofs.Common.{◌≡◌, ◌+◌, ℕ, List, [], ◌∷◌, Bool, true, false, cond, Option, Some, None, refl, sym, ◌∙◌}
use Rattle.std.proofs.lemmas.Iterator.Adapters.{position_from-zero}
use Rattle.std.specs.List.{position_from, find}
use Rattle.alarm_rules.specs.Setups.{Setup, Account, account_of, place_of, has_number}

none_if : (b : Bool) (i : ℕ) (x : Account) (o : Option ℕ) (f : Option Account) → (o ≡ None → f ≡ None) → cond b (Some i) o ≡ None → cond b (Some x) f ≡ None
none_if true i x o f rest e = absurd cc
none_if false i x o f rest e = rest e

none_from : (p : Account → Bool) (i : ℕ) (xs : List Account) → position_from p i xs ≡ None → find p xs ≡ None
none_from p i [] e = refl
none_from p i (x ∷ xs) e = none_if (p x) i x (position_from p (i + 1) xs) (find p xs) (none_from p (i + 1) xs) e

-- the setup lacks it
pub no_account : (setup : Setup) (number : List ℕ) → place_of setup number ≡ None → account_of setup number ≡ None
no_account setup number e = none_from (has_number number) 0 setup.accounts (sym (position_from-zero (has_number number) setup.accounts) ∙ e)
