-- The signals that a message carries are of its account.
use Rattle.std.proofs.Common.{◌≡◌, ℕ, List, [], ◌∷◌, ◌++◌, Bool, true, false, cond, refl, sym, subst, Option, Some, None}
use Rattle.std.specs.Prelude.{unwrap_or}
use Rattle.std.specs.List.{flat_map}
use Rattle.arc_data.specs.declared.event.Event.{Event}
use Rattle.arc_data.specs.declared.event.Event.TheVariants.{Message as Sent}
use Rattle.arc_data.specs.declared.signal.Signal.{Signal}
use Rattle.alarm_rules.specs.Setups.{Setup, account_of}
use Rattle.alarm_rules.specs.Signals.{signals}
use Rattle.centre_rules.specs.Summary.{Summary}
use Rattle.centre_rules.specs.Marks.{Carried, force}
use Rattle.centre_rules.specs.Carrying.{carried, carried_by, carried_sent, is_irregular, own_signal, if_in_force}
use Rattle.centre_core.specs.Taken.{AreOwn}
use Rattle.centre_core.proofs.Timely.{AllOf, all_by}

abbrev IsOf : List ℕ → Carried → Type 0
IsOf account x = x.account ≡ account

append_of : (account : List ℕ) (xs ys : List Carried) → AllOf (IsOf account) xs → AllOf (IsOf account) ys → AllOf (IsOf account) (xs ++ ys)
append_of account [] ys f g = g
append_of account (x ∷ xs) ys f g = (f.0, append_of account xs ys f.1 g)

one_of : (account : List ℕ) (b : Bool) (x : Carried) → x.account ≡ account → AllOf (IsOf account) (cond b (x ∷ []) [])
one_of account true x is = (is, tt)
one_of account false x is = tt

sent_of : (setup : Setup) (account via : List ℕ) (at : ℕ) (xs : List Signal) → AllOf (IsOf account) (flat_map (carried_sent setup account via at) xs)
sent_of setup account via at [] = tt
sent_of setup account via at (x ∷ xs) =
    append_of account (carried_sent setup account via at x) (flat_map (carried_sent setup account via at) xs)
    (refl, one_of account (is_irregular (account_of setup account) x.kind at) (carried setup account at false [] (own_signal _)) refl) (sent_of setup account via at xs)

force_of : (o : Option Setup) (account via : List ℕ) (at : ℕ) (xs : List Signal)
    → AllOf (IsOf account) (if_in_force o (λ setup. flat_map (carried_sent setup account via at) xs))
force_of None account via at xs = tt
force_of (Some setup) account via at xs = sent_of setup account via at xs

pub carried_own : (s : Summary) (e : Event) (at : ℕ) (xs : List Carried) → xs ≡ carried_by s [] e at → AreOwn e xs
carried_own s (Sent m via) at xs are =
    all_by (IsOf m.account) xs (subst (AllOf (IsOf m.account)) (sym are) (force_of (force s []) m.account via at (unwrap_or (signals m.token m.content) [])))
carried_own s event at xs are = tt
