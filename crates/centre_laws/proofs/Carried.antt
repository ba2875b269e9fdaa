-- The signals of an entry have its moment, and the steps by the setup in force before it.
use Rattle.std.proofs.Common.{◌≡◌, ℕ, List, [], ◌∷◌, ◌++◌, map, Bool, true, false, cond, refl, Option, Some, None}
use Rattle.std.specs.List.{filter, flat_map}
use Rattle.arc_data.specs.declared.event.Message.{Message}
use Rattle.arc_data.specs.declared.signal.Class.{Class}
use Rattle.arc_data.specs.declared.signal.Class.TheVariants.{CommFail, LateClose}
use Rattle.arc_data.specs.declared.signal.Signal.{Signal}
use Rattle.alarm_rules.specs.Setups.{Setup, Account, account_of, steps_of}
use Rattle.centre_rules.specs.Summary.{Summary}
use Rattle.centre_rules.specs.Marks.{Mark, Carried, force}
use Rattle.centre_rules.specs.Carrying.{carried, own_signal, if_in_force, is_irregular, carried_sent, sent, is_silent, is_late, raised}

-- a signal has this moment, and steps by the setup in force
pub record IsBy (force : Option Setup) (moment : ℕ) (x : Carried) : Type 0 where
  pub at : x.at ≡ moment
  pub setup : Setup
  pub in_force : force ≡ Some setup
  pub steps : x.steps ≡ steps_of setup x.account x.signal.class moment

abbrev pub AllBy : Option Setup → ℕ → List Carried → Type 0
AllBy force at [] = Unit {0}
AllBy force at (x ∷ xs) = IsBy force at x × AllBy force at xs

all_append : (force : Option Setup) (at : ℕ) (xs ys : List Carried) → AllBy force at xs → AllBy force at ys → AllBy force at (xs ++ ys)
all_append force at [] ys v w = w
all_append force at (x ∷ xs) ys v w = (v.0, all_append force at xs ys v.1 w)

module _ (force : Option Setup) (at : ℕ) (setup : Setup) (e : force ≡ Some setup) where
  one : (account : List ℕ) (by_tick : Bool) (via : List ℕ) (signal : Signal) → IsBy force at (carried setup account at by_tick via signal)
  one account by_tick via signal = record { at = refl; setup = setup; in_force = e; steps = refl }

  one_if : (b : Bool) (account : List ℕ) (signal : Signal) → AllBy force at (cond b (carried setup account at false [] signal ∷ []) [])
  one_if true account signal = (one account false [] signal, tt)
  one_if false account signal = tt

  all_sent : (account via : List ℕ) (xs : List Signal) → AllBy force at (flat_map (carried_sent setup account via at) xs)
  all_sent account via [] = tt
  all_sent account via (x ∷ xs) = all_append force at (carried_sent setup account via at x) _ (one account false via x, one_if (is_irregular (account_of setup account) x.kind at) account _) (all_sent account via xs)

  all_accounts : (class : Class) (accounts : List Account) → AllBy force at (map (λ a. carried setup a.number at true [] (own_signal class)) accounts)
  all_accounts class [] = tt
  all_accounts class (a ∷ accounts) = (one a.number true [] (own_signal class), all_accounts class accounts)

all_under : (at : ℕ) (force o : Option Setup) (under : Setup → List Carried) → force ≡ o → ((setup : Setup) → force ≡ Some setup → AllBy force at (under setup)) → AllBy force at (if_in_force o under)
all_under at force None under e f = tt
all_under at force (Some setup) under e f = f setup e

pub sent_by : (s : Summary) (ms : List Mark) (m : Message) (via : List ℕ) (at : ℕ) → AllBy (force s ms) at (sent s ms m via at)
sent_by s ms m via at = all_under at (force s ms) (force s ms) _ refl (λ setup e. all_sent (force s ms) at setup e m.account via _)

pub raised_by : (s : Summary) (ms : List Mark) (at : ℕ) → AllBy (force s ms) at (raised s ms at)
raised_by s ms at =
    all_under at (force s ms) (force s ms) _ refl
    (λ setup e. all_append (force s ms) at _ _
    (all_accounts (force s ms) at setup e CommFail (filter (is_silent s ms at) setup.accounts))
    (all_accounts (force s ms) at setup e LateClose (filter (is_late s ms at) setup.accounts)))
