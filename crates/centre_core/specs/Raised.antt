-- What a Tick raises, and where the account of a signal stands.
use Rattle.std.specs.Prelude.{◌≡◌, ◌<◌, ℕ, List, [], true, map, length, slice_get, Option, IfSome}
use Rattle.arc_data.specs.declared.signal.Class.{Class}
use Rattle.alarm_rules.specs.Setups.{Setup, Account, account_of, place_of}
use Rattle.centre_rules.specs.Carrying.{carried, own_signal}
use Rattle.centre_rules.specs.Marks.{Carried}

-- a signal of each of these accounts, in their order
abbrev pub raised_of : List Account → Class → ℕ → Setup → List Carried
raised_of found class at setup = map (λ a. carried setup a.number at true [] (own_signal class)) found

-- the place of an account in a setup, or none
pub record IsFound (setup : Setup) (account : List ℕ) (place : Option ℕ) : Type 0 where
  pub is : place ≡ place_of setup account
  pub within : IfSome place (λ p. p < length setup.accounts)
  pub there : IfSome place (λ p. slice_get setup.accounts p ≡ account_of setup account)
  pub number : IfSome place (λ p. IfSome (slice_get setup.accounts p) (λ found. found.number ≡ account))
