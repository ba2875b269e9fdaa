-- Places of deadlines.
use Rattle.std.specs.Prelude.{◌≡◌, ℕ, List, IsOk, length, slice_set}
use Rattle.alarm_rules.specs.Setups.{Account, setup_of, meaning}
use Rattle.known_accounts.specs.Rows.{RowsValue}
use Rattle.known_accounts.specs.declared.deadlines.Deadlines.{Deadlines}
use Rattle.known_accounts.specs.Supervised.{silence_of, lateness_of}

-- there is room for one deadline of each kind at so many places
pub record HasPlaces (places : ℕ) (d : Deadlines) : Type 0 where
  pub silence : length d.silence ≡ places
  pub lateness : length d.lateness ≡ places

-- the text is a setup, and there is room for the deadlines of its accounts
pub record IsRoomed (text : List ℕ) (d : Deadlines) : Type 0 where
  pub valid : IsOk (setup_of text)
  pub places : HasPlaces (length (meaning text).accounts) d

-- at this place stand the deadlines of the account, and at the others what stood there
pub record IsRenewed (place : ℕ) (account : Account) (v : RowsValue) (before now : Deadlines) : Type 0 where
  pub silence : now.silence ≡ slice_set before.silence place (silence_of v account)
  pub lateness : now.lateness ≡ slice_set before.lateness place (lateness_of v account)
