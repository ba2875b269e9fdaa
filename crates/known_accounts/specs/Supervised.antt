-- When the accounts of a setup are silent, and when they close late.
use Rattle.std.specs.Prelude.{◌≡◌, ◌<◌, ◌+◌, ◌-◌, ◌^◌, ℕ, List, [], Bool, true, false, Option, Some, None, IfSome, IsOk, if◌then◌else◌}
use Rattle.std.specs.Prelude.{map, min, length, slice_get}
use Rattle.std.specs.List.{position}
use Rattle.std.specs.Option.{option_map}
use Rattle.std.specs.Str.{bytes_eq}
use Rattle.arc_data.specs.declared.incident.Carried.{Carried}
use Rattle.arc_data.specs.declared.signal.Kind.{Kind}
use Rattle.arc_data.specs.declared.signal.Kind.TheVariants.{Opening, Closing}
use Rattle.alarm_rules.specs.Setups.{Account, setup_of, meaning, has_number}
use Rattle.alarm_rules.specs.Weeks.{Week, next_close}
use Rattle.known_accounts.specs.declared.supervised_accounts.AccountPlace.{AccountPlace}
use Rattle.known_accounts.specs.declared.supervised_accounts.FoundAccount.{FoundAccount}
use Rattle.known_accounts.specs.Rows.{RowsValue, IsRowOf, StandsAt, row_in}
use Rattle.centre_rules.specs.Limits.{late_seconds}
use Rattle.centre_rules.specs.History.{IsMoment}
use Rattle.centre_rules.specs.Summary.{Summary, AccountRow, Opened}

-- the setup in force, and what is known of accounts
pub record SupervisedValue : Type 0 where
  pub text : Option (List ℕ)
  pub rows : RowsValue

-- a summary of the rows alone
abbrev pub rows_sum : RowsValue → Summary
rows_sum v = record { last = 0; recorded = 0; opened = 0; start = v.start; text = None; rows = v.rows; incidents = [] }

-- the accounts of the setup in force
abbrev pub accounts_in : Option (List ℕ) → List Account
accounts_in None = []
accounts_in (Some text) = (meaning text).accounts

-- where the account stands in the setup in force: at its place, or nowhere
pub record IsPlaceIn (account : List ℕ) (place : Option ℕ) (text : Option (List ℕ)) : Type 0 where
  pub is : place ≡ position (has_number account) (accounts_in text)
  pub within : IfSome place (λ p. p < length (accounts_in text))
  pub number : IfSome place (λ p. IfSome (slice_get (accounts_in text) p) (λ x. x.number ≡ account))

-- where the account stands: its row, and in the setup in force
pub record IsPlaceOf (account : List ℕ) (place : AccountPlace) (s : SupervisedValue) : Type 0 where
  pub row : StandsAt account place.row s.rows.rows
  pub setup : IsPlaceIn account place.setup s.text

-- what was looked up of the account: its row, and its place in this setup, where it has them
pub record IsFoundOf (account : List ℕ) (found : FoundAccount) (text : Option (List ℕ)) (rows : List AccountRow) : Type 0 where
  pub row : IsRowOf account found.row rows
  pub setup : IsPlaceIn account found.setup text

-- Deadlines. An account is overdue once its deadline is passed. A moment that no u64 holds is put off to the last one, which no
-- clock reaches.

abbrev pub later : ℕ → ℕ → ℕ
later moment wait = min (moment + wait) (2 ^ 64 - 1)

-- the interval of an account after it was last heard; none of an account that is failed already
abbrev pub silence_after : AccountRow → Option ℕ → Option ℕ
silence_after row None = None
silence_after row (Some interval) = if row.failed then None else option_map (λ moment. later moment interval) row.heard

abbrev pub silence_of : RowsValue → Account → Option ℕ
silence_of v account = silence_after (row_in v account.number) account.beat

-- 900 seconds after the first closing moment behind the opening; none where a LateClose was raised already
abbrev pub lateness_after : Option Opened → Week → Option ℕ
lateness_after None week = None
lateness_after (Some opened) week =
    if opened.late then None else option_map (λ moment. later moment late_seconds) (next_close week opened.at)

abbrev pub lateness_of : RowsValue → Account → Option ℕ
lateness_of v account = lateness_after (row_in v account.number).opening account.week

-- each account that is open was opened at a moment
abbrev pub AreOpenedAtMoments : RowsValue → Type 0
AreOpenedAtMoments v = (account : List ℕ) → IfSome (row_in v account).opening (λ o. IsMoment o.at)

-- the deadlines of these accounts, in their order
pub record AreDeadlines (accounts : List Account) (v : RowsValue) (silences latenesses : List (Option ℕ)) : Type 0 where
  pub silence : silences ≡ map (silence_of v) accounts
  pub lateness : latenesses ≡ map (lateness_of v) accounts

-- the deadlines are those of the setup in force, which is one, and of the rows
pub record IsSupervised (text : Option (List ℕ)) (v : RowsValue) (silences latenesses : List (Option ℕ)) : Type 0 where
  pub valid : IfSome text (λ x. IsOk (setup_of x))
  pub openings : AreOpenedAtMoments v
  pub deadlines : AreDeadlines (accounts_in text) v silences latenesses

-- for rows w, of all accounts but this one the same is known as for rows v, as far as their deadlines go by it
pub record KeepsOthers (account : List ℕ) (v w : RowsValue) : Type 0 where
  pub heard : (a : List ℕ) → bytes_eq account a ≡ false → (row_in w a).heard ≡ (row_in v a).heard
  pub failed : (a : List ℕ) → bytes_eq account a ≡ false → (row_in w a).failed ≡ (row_in v a).failed
  pub opening : (a : List ℕ) → bytes_eq account a ≡ false → (row_in w a).opening ≡ (row_in v a).opening

-- the signals by which deadlines of their account go: those that a Tick raised, openings and closings
abbrev pub moves_by : Kind → Bool → Bool
moves_by Opening by_tick = true
moves_by Closing by_tick = true
moves_by kind by_tick = by_tick

abbrev pub moves_deadlines : Carried → Bool
moves_deadlines x = moves_by x.signal.kind x.by_tick

-- these are the places of those accounts, in their order
abbrev pub ArePlacesOf : List ℕ → List Account → List Account → Type 0
ArePlacesOf places accounts found = map (slice_get accounts) places ≡ map Some found
