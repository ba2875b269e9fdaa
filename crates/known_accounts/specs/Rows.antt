-- What is known of accounts.
use Rattle.std.specs.Prelude.{◌≡◌, ◌≤◌, ◌+◌, ◌++◌, ℕ, List, [], ◌∷◌, map}
use Rattle.std.specs.Prelude.{take, length, slice_get, false, not, if◌then◌else◌, Option, Some, None, IfSome, is_some}
use Rattle.std.specs.List.{find, filter}
use Rattle.std.specs.Str.{bytes_eq}
use Rattle.known_accounts.specs.declared.row.Known.{Known}
use Rattle.known_accounts.specs.declared.row.Row.{Row}
use Rattle.centre_rules.specs.Limits.{messages_kept}
use Rattle.centre_rules.specs.Summary.{AccountRow, row_or}
use Rattle.centre_rules.specs.Marks.{Mark, start_at, has_row, keeps_row_at, heard_at, failed_at, opening_at, messages_at}

-- the last Start, the rows of the accounts of which more is known, and for how many further rows there is memory
pub record RowsValue : Type 0 where
  pub start : Option ℕ
  pub rows : List AccountRow
  pub room : ℕ

-- a row as it is kept
abbrev pub row_at : List ℕ × Row → AccountRow
row_at e = record { account = e.0; heard = e.1.heard; failed = e.1.failed; opening = e.1.opening; messages = e.1.window }

-- what is known of an account, with these rows and this last Start
abbrev pub known : Option ℕ → List AccountRow → List ℕ → AccountRow
known start rows account = row_or (find (λ r. bytes_eq r.account account) rows) account start

abbrev pub row_in : RowsValue → List ℕ → AccountRow
row_in v account = known v.start v.rows account

-- the part of a row that deadlines go by
pub record Tells (row : AccountRow) (known : Known) : Type 0 where
  pub heard : known.heard ≡ row.heard
  pub failed : known.failed ≡ row.failed
  pub opening : known.opening ≡ row.opening

-- a row of an account that is heard
abbrev pub now_heard : ℕ → AccountRow → AccountRow
now_heard at r = record r { heard = Some at; failed = false }

-- there are rows of the accounts of which the mark wants them; what is known of each account is what the mark makes of it; of its
-- messages the last 32
pub record Marked (m : Mark) (v w : RowsValue) : Type 0 where
  pub start : w.start ≡ start_at m v.start
  pub rows : (account : List ℕ) → has_row w.rows account ≡ keeps_row_at account m (has_row v.rows account)
  pub heard : (account : List ℕ) → (row_in w account).heard ≡ heard_at account m (row_in v account).heard
  pub failed : (account : List ℕ) → (row_in w account).failed ≡ failed_at account m (row_in v account).failed
  pub opening : (account : List ℕ) → (row_in w account).opening ≡ opening_at account m (row_in v account).opening
  pub recent : (account : List ℕ)
      → take messages_kept (row_in w account).messages ≡ take messages_kept (messages_at account m (row_in v account).messages)

-- Which accounts have a row, and memory for those that have none.

-- the accounts that have a row, in the order of their rows
abbrev pub numbers : List AccountRow → List (List ℕ)
numbers rows = map (λ r. r.account) rows

-- those of these accounts that have no row
abbrev pub lacking : List AccountRow → List (List ℕ) → List (List ℕ)
lacking rows accounts = filter (λ a. not (has_row rows a)) accounts

-- there is memory for a row of each of these accounts that has none
abbrev pub HasRoom : List (List ℕ) → RowsValue → Type 0
HasRoom accounts v = length (lacking v.rows accounts) ≤ v.room

-- the row of the account stands at this place
abbrev pub StandsAt : List ℕ → ℕ → List AccountRow → Type 0
StandsAt account place rows = slice_get (numbers rows) place ≡ Some account

-- the place of the account's row, or none where it has no row
pub record IsRowOf (account : List ℕ) (row : Option ℕ) (rows : List AccountRow) : Type 0 where
  pub there : IfSome row (λ place. StandsAt account place rows)
  pub found : is_some row ≡ has_row rows account

-- an account that had no row has one, behind the others, and room for one is taken; what is known stays
pub record MakesRow (account : List ℕ) (v w : RowsValue) : Type 0 where
  pub start : w.start ≡ v.start
  pub known : (a : List ℕ) → row_in w a ≡ row_in v a
  pub rows : numbers w.rows ≡ (if has_row v.rows account then numbers v.rows else numbers v.rows ++ account ∷ [])
  pub room : v.room ≤ w.room + length (lacking v.rows (account ∷ []))

-- the same accounts have a row, at the same places, and there is as much room
pub record KeepsRows (v w : RowsValue) : Type 0 where
  pub rows : numbers w.rows ≡ numbers v.rows
  pub room : w.room ≡ v.room

-- of an account without a row: it was heard at the last Start, and nothing more is known
abbrev pub blank : Option ℕ → Row
blank start = record { heard = start; failed = false; opening = None; window = [] }
