-- What a history begins with: nothing, or what was kept of the entries before it.
use Rattle.std.specs.Prelude.{ℕ, List, [], Bool, false, Option, None, unwrap_or}
use Rattle.std.specs.List.{find}
use Rattle.std.specs.Str.{bytes_eq}
pub use Rattle.arc_data.specs.declared.event.Past.{Past}
use Rattle.arc_data.specs.declared.incident.Incident.{Incident}
pub use Rattle.arc_data.specs.declared.incident.Opened.{Opened}

-- what is known of an account: when it was last heard; whether a Tick has raised a CommFail of it since; its last opening
-- signal, while it is open; and its recorded messages, the newest first
pub record AccountRow : Type 0 where
  pub account : List ℕ
  pub heard : Option ℕ
  pub failed : Bool
  pub opening : Option Opened
  pub messages : List Past

-- the moment of the last recorded entry; how many entries are recorded, and how many incidents were opened; the moment of
-- the last Start; the setup text in force; the accounts; and the open incidents in order of number
pub record Summary : Type 0 where
  pub last : ℕ
  pub recorded : ℕ
  pub opened : ℕ
  pub start : Option ℕ
  pub text : Option (List ℕ)
  pub rows : List AccountRow
  pub incidents : List Incident

abbrev pub nothing : Summary
nothing = record { last = 0; recorded = 0; opened = 0; start = None; text = None; rows = []; incidents = [] }

-- of an account without a row only the last Start is known, at which each account is heard
abbrev pub row_or : Option AccountRow → List ℕ → Option ℕ → AccountRow
row_or row account start = unwrap_or row (record { account = account; heard = start; failed = false; opening = None; messages = [] })

abbrev pub row_of : Summary → List ℕ → AccountRow
row_of s account = row_or (find (λ r. bytes_eq r.account account) s.rows) account s.start
