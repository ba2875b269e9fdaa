-- Texts of rows.
use Rattle.std.specs.Prelude.{ℕ, ◌-◌, ◌/◌, List, [], ◌∷◌, ◌++◌, Bool, Option, Some, None, map, nat_lt, take, length, replicate, codes}
use Rattle.std.specs.Prelude.{decimal, if◌then◌else◌}
use Rattle.std.specs.List.{list_all}
use Rattle.desk_wire.specs.Laws.{spelling}
use Rattle.desk_wire.specs.declared.command.Command.{Command}
use Rattle.desk_screen.specs.Plain.{is_plain, plain_byte}
use Rattle.desk_screen.specs.declared.deed.Deed.{Deed}

-- each byte is printable
abbrev pub are_plain : List ℕ → Bool
are_plain text = list_all is_plain text

-- a text with another behind it, as it is shown in a row of at most 160 bytes
unfoldable pub with_text : List ℕ → List ℕ → List ℕ
with_text before text = before ++ map plain_byte (take (160 - length before) text)

-- a text with others behind it, one behind another
abbrev pub with_texts : List ℕ → List (List ℕ) → List ℕ
with_texts before [] = before
with_texts before (text ∷ texts) = with_texts (with_text before text) texts

-- a text with spaces up to a column behind it, where that lies ahead
unfoldable pub with_column : List ℕ → ℕ → List ℕ
with_column before column = with_text before (take (column - length before) (replicate 160 32))

-- a text with others behind it, each from a column on, or right behind the one before where that column lies behind
abbrev pub with_cells : List ℕ → List (ℕ × List ℕ) → List ℕ
with_cells before [] = before
with_cells before (cell ∷ cells) = with_cells (with_text (with_column before cell.0) cell.1) cells

-- what tells the state of the connection: it stands first in the first row
abbrev pub link_word : Bool → List ℕ
link_word connected = if connected then codes "connected" else codes "NO CONNECTION TO THE DESK"

-- seconds in words: up to a minute, up to an hour, and more
unfoldable pub age : ℕ → List ℕ
age seconds =
    if nat_lt seconds 60 then decimal seconds ++ codes " s"
    else if nat_lt seconds 3600 then decimal (seconds / 60) ++ codes " min"
    else decimal (seconds / 3600) ++ codes " h"

unfoldable pub with_user : List ℕ → Option (List ℕ) → List ℕ
with_user before None = before
with_user before (Some name) = with_texts before (codes "   " ∷ name ∷ [])

-- the first row: the connection, the operator, for how long the desk has said nothing, and how many incidents are open
unfoldable pub status_row : Bool → Option (List ℕ) → ℕ → ℕ → List ℕ
status_row connected user silence total =
    with_texts (with_user (with_text [] (link_word connected)) user)
    (codes "   the desk is silent for " ∷ age silence ∷ codes "   open: " ∷ decimal total ∷ [])

-- what is typed to log in with: the digits of a PIN as stars
abbrev pub login_row : Option (List ℕ) → List ℕ → List ℕ
login_row None typed = with_texts [] (codes "log in, name: " ∷ typed ∷ [])
login_row (Some name) typed =
    with_texts [] (codes "log in, name: " ∷ name ∷ codes "  PIN: " ∷ take (length typed) (replicate 32 42) ∷ [])

-- a command that was lost with its connection
abbrev pub undone_row : Command → List ℕ
undone_row command = with_texts [] (codes "NOT DONE, no answer came: " ∷ spelling command ∷ [])

-- an answer, behind its own command
abbrev pub answered_row : Deed → List ℕ
answered_row deed = with_texts [] (spelling deed.command ∷ codes " > " ∷ deed.answer ∷ [])
