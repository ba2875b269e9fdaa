-- The book of a history over a summary: the lines of its records that the options ask for, the oldest first.
use Rattle.std.specs.Prelude.{ℕ, ◌+◌, ◌++◌, List, [], ◌∷◌, Bool, true, false, length}
use Rattle.std.specs.List.{filter, flat_map}
use Rattle.arc_data.specs.declared.incident.Carried.{Carried}
use Rattle.centre_rules.specs.Summary.{Summary}
use Rattle.centre_rules.specs.Carrying.{carried_by}
use Rattle.centre_rules.specs.Cases.{incidents, Incident}
use Rattle.centre_rules.specs.History.{Entry, marks}
use Rattle.book_lines.specs.Choices.{chosen}
use Rattle.book_lines.specs.Telling.{told}
use Rattle.book_lines.specs.declared.options.Options.{Options}

-- an entry and the history before it
pub record Record : Type 0 where
  pub before : List Entry
  pub entry : Entry

-- the records of a history, the oldest first; a history has the newest entry first
unfoldable pub records : List Entry → List Record
records [] = []
records (e ∷ h) = records h ++ record { before = h; entry = e } ∷ []

-- What follows from the summary and the history is what the centre makes of them: its number, which goes on from what the summary has of
-- recorded entries, the incidents that are open, and the signals that it carries.

abbrev pub number_of : Summary → Record → ℕ
number_of base r = base.recorded + length r.before + 1

abbrev pub open_after : Summary → List Entry → List Incident
open_after base h = incidents base (marks base h)

abbrev pub carried_of : Summary → Record → List Carried
carried_of base r = carried_by base (marks base r.before) r.entry.event r.entry.at

-- the options ask for it
abbrev pub is_chosen : Options → Summary → Record → Bool
is_chosen o base r =
    chosen o (open_after base r.before) (open_after base (r.entry ∷ r.before)) (carried_of base r) (number_of base r) r.entry.at
    r.entry.event r.entry.reply

abbrev pub line_told : Options → Summary → Record → List ℕ
line_told o base r =
    told o (number_of base r) r.entry.at (open_after base r.before) (carried_of base r) r.entry.event r.entry.reply

-- the line of a record, where the options ask for it
abbrev pub line_if : Bool → List ℕ → List ℕ
line_if true line = line
line_if false line = []

abbrev pub entry_line : Options → Summary → List Entry → Entry → List ℕ
entry_line o base h e =
    let r : Record = record { before = h; entry = e } in
    line_if (is_chosen o base r) (line_told o base r)

unfoldable pub book_of : Options → Summary → List Entry → List ℕ
book_of o base h = flat_map (line_told o base) (filter (is_chosen o base) (records h))
