-- The line of a summary with which an area begins: the number of the last record that it has summed up, the date and the time of that
-- record, and what it holds.
use Rattle.std.specs.Prelude.{ℕ, ◌++◌, ◌&&◌, List, [], Bool, true, false, length, is_none, codes, decimal}
use Rattle.centre_rules.specs.Summary.{Summary}
use Rattle.book_lines.specs.Books.{line_if}
use Rattle.book_lines.specs.Choices.{is_since, is_until}
use Rattle.book_lines.specs.Fields.{own_fields, tab}
use Rattle.book_lines.specs.Telling.{line_of, row_of}
use Rattle.book_lines.specs.declared.clock.Clock.{Clock}
use Rattle.book_lines.specs.declared.options.Options.{Options}
use Rattle.book_lines.specs.declared.summary.Held.{Held}

-- what it holds: how many accounts it knows something of, how many incidents were opened so far, and how many of them are open
abbrev pub holdings : Summary → Held
holdings s = record {
  recorded = s.recorded;
  last = s.last;
  accounts = length s.rows;
  opened = s.opened;
  still_open = length s.incidents;
}

unfoldable pub held_text : Held → List ℕ
held_text h = codes "accounts " ++ decimal h.accounts ++ codes " incidents " ++ decimal h.opened ++ codes " open " ++ decimal h.still_open

unfoldable pub held_words : Held → List ℕ
held_words h = codes "summary " ++ held_text h

unfoldable pub held_fields : Held → List ℕ
held_fields h = own_fields (codes "summary") [] ++ held_text h ++ tab ++ tab

abbrev pub held_told : Bool → Clock → Held → List ℕ
held_told false clock h = line_of clock h.recorded h.last (held_words h)
held_told true clock h = row_of clock h.recorded h.last (held_fields h)

-- By its number and its moment it is asked for as the record is that it ends with. It stands for all accounts, incidents and operators
-- together, so a book of one of them leaves it out.
abbrev pub is_held_asked : Options → Held → Bool
is_held_asked o h =
    is_since o.clock o.since h.recorded h.last && is_until o.clock o.until h.recorded h.last && is_none o.account && is_none o.incident
    && is_none o.operator

abbrev pub held_line : Options → Held → List ℕ
held_line o h = line_if (is_held_asked o h) (held_told o.tabs o.clock h)

abbrev pub summary_line : Options → Summary → List ℕ
summary_line o s = held_line o (holdings s)
