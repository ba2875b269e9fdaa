-- The line of a record: its number, its date and time, and what it was.
use Rattle.std.specs.Prelude.{ℕ, ◌++◌, List, Bool, true, false, codes, decimal}
use Rattle.arc_data.specs.declared.event.Event.{Event}
use Rattle.arc_data.specs.declared.incident.Carried.{Carried}
use Rattle.arc_data.specs.declared.incident.Incident.{Incident}
use Rattle.arc_data.specs.declared.reply.Reply.{Reply}
use Rattle.book_lines.specs.Clocks.{moment_text}
use Rattle.book_lines.specs.Fields.{fields_of, tab}
use Rattle.book_lines.specs.Lines.{words_of}
use Rattle.book_lines.specs.declared.clock.Clock.{Clock}
use Rattle.book_lines.specs.declared.options.Options.{Options}

-- in words
abbrev pub line_of : Clock → ℕ → ℕ → List ℕ → List ℕ
line_of clock number at words = decimal number ++ codes " " ++ moment_text clock at ++ codes " " ++ words ++ codes "\n"

-- in fields, with the seconds from 1970 on before the date
abbrev pub row_of : Clock → ℕ → ℕ → List ℕ → List ℕ
row_of clock number at fields =
    decimal number ++ tab ++ decimal at ++ tab ++ moment_text clock at ++ tab ++ fields ++ codes "\n"

abbrev pub told_by : Bool → Clock → ℕ → ℕ → List Incident → List Carried → Event → Reply → List ℕ
told_by false clock number at before carried event reply = line_of clock number at (words_of before carried event reply)
told_by true clock number at before carried event reply = row_of clock number at (fields_of before carried event reply)

-- the line of the record of a number, made at a moment, as the options ask for it
abbrev pub told : Options → ℕ → ℕ → List Incident → List Carried → Event → Reply → List ℕ
told o number at before carried event reply = told_by o.tabs o.clock number at before carried event reply
