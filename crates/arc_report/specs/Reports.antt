-- The text of a report.
use Rattle.std.specs.Prelude.{ℕ, ◌++◌, List, codes, decimal, length}
use Rattle.std.specs.List.{flat_map}
use Rattle.arc_data.specs.declared.incident.Incident.{Incident}
use Rattle.arc_data.specs.declared.reply.Reply.TheVariants.{Shown}
use Rattle.centre_rules.specs.Desks.{view_of}
use Rattle.centre_rules.specs.Standing.{last_standing}
use Rattle.centre_rules.specs.Summary.{Summary}
use Rattle.desk_wire.specs.Replies.{line_of, ended}

-- the line of an incident: that of its view
abbrev pub incident_line : Incident → List ℕ
incident_line i = line_of (Shown (view_of i))

-- how many incidents are open, and a line of each of them, in order of number
abbrev pub table_of : List Incident → List ℕ
table_of is = (codes "open " ++ ended (decimal (length is))) ++ flat_map incident_line is

-- how many entries are recorded, and the open incidents as they stand at the last moment
abbrev pub report_of : Summary → List ℕ
report_of s = (codes "recorded " ++ ended (decimal s.recorded)) ++ table_of (last_standing s)
