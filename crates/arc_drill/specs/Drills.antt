-- What a drill tells.
use Rattle.std.specs.Prelude.{ℕ, ◌++◌, List, drop, Some}
use Rattle.arc_io.specs.Seen.{PortSeen, untold}
use Rattle.arc_drill.specs.Places.{text_from}
use Rattle.arc_drill.specs.declared.drill.Drill.{Drill}

-- the bytes that are left to read
abbrev pub drill_left : Drill → List ℕ
drill_left d = drop d.at d.lines ++ text_from d.messages d.next

-- it tells what is left, and whether a read has met the end; it never fails, and keeps nothing of what is written
abbrev pub drill_seen : Drill → PortSeen
drill_seen d = record untold { left = Some (drill_left d); ended = d.ended }
