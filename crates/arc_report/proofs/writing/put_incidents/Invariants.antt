use Rattle.std.proofs.Common.{take}
use Rattle.arc_report.proofs.Parts.{done}
use Rattle.std.specs.List.{flat_map}
use Rattle.arc_io.specs.Told.{Puts}
use Rattle.arc_report.proofs.Lines.{slot_line}
use Rattle.arc_report.proofs.writing.put_incidents.Given as goal

-- the lines of the incidents so far were put whole, as they stand
abbrev pub invariant-loop-slot : goal.invariant-loop-slot
invariant-loop-slot g l = Puts (g.K.Ends.seen l.fn.out) (g.K.Ends.seen l.out) done (flat_map (slot_line l.lapse l.at) (take l.slot-index l.slots))
