use Rattle.std.proofs.Common.{append_assoc}
use Rattle.arc_server.proofs.drill.line_of.Goals as goal
use Rattle.arc_server.specs.DrillRuns.{drill_line}

pub returns : goal.returns
unfolding drill_line
returns c = simp append_assoc (simp append_assoc at c.format.ensures.ok)
