use Rattle.std.proofs.Common.{take}
use Rattle.centre_core.specs.Decoding.{AreRowsFine}
use Rattle.centre_core.proofs.conditions.are_rows.Given as goal

abbrev pub invariant-loop-i : goal.invariant-loop-i
invariant-loop-i l = AreRowsFine l.last (take l.i l.rows)
