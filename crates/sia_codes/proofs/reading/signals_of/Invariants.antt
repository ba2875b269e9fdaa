use Rattle.std.proofs.Common.{length}
use Rattle.sia_codes.proofs.Steps.{IsReading}
use Rattle.sia_codes.proofs.reading.signals_of.Given as goal

abbrev pub invariant-loop-rest : goal.invariant-loop-rest
invariant-loop-rest l = IsReading l.items l.signals l.rest

abbrev pub decreases-loop-rest : goal.decreases-loop-rest
decreases-loop-rest l = length l.rest
