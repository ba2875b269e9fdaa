use Rattle.centre_store.proofs.OpeningLoop.{IsAt}
use Rattle.centre_store.proofs.open.replay.Given as goal

abbrev pub invariant-loop-i : goal.invariant-loop-i
invariant-loop-i l = IsAt l.version l.bodies l.from l.i l.at l.initial.centre l.centre
