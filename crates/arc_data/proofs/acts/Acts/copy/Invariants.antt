use Rattle.std.proofs.Common.{◌≡◌, take}
use Rattle.arc_data.proofs.acts.Acts.copy.Given as goal

abbrev pub invariant-loop-acted : goal.invariant-loop-acted
invariant-loop-acted l = l.copy ≡ take l.acted-index l.acted-items
