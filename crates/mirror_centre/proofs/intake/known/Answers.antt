use Rattle.std.proofs.Common.{arith}
use Rattle.mirror_centre.proofs.intake.known.Goals as goal

pub returns : goal.returns
returns c = λ i. omega (arith, c.type_inv.bytes i)
