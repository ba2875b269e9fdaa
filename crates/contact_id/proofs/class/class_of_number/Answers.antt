use Rattle.std.proofs.Common.{arith}
use Rattle.contact_id.proofs.Sweeps.{by_number_is}
use Rattle.contact_id.proofs.class.class_of_number.Goals as goal

pub returns-in-301 : goal.returns-in-301
returns-in-301 c = grind (arith, by_number_is)
