use Rattle.std.proofs.Common.{refl}
use Rattle.std.specs.Fmt.{digits}
use Rattle.arc_drill.proofs.drill.Drill.setup_text.Goals as goal

pub returns : goal.returns
unfolding digits
returns c = refl
