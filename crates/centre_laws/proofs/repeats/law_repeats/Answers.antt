use Rattle.centre_laws.proofs.Quiet.{quiet_same}
use Rattle.centre_laws.proofs.repeats.law_repeats.Goals as goal

pub returns : goal.returns
returns c = quiet_same
