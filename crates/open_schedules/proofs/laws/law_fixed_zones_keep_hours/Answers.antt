use Rattle.open_schedules.proofs.FixedLemmas.{fixed-same}
use Rattle.open_schedules.proofs.laws.law_fixed_zones_keep_hours.Goals as goal

pub returns : goal.returns
returns c = fixed-same
