use Rattle.zone_rules.proofs.Changes.{lasts}
use Rattle.zone_rules.proofs.laws.law_daylight_lasts.Goals as goal

pub returns : goal.returns
returns c = lasts
