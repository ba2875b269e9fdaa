use Rattle.zone_rules.proofs.Changes.{runs-over}
use Rattle.zone_rules.proofs.laws.law_daylight_runs_over.Goals as goal

pub returns : goal.returns
returns c = runs-over
