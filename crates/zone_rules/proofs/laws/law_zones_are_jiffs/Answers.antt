use Rattle.zone_rules.proofs.Windows.{ahead-jiff}
use Rattle.zone_rules.proofs.laws.law_zones_are_jiffs.Goals as goal

pub returns : goal.returns
returns c = ahead-jiff
