use Rattle.zone_rules.proofs.Years.{moment-in_year}
use Rattle.zone_rules.proofs.laws.law_moments_have_years.Goals as goal

pub returns : goal.returns
returns c = moment-in_year
