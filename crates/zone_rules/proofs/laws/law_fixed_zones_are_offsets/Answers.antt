use Rattle.zone_rules.proofs.FixedZones.{fixed-local}
use Rattle.zone_rules.proofs.laws.law_fixed_zones_are_offsets.Goals as goal

pub returns : goal.returns
returns c = fixed-local
