use Rattle.zone_rules.proofs.Changes.{changes}
use Rattle.zone_rules.proofs.laws.law_clocks_change_at_changes.Goals as goal

pub returns : goal.returns
returns c = changes
