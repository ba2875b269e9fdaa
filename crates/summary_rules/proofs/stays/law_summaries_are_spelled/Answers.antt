use Rattle.summary_rules.proofs.Spelled.{summaries_spelled}
use Rattle.summary_rules.proofs.stays.law_summaries_are_spelled.Goals as goal

pub returns : goal.returns
returns c = summaries_spelled
