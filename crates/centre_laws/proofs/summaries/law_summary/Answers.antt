use Rattle.centre_laws.proofs.Summed.{summary_tells}
use Rattle.centre_laws.proofs.summaries.law_summary.Goals as goal

pub returns : goal.returns
returns c = summary_tells
