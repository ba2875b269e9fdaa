use Rattle.disk_journal.proofs.Once.{one_standing}
use Rattle.disk_journal.proofs.laws.law_one_standing.Goals as goal

pub returns : goal.returns
returns c = one_standing
