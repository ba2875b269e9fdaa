use Rattle.disk_journal.proofs.Once.{one_answer}
use Rattle.disk_journal.proofs.laws.law_one_answer.Goals as goal

pub returns : goal.returns
returns c = one_answer
