use Rattle.centre_store.proofs.Recorded.{opens}
use Rattle.centre_store.proofs.laws.law_torn_opens.Goals as goal

pub returns : goal.returns
returns c base h e areas given legal kept few goes stands = opens base h e areas legal kept few goes stands
