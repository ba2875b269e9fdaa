use Rattle.centre_store.proofs.Recorded.{opens_recorded}
use Rattle.centre_store.proofs.laws.law_recorded_opens.Goals as goal

pub returns : goal.returns
returns c version base h areas given legal kept few can stands = opens_recorded version base h areas legal kept few can stands
