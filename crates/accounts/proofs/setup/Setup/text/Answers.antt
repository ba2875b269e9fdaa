use Rattle.accounts.proofs.MeaningLemmas.{is_ok-read}
use Rattle.accounts.proofs.setup.Setup.text.Goals as goal

pub returns-clause-valid : goal.returns-clause-valid
returns-clause-valid c = rw c.bytes.ensures (is_ok-read _ _ c.self.invariant)
