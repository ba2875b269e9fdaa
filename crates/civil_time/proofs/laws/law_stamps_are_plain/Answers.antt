use Rattle.civil_time.proofs.StampLemmas.{length-stamp, stamp-plain}
use Rattle.civil_time.proofs.laws.law_stamps_are_plain.Goals as goal

pub returns : goal.returns
returns c = λ t moment. (length-stamp t, stamp-plain t moment)
