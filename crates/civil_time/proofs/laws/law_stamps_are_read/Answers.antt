use Rattle.civil_time.proofs.StampLemmas.{stamp_time-sound, stamp_time-complete}
use Rattle.civil_time.proofs.laws.law_stamps_are_read.Goals as goal

pub returns : goal.returns
returns c = λ t bytes. (stamp_time-sound t bytes, stamp_time-complete t bytes)
