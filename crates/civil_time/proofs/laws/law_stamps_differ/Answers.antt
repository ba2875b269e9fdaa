use Rattle.civil_time.proofs.StampLemmas.{stamp_injective}
use Rattle.civil_time.proofs.laws.law_stamps_differ.Goals as goal

pub returns : goal.returns
returns c = λ t u ht hu apart same. apart (stamp_injective t u ht hu same)
