use Rattle.sia_codes.proofs.Grammar.{spelled_is_read}
use Rattle.sia_codes.proofs.laws.law_spelled_is_read.Goals as goal

pub returns : goal.returns
returns c = spelled_is_read
