use Rattle.sia_codes.proofs.Grammar.{read_is_spelled}
use Rattle.sia_codes.proofs.laws.law_read_is_spelled.Goals as goal

pub returns : goal.returns
returns c = read_is_spelled
