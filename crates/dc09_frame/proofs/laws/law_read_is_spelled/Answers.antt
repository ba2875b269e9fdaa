use Rattle.dc09_frame.proofs.HeaderLaws.{header_takes}
use Rattle.dc09_frame.proofs.laws.law_read_is_spelled.Goals as goal

pub returns : goal.returns
returns c body h n is = header_takes body h n is
