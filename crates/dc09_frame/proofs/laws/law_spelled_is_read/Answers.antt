use Rattle.dc09_frame.proofs.HeaderLaws.{header_again}
use Rattle.dc09_frame.proofs.laws.law_spelled_is_read.Goals as goal

pub returns : goal.returns
returns c h rest fits = header_again h rest fits
