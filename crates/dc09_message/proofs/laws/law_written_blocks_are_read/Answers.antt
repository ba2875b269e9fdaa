use Rattle.dc09_message.proofs.BlockLaws.{blocks_again}
use Rattle.dc09_message.proofs.laws.law_written_blocks_are_read.Goals as goal

pub returns : goal.returns
returns c bytes blocks tail w ends = blocks_again bytes blocks tail w ends
