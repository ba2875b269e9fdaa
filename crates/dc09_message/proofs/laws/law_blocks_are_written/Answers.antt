use Rattle.dc09_message.proofs.BlockLaws.{blocks_take}
use Rattle.dc09_message.proofs.laws.law_blocks_are_written.Goals as goal

pub returns : goal.returns
returns c bytes blocks tail e = blocks_take bytes blocks tail e
