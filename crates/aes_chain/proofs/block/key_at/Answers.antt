use Rattle.aes_chain.proofs.Columns.{state_at-four}
use Rattle.aes_chain.proofs.block.key_at.Goals as goal

pub returns : goal.returns
returns c = state_at-four c.args.words.now c.args.i
