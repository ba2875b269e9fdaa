use Rattle.aes_chain.proofs.Columns.{added-columns}
use Rattle.aes_chain.proofs.block.add.Goals as goal

pub returns : goal.returns
returns c = added-columns c.args.s c.args.k
