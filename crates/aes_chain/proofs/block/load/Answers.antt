use Rattle.std.proofs.Common.{◌∙◌}
use Rattle.aes_chain.proofs.Columns.{state_of_columns, sixteen}
use Rattle.aes_chain.proofs.block.load.Goals as goal

pub returns : goal.returns
returns c = state_of_columns _ _ _ _ _ _ _ _ c.word.ensures c.word-2.ensures c.word-3.ensures c.word-4.ensures ∙ sixteen c.args.block.now c.requires
