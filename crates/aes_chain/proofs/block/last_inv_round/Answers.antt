use Rattle.std.proofs.Common.{ℕ, List, ap, ◌∙◌}
use Rattle.aes_chain.specs.State.{added}
use Rattle.aes_chain.specs.Words.{state_at}
use Rattle.aes_chain.proofs.Columns.{last_inv_round_columns}
use Rattle.aes_chain.proofs.block.last_inv_round.Goals as goal

pub returns : goal.returns
returns c = c.add.ensures
    ∙ ap (λ (l : List ℕ). added l (state_at c.args.key 0)) (last_inv_round_columns c.args.s _ _ _ _ c.inv_substituted.ensures c.inv_substituted-2.ensures c.inv_substituted-3.ensures c.inv_substituted-4.ensures)
