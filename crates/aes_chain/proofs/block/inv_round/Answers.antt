use Rattle.std.proofs.Common.{ℕ, List, ap, ◌∙◌}
use Rattle.aes_chain.specs.State.{added}
use Rattle.aes_chain.specs.Words.{state_at}
use Rattle.aes_chain.proofs.Columns.{inv_round_columns}
use Rattle.aes_chain.proofs.block.inv_round.Goals as goal

pub returns : goal.returns
returns c = c.add.ensures
    ∙ ap (λ (l : List ℕ). added l (state_at c.args.key 0)) (inv_round_columns c.args.s _ _ _ _ c.inv_mixed.ensures c.inv_mixed-2.ensures c.inv_mixed-3.ensures c.inv_mixed-4.ensures)
