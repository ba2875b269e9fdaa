use Rattle.std.proofs.Common.{ℕ, List, ap, ◌∙◌}
use Rattle.aes_chain.specs.State.{added}
use Rattle.aes_chain.specs.Words.{state_at}
use Rattle.aes_chain.proofs.Columns.{last_round_columns}
use Rattle.aes_chain.proofs.block.last_round.Goals as goal

pub returns : goal.returns
returns c = c.add.ensures
    ∙ ap (λ (l : List ℕ). added l (state_at c.args.key 0)) (last_round_columns c.args.s _ _ _ _ c.substituted.ensures c.substituted-2.ensures c.substituted-3.ensures c.substituted-4.ensures)
