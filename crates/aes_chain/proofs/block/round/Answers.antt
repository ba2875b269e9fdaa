use Rattle.std.proofs.Common.{ℕ, List, ap, ◌∙◌}
use Rattle.aes_chain.specs.State.{added}
use Rattle.aes_chain.specs.Words.{state_at}
use Rattle.aes_chain.proofs.Columns.{round_columns}
use Rattle.aes_chain.proofs.block.round.Goals as goal

pub returns : goal.returns
returns c = c.add.ensures
    ∙ ap (λ (l : List ℕ). added l (state_at c.args.key 0)) (round_columns c.args.s _ _ _ _ c.mixed.ensures c.mixed-2.ensures c.mixed-3.ensures c.mixed-4.ensures)
