use Rattle.std.proofs.Common.{ℕ, List, ap, ◌∙◌, slice_index}
use Rattle.aes_chain.specs.Field.{inv_s_box}
use Rattle.aes_chain.specs.State.{inv_mix_matrix}
use Rattle.aes_chain.specs.Words.{products}
use Rattle.aes_chain.proofs.Columns.{column_times-sum}
use Rattle.aes_chain.proofs.block.inv_mixed.Goals as goal

pub returns : goal.returns
returns c = column_times-sum inv_mix_matrix _ _ _ _ _ _ _ _
    (c.inv_mix_0.ensures ∙ ap (λ (l : List ℕ). products inv_mix_matrix 0 (inv_s_box (slice_index l 0))) c.to_le_bytes.ensures)
    (c.inv_mix_1.ensures ∙ ap (λ (l : List ℕ). products inv_mix_matrix 1 (inv_s_box (slice_index l 1))) c.to_le_bytes-2.ensures)
    (c.inv_mix_2.ensures ∙ ap (λ (l : List ℕ). products inv_mix_matrix 2 (inv_s_box (slice_index l 2))) c.to_le_bytes-3.ensures)
    (c.inv_mix_3.ensures ∙ ap (λ (l : List ℕ). products inv_mix_matrix 3 (inv_s_box (slice_index l 3))) c.to_le_bytes-4.ensures)
