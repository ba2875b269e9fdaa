use Rattle.std.proofs.Common.{ℕ, List, ap, ◌∙◌, slice_index}
use Rattle.aes_chain.specs.Field.{s_box}
use Rattle.aes_chain.specs.State.{mix_matrix}
use Rattle.aes_chain.specs.Words.{products}
use Rattle.aes_chain.proofs.Columns.{column_times-sum}
use Rattle.aes_chain.proofs.block.mixed.Goals as goal

pub returns : goal.returns
returns c = column_times-sum mix_matrix _ _ _ _ _ _ _ _
    (c.mix_0.ensures ∙ ap (λ (l : List ℕ). products mix_matrix 0 (s_box (slice_index l 0))) c.to_le_bytes.ensures)
    (c.mix_1.ensures ∙ ap (λ (l : List ℕ). products mix_matrix 1 (s_box (slice_index l 1))) c.to_le_bytes-2.ensures)
    (c.mix_2.ensures ∙ ap (λ (l : List ℕ). products mix_matrix 2 (s_box (slice_index l 2))) c.to_le_bytes-3.ensures)
    (c.mix_3.ensures ∙ ap (λ (l : List ℕ). products mix_matrix 3 (s_box (slice_index l 3))) c.to_le_bytes-4.ensures)
