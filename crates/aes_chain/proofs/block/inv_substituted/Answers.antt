use Rattle.std.proofs.Common.{ℕ, List, ◌∷◌, [], ap, ◌∙◌, slice_index}
use Rattle.aes_chain.specs.Field.{inv_s_box}
use Rattle.aes_chain.proofs.Columns.{bytes_four}
use Rattle.aes_chain.proofs.block.inv_substituted.Goals as goal

pub returns : goal.returns
returns c = bytes_four _ _ _ _ c.from_le_bytes.result c.from_le_bytes.ensures c.inv_s_box.type_inv c.inv_s_box-2.type_inv c.inv_s_box-3.type_inv c.inv_s_box-4.type_inv
    ∙ (λ i. (c.inv_s_box.ensures ∙ ap (λ (l : List ℕ). inv_s_box (slice_index l 0)) c.to_le_bytes.ensures) i ∷ (c.inv_s_box-2.ensures ∙ ap (λ (l : List ℕ). inv_s_box (slice_index l 1)) c.to_le_bytes-2.ensures) i ∷ (c.inv_s_box-3.ensures ∙ ap (λ (l : List ℕ). inv_s_box (slice_index l 2)) c.to_le_bytes-3.ensures) i ∷ (c.inv_s_box-4.ensures ∙ ap (λ (l : List ℕ). inv_s_box (slice_index l 3)) c.to_le_bytes-4.ensures) i ∷ [])
