use Rattle.std.proofs.Common.{◌∷◌, [], ◌∙◌, slice_index}
use Rattle.aes_chain.specs.State.{state}
use Rattle.aes_chain.specs.Words.{state_at}
use Rattle.aes_chain.proofs.block.store.Goals as goal

pub returns : goal.returns
unfolding state_at state
returns c =
    c.copy_from_slice.ensures.after
    ∙ (λ i. slice_index (c.to_le_bytes.ensures i) 0 ∷ slice_index (c.to_le_bytes.ensures i) 1 ∷ slice_index (c.to_le_bytes.ensures i) 2 ∷ slice_index (c.to_le_bytes.ensures i) 3
    ∷ slice_index (c.to_le_bytes-2.ensures i) 0 ∷ slice_index (c.to_le_bytes-2.ensures i) 1 ∷ slice_index (c.to_le_bytes-2.ensures i) 2 ∷ slice_index (c.to_le_bytes-2.ensures i) 3
    ∷ slice_index (c.to_le_bytes-3.ensures i) 0 ∷ slice_index (c.to_le_bytes-3.ensures i) 1 ∷ slice_index (c.to_le_bytes-3.ensures i) 2 ∷ slice_index (c.to_le_bytes-3.ensures i) 3
    ∷ slice_index (c.to_le_bytes-4.ensures i) 0 ∷ slice_index (c.to_le_bytes-4.ensures i) 1 ∷ slice_index (c.to_le_bytes-4.ensures i) 2 ∷ slice_index (c.to_le_bytes-4.ensures i) 3 ∷ [])
