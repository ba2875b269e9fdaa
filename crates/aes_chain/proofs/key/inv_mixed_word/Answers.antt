use Rattle.std.proofs.Common.{◌∙◌, slice_index, arith}
use Rattle.std.specs.Int.{byte_at}
use Rattle.aes_chain.specs.Field.{inv_s_box}
use Rattle.aes_chain.specs.State.{inv_mix_matrix}
use Rattle.aes_chain.specs.Words.{column_times}
use Rattle.aes_chain.proofs.Mixing.{inv_s_box-s_box}
use Rattle.aes_chain.proofs.key.inv_mixed_word.Goals as goal

pub returns : goal.returns
returns c =
    c.inv_mixed.ensures
    ∙ (λ t. column_times inv_mix_matrix (inv_s_box (slice_index (c.substituted-s.ensures t) 0)) (inv_s_box (slice_index (c.substituted-s.ensures t) 1))
    (inv_s_box (slice_index (c.substituted-s.ensures t) 2)) (inv_s_box (slice_index (c.substituted-s.ensures t) 3)))
    ∙ (λ t. column_times inv_mix_matrix (inv_s_box-s_box (byte_at 0 c.args.w) (omega arith) t) (inv_s_box-s_box (byte_at 1 c.args.w) (omega arith) t)
    (inv_s_box-s_box (byte_at 2 c.args.w) (omega arith) t) (inv_s_box-s_box (byte_at 3 c.args.w) (omega arith) t))
