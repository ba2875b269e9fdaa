use Rattle.std.proofs.Common.{ℕ, ap, ◌∙◌, ◌≡◌, ◌-◌, sym, arith}
use Rattle.aes_chain.specs.State.{inv_sub_bytes, inv_shift_rows, inv_mix_columns, added}
use Rattle.aes_chain.specs.Words.{keys_at, state_at, eq_inv_rounds, eq_inv_cipher}
use Rattle.aes_chain.proofs.Rounds.{eq_inv_rounds_more}
use Rattle.aes_chain.proofs.block.decrypt.Goals as goal

pub loop-n-init : goal.loop-n-init
unfolding eq_inv_rounds
loop-n-init c = c.add-s.ensures ∙ ap (added (state_at c.args.block 0)) c.key_at.ensures

pub loop-n-preserved : goal.loop-n-preserved
loop-n-preserved c =
    c.inv_round-next.ensures
    ∙ (λ i. added (inv_mix_columns (inv_sub_bytes (inv_shift_rows (c.loop-n.invariant i)))) (c.key_at-key.ensures i))
    ∙ sym (eq_inv_rounds_more c.args.rounds (keys_at c.args.words.now) (state_at c.args.block 0) c.loop-n.n c.loop-n.auto.n)

pub returns : goal.returns
unfolding eq_inv_cipher
returns c =
    let end : c.loop-n.n ≡ c.args.rounds = omega arith in
    c.last_inv_round.ensures
    ∙ (λ i. added (inv_sub_bytes (inv_shift_rows (c.loop-n.invariant i))) (c.key_at-2.ensures i))
    ∙ ap (λ (k : ℕ). added (inv_sub_bytes (inv_shift_rows (eq_inv_rounds c.args.rounds (keys_at c.args.words.now) (state_at c.args.block 0) (k - 1)))) (state_at c.args.words.now 0)) end
