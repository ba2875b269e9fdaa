use Rattle.std.proofs.Common.{List, ℕ, ap, ◌∙◌, ◌≡◌, ◌-◌, sym, arith}
use Rattle.aes_chain.specs.State.{sub_bytes, shift_rows, mix_columns, added}
use Rattle.aes_chain.specs.Cipher.{rounds, cipher}
use Rattle.aes_chain.specs.Words.{keys_at, state_at}
use Rattle.aes_chain.proofs.Rounds.{rounds_more}
use Rattle.aes_chain.proofs.block.encrypt.Goals as goal

pub loop-r-init : goal.loop-r-init
unfolding rounds
loop-r-init c = c.add-s.ensures ∙ ap (added (state_at c.args.block 0)) c.key_at.ensures

pub loop-r-preserved : goal.loop-r-preserved
loop-r-preserved c =
    c.round-next.ensures
    ∙ (λ i. added (mix_columns (shift_rows (sub_bytes (c.loop-r.invariant i)))) (c.key_at-key.ensures i))
    ∙ sym (rounds_more (keys_at c.args.words.now) (state_at c.args.block 0) c.loop-r.r c.loop-r.auto.r)

-- the rounds so far, and the last one
ends : (nr : ℕ) (keys : ℕ → List ℕ) (s out : List ℕ) (r : ℕ) → r ≡ nr
    → out ≡ added (shift_rows (sub_bytes (rounds keys s (r - 1)))) (keys nr) → out ≡ cipher nr keys s
unfolding cipher
ends nr keys s out r end is = is ∙ ap (λ (k : ℕ). added (shift_rows (sub_bytes (rounds keys s (k - 1)))) (keys nr)) end

pub returns : goal.returns
returns c =
    let so_far : state_at c.loop-r.s 0 ≡ rounds (keys_at c.args.words.now) (state_at c.args.block 0) (c.loop-r.r - 1) = c.loop-r.invariant in
    ends c.args.rounds (keys_at c.args.words.now) (state_at c.args.block 0) _ c.loop-r.r (omega arith) (cc)
