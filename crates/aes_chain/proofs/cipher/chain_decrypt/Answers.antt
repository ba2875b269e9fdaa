use Rattle.std.proofs.Common.{ℕ, List, ap, ◌∙◌, ◌≡◌, ◌+◌, ◌-◌, ◌*◌, ◌/◌, sym, arith, take, drop, length, ◌++◌}
use borrow.Rule.Slice.PartMut.{put_mid}
use Rattle.aes_chain.specs.State.{added}
use Rattle.aes_chain.specs.Cipher.{decrypted}
use Rattle.aes_chain.specs.Chain.{first_vector, plain_blocks, chain_decrypted}
use Rattle.aes_chain.specs.Words.{state_at}
use Rattle.aes_chain.proofs.Chaining.{plain_blocks_more, plain_blocks_all, state_at-zeros, length-state_at}
use Rattle.aes_chain.proofs.cipher.chain_decrypt.Goals as goal

pub loop-i-init : goal.loop-i-init
loop-i-init c =
    let n : ℕ = length c.args.text.now / 16 in
    let count : n ≡ n - 0 = omega arith in
    λ t. plain_blocks c.args.key.now (sym state_at-zeros t) (count t) c.args.text.now

pub loop-i-preserved : goal.loop-i-preserved
loop-i-preserved c =
    let n : ℕ = length c.args.text.now / 16 in
    let k : ℕ = 16 * c.loop-i.i + 16 - 16 * c.loop-i.i in
    let whole : List ℕ = plain_blocks c.args.key.now first_vector n c.args.text.now in
    let v : List ℕ = state_at c.load-next.result 0 in
    let p : List ℕ = state_at c.add-plain.result 0 in
    let is : p ≡ added (state_at c.loop-i.vector 0) (decrypted c.args.key.now v) =
    c.add-plain.ensures ∙ ap (added (state_at c.loop-i.vector 0)) c.decrypt_columns.ensures in
    let before = plain_blocks_more c.args.key.now (state_at c.loop-i.vector 0) whole c.loop-i.text p v n c.loop-i.i k (omega arith) c.loop-i-test.true
    (omega arith) c.loop-i.invariant c.load-next.ensures is (length-state_at c.add-plain.result 0) in
    before ∙ ap (λ (b : List ℕ). take (16 * (c.loop-i.i + 1)) (put_mid (16 * c.loop-i.i) k c.loop-i.text b)
    ++ plain_blocks c.args.key.now v (n - (c.loop-i.i + 1)) (drop (16 * (c.loop-i.i + 1)) (put_mid (16 * c.loop-i.i) k c.loop-i.text b))) (sym c.store.ensures)

pub returns : goal.returns
unfolding chain_decrypted
returns c =
    plain_blocks_all c.args.key.now (state_at c.loop-i.vector 0) (plain_blocks c.args.key.now first_vector (length c.args.text.now / 16) c.args.text.now)
    c.loop-i.text (length c.args.text.now / 16) c.loop-i.i (omega arith) (omega arith) c.loop-i.invariant
