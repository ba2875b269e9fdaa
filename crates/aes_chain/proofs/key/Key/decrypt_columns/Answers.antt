use Rattle.std.proofs.Common.{ℕ, List, ap, ◌∙◌, ◌-◌}
use Rattle.aes_chain.specs.Cipher.{decrypted}
use Rattle.aes_chain.specs.Words.{bytes_of, state_at}
use Rattle.aes_chain.proofs.Expanded.{eq_inv_cipher-decrypted}
use Rattle.aes_chain.proofs.key.Key.decrypt_columns.Goals as goal

pub returns : goal.returns
returns c =
    let k = c.self.inside in
    let s : List ℕ = state_at c.args.block 0 in
    c.decrypt.ensures ∙ eq_inv_cipher-decrypted (bytes_of k.words (k.rounds - 6)) k.words k.inverse_words k.rounds c.self.invariant s
    ∙ ap (λ (key : List ℕ). decrypted key s) c.self.view_is
