use Rattle.std.proofs.Common.{ℕ, List, ap, ◌∙◌, ◌-◌}
use Rattle.aes_chain.specs.Cipher.{encrypted}
use Rattle.aes_chain.specs.Words.{bytes_of, state_at}
use Rattle.aes_chain.proofs.Expanded.{cipher-encrypted}
use Rattle.aes_chain.proofs.key.Key.encrypt_columns.Goals as goal

pub returns : goal.returns
returns c =
    let k = c.self.inside in
    let s : List ℕ = state_at c.args.block 0 in
    c.encrypt.ensures ∙ cipher-encrypted (bytes_of k.words (k.rounds - 6)) k.words k.inverse_words k.rounds c.self.invariant s
    ∙ ap (λ (key : List ℕ). encrypted key s) c.self.view_is
