use Rattle.std.proofs.Common.{ℕ, List, rules, ◌+◌, sym, subst, arith}
use Rattle.aes_chain.specs.Words.{IsExpanded}
use Rattle.aes_chain.specs.Laws.{AreBytes}
use Rattle.aes_chain.proofs.States.{AreBytes-from_fits}
use Rattle.aes_chain.proofs.Expanded.{IsExpanded-words, bytes_of-words}
use Rattle.aes_chain.proofs.key.Key.of_words.Goals as goal

pub invariant_of-result : goal.invariant_of-result
invariant_of-result c =
    let key : List ℕ = c.args.bytes.now in
    let words : List ℕ = c.expansion-words.result in
    let first : List ℕ = c.first_words-first.result in
    let inverse : List ℕ = c.inverse_keys-inverse_words.result in
    let nk : ℕ = c.args.key_len in
    let bytes : AreBytes key = AreBytes-from_fits key c.type_inv.bytes in
    let is : IsExpanded key words inverse (nk + 6) =
    IsExpanded-words key words first inverse nk (bytes, c.requires.permitted) c.requires.len (search rules) c.first_words-first.ensures
    c.expansion-words.ensures.words c.inverse_keys-inverse_words.ensures (omega arith) in
    subst (λ (k : List ℕ). IsExpanded k words inverse (nk + 6))
    (sym (bytes_of-words key words first nk c.requires.len c.first_words-first.ensures c.expansion-words.ensures.kept)) is

pub returns : goal.returns
returns c =
    bytes_of-words c.args.bytes.now c.expansion-words.result c.first_words-first.result c.args.key_len c.requires.len
    c.first_words-first.ensures c.expansion-words.ensures.kept
