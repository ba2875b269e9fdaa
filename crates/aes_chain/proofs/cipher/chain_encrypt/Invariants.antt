use Rattle.std.proofs.Common.{◌≡◌, ◌-◌, ◌*◌, ◌/◌, ◌++◌, take, drop, length}
use Rattle.aes_chain.specs.Chain.{first_vector, cipher_blocks}
use Rattle.aes_chain.specs.Words.{state_at}
use Rattle.aes_chain.proofs.cipher.chain_encrypt.Given as goal

-- the blocks so far, and what is left of the text with the vector of its first block, make the whole
abbrev pub invariant-loop-i : goal.invariant-loop-i
invariant-loop-i l =
    cipher_blocks l.key first_vector (length l.initial.text / 16) l.initial.text
    ≡ take (16 * l.i) l.text
    ++ cipher_blocks l.key (state_at l.vector 0) (length l.initial.text / 16 - l.i) (drop (16 * l.i) l.text)
