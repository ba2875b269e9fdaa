-- Blocks chained with one another: each plain block is added to the vector, which is the cipher block
-- before it, or sixteen zero bytes at the first.
use Rattle.std.specs.Prelude.{ℕ, zero, suc, ◌/◌, List, [], ◌++◌, length, take, drop, replicate}
use Rattle.aes_chain.specs.State.{added}
use Rattle.aes_chain.specs.Cipher.{encrypted, decrypted}

-- the first vector
abbrev pub first_vector : List ℕ
first_vector = replicate 16 0

-- the cipher blocks of the first n blocks of a text, after the vector
unfoldable pub cipher_blocks : List ℕ → List ℕ → ℕ → List ℕ → List ℕ
cipher_blocks key vector zero text = []
cipher_blocks key vector (suc n) text =
    encrypted key (added vector (take 16 text))
    ++ cipher_blocks key (encrypted key (added vector (take 16 text))) n (drop 16 text)

-- the plain blocks of the first n cipher blocks of a text, after the vector
unfoldable pub plain_blocks : List ℕ → List ℕ → ℕ → List ℕ → List ℕ
plain_blocks key vector zero text = []
plain_blocks key vector (suc n) text =
    added vector (decrypted key (take 16 text)) ++ plain_blocks key (take 16 text) n (drop 16 text)

-- a text of whole blocks, encrypted under a key
unfoldable pub chain_encrypted : List ℕ → List ℕ → List ℕ
chain_encrypted key text = cipher_blocks key first_vector (length text / 16) text

-- a text of whole blocks, decrypted under a key
unfoldable pub chain_decrypted : List ℕ → List ℕ → List ℕ
chain_decrypted key text = plain_blocks key first_vector (length text / 16) text
