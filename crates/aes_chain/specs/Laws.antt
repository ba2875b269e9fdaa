-- What holds of keys, blocks and texts, and the laws: each of encryption and decryption undoes the other.
use Rattle.std.specs.Prelude.{◌≡◌, ℕ, ◌<◌, ◌%◌, ◌⊎◌, List, length, All}
use Rattle.aes_chain.specs.Cipher.{encrypted, decrypted}
use Rattle.aes_chain.specs.Chain.{chain_encrypted, chain_decrypted}

-- each item is a byte
abbrev pub AreBytes : List ℕ → Type 0
AreBytes xs = All (λ b. b < 256) xs

-- a key has 16, 24 or 32 bytes
abbrev pub IsKeyLen : ℕ → Type 0
IsKeyLen n = (n ≡ 16) ⊎ ((n ≡ 24) ⊎ (n ≡ 32))

abbrev pub IsKey : List ℕ → Type 0
IsKey key = AreBytes key × IsKeyLen (length key)

-- a block has 16 bytes
abbrev pub IsBlock : List ℕ → Type 0
IsBlock block = AreBytes block × (length block ≡ 16)

-- a text of whole blocks
abbrev pub IsWhole : List ℕ → Type 0
IsWhole text = AreBytes text × (length text % 16 ≡ 0)

abbrev pub DecryptionUndoesEncryption : Type 0
DecryptionUndoesEncryption = (key block : List ℕ) → IsKey key → IsBlock block → decrypted key (encrypted key block) ≡ block

abbrev pub EncryptionUndoesDecryption : Type 0
EncryptionUndoesDecryption = (key block : List ℕ) → IsKey key → IsBlock block → encrypted key (decrypted key block) ≡ block

abbrev pub ChainDecryptionUndoesEncryption : Type 0
ChainDecryptionUndoesEncryption =
    (key text : List ℕ) → IsKey key → IsWhole text → chain_decrypted key (chain_encrypted key text) ≡ text

abbrev pub ChainEncryptionUndoesDecryption : Type 0
ChainEncryptionUndoesDecryption =
    (key text : List ℕ) → IsKey key → IsWhole text → chain_encrypted key (chain_decrypted key text) ≡ text
