-- The cipher and the inverse cipher (FIPS 197, 5.1 and 5.3). `keys i` is the round key of round i.
use Rattle.std.specs.Prelude.{ℕ, zero, suc, ◌-◌, List}
use Rattle.aes_chain.specs.State.{sub_bytes, inv_sub_bytes, shift_rows, inv_shift_rows, mix_columns, inv_mix_columns, added}
use Rattle.aes_chain.specs.Schedule.{round_count, round_key}

-- the state after round key 0 and r whole rounds
unfoldable pub rounds : (ℕ → List ℕ) → List ℕ → ℕ → List ℕ
rounds keys s zero = added s (keys 0)
rounds keys s (suc r) = added (mix_columns (shift_rows (sub_bytes (rounds keys s r)))) (keys (suc r))

-- Cipher, of nr rounds: the last is without MixColumns (5.1)
unfoldable pub cipher : ℕ → (ℕ → List ℕ) → List ℕ → List ℕ
cipher nr keys s = added (shift_rows (sub_bytes (rounds keys s (nr - 1)))) (keys nr)

-- the state after round key nr and the n inverse rounds nr - 1, .., nr - n
unfoldable pub inv_rounds : ℕ → (ℕ → List ℕ) → List ℕ → ℕ → List ℕ
inv_rounds nr keys s zero = added s (keys nr)
inv_rounds nr keys s (suc n) =
    inv_mix_columns (added (inv_sub_bytes (inv_shift_rows (inv_rounds nr keys s n))) (keys (nr - suc n)))

-- InvCipher, of nr rounds: the last is without InvMixColumns (5.3)
unfoldable pub inv_cipher : ℕ → (ℕ → List ℕ) → List ℕ → List ℕ
inv_cipher nr keys s = added (inv_sub_bytes (inv_shift_rows (inv_rounds nr keys s (nr - 1)))) (keys 0)

-- a block encrypted under a key
unfoldable pub encrypted : List ℕ → List ℕ → List ℕ
encrypted key block = cipher (round_count key) (round_key key) block

-- a block decrypted under a key
unfoldable pub decrypted : List ℕ → List ℕ → List ℕ
decrypted key block = inv_cipher (round_count key) (round_key key) block
