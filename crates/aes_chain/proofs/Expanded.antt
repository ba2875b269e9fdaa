-- What the fields of a key say of its bytes.
use Rattle.std.proofs.Common.{◌≡◌, ◌<◌, ◌≤◌, ◌+◌, ◌-◌, ◌*◌, ◌/◌, ℕ, List, ltb, ◌&&◌, cond, length, take, map, ap, ◌∙◌, arith}
use Rattle.std.specs.Int.{w32, to_le_bytes}
use Rattle.aes_chain.specs.State.{inv_mix_columns}
use Rattle.aes_chain.specs.Schedule.{key_words, expanded, key_expansion, round_count, round_key}
use Rattle.aes_chain.specs.Cipher.{cipher, inv_cipher, encrypted, decrypted}
use Rattle.aes_chain.specs.Words.{IsExpanded, bytes_of, eq_inv_cipher, inv_key, keys_at, state_at, words_of}
use Rattle.aes_chain.specs.Laws.{IsKey}
use Rattle.aes_chain.proofs.Expansion.{bytes_of-key, state_at-round_key}
use Rattle.aes_chain.proofs.Rounds.{cipher-same, eq_inv_cipher-inv_cipher}

inv_key-same : (nr : ℕ) (keys other : ℕ → List ℕ) (i : ℕ) → keys i ≡ other i → inv_key nr keys i ≡ inv_key nr other i
unfolding inv_key
inv_key-same nr keys other i e = λ t. cond (ltb 0 i && ltb i nr) (inv_mix_columns (e t)) (e t)

-- the words that are expanded from the first ones are the key expansion
words_of-key_expansion : (key words first : List ℕ) (nk : ℕ) → length key ≡ 4 * nk → words_of first nk ≡ key_words key nk
    → words_of words (4 * nk + 28) ≡ expanded nk (words_of first nk) (3 * nk + 28) → words_of words (4 * nk + 28) ≡ key_expansion key
unfolding key_expansion
words_of-key_expansion key words first nk len e is =
    let count : nk ≡ length key / 4 = omega arith in
    is ∙ ap (λ (ws : List (List ℕ)). expanded nk ws (3 * nk + 28)) e ∙ (λ t. expanded (count t) (key_words key (count t)) (3 * count t + 28))

-- the bytes of a key's first words
pub bytes_of-words : (key words first : List ℕ) (nk : ℕ) → length key ≡ 4 * nk → words_of first nk ≡ key_words key nk
    → take nk words ≡ take nk first → bytes_of words (nk + 6 - 6) ≡ key
bytes_of-words key words first nk len e kept =
    let count : nk + 6 - 6 ≡ nk = omega arith in
    ap (bytes_of words) count ∙ bytes_of-key key words nk len (ap (map (to_le_bytes w32)) kept ∙ e)

pub IsExpanded-words : (key words first inverse : List ℕ) (nk : ℕ) → IsKey key → length key ≡ 4 * nk → length words ≡ 60
    → words_of first nk ≡ key_words key nk → words_of words (4 * nk + 28) ≡ expanded nk (words_of first nk) (3 * nk + 28)
    → ((i : ℕ) → i ≤ nk + 6 → state_at inverse (4 * i) ≡ inv_key (nk + 6) (keys_at words) i)
    → nk ≤ 8 → IsExpanded key words inverse (nk + 6)
IsExpanded-words key words first inverse nk is_key len sixty e is inverted fits =
    let round : (i : ℕ) → i ≤ nk + 6 → state_at words (4 * i) ≡ round_key key i =
    λ i h. state_at-round_key key words (4 * nk + 28) i (words_of-key_expansion key words first nk len e is) (omega arith) (omega arith) in
    record {
      is_key = is_key;
      round_count_is = omega arith;
      forward = round;
      backward = λ i h. inverted i h ∙ inv_key-same (nk + 6) (keys_at words) (round_key key) i (round i h);
    }

some_rounds : (key : List ℕ) (rounds : ℕ) → rounds ≡ round_count key → 0 < rounds
some_rounds key rounds e = omega arith

module _ (key words inverse : List ℕ) (nr : ℕ) (is : IsExpanded key words inverse nr) (s : List ℕ) where
  pub cipher-encrypted : cipher nr (keys_at words) s ≡ encrypted key s
  unfolding encrypted
  cipher-encrypted =
      cipher-same nr (keys_at words) (round_key key) s is.forward ∙ ap (λ (n : ℕ). cipher n (round_key key) s) is.round_count_is

  pub eq_inv_cipher-decrypted : eq_inv_cipher nr (keys_at inverse) s ≡ decrypted key s
  unfolding decrypted
  eq_inv_cipher-decrypted =
      eq_inv_cipher-inv_cipher nr (round_key key) (keys_at inverse) s (some_rounds key nr is.round_count_is) is.backward
      ∙ ap (λ (n : ℕ). inv_cipher n (round_key key) s) is.round_count_is
