-- How the program keeps states and round keys: columns as numbers of 32 bits, with the first row as
-- the lowest byte.
use Rattle.std.specs.Prelude.{◌≡◌, ℕ, zero, suc, ◌+◌, ◌-◌, ◌*◌, ◌≤◌, ◌&&◌, nat_lt, List, [], ◌∷◌, map, take, slice_index, if◌then◌else◌}
use Rattle.std.specs.Int.{w32, byte_at, to_le_bytes}
use Rattle.std.specs.List.{concat}
use Rattle.aes_chain.specs.Field.{times}
use Rattle.aes_chain.specs.State.{state, inv_sub_bytes, inv_shift_rows, row_times, inv_mix_columns, added}
use Rattle.aes_chain.specs.Schedule.{round_count, round_key}
use Rattle.aes_chain.specs.Laws.{IsKey}

-- the state whose columns are the words from place i on
unfoldable pub state_at : List ℕ → ℕ → List ℕ
state_at words i = state (λ r c. byte_at r (slice_index words (i + c)))

-- the round key of each round, among the words
abbrev pub keys_at : List ℕ → ℕ → List ℕ
keys_at words = λ i. state_at words (4 * i)

-- the product of a matrix and the column a, b, c, d
abbrev pub column_times : List ℕ → ℕ → ℕ → ℕ → ℕ → List ℕ
column_times m a b c d = row_times m 0 a b c d ∷ row_times m 1 a b c d ∷ row_times m 2 a b c d ∷ row_times m 3 a b c d ∷ []

-- the products of column k of a matrix and the byte b
abbrev pub products : List ℕ → ℕ → ℕ → List ℕ
products m k b =
    times (slice_index m k) b ∷ times (slice_index m (4 + k)) b ∷ times (slice_index m (8 + k)) b
    ∷ times (slice_index m (12 + k)) b ∷ []

-- the first n words, as lists of four bytes
abbrev pub words_of : List ℕ → ℕ → List (List ℕ)
words_of words n = map (to_le_bytes w32) (take n words)

-- the bytes of the first n words
abbrev pub bytes_of : List ℕ → ℕ → List ℕ
bytes_of words n = concat (words_of words n)

-- the round keys of the equivalent inverse cipher: InvMixColumns of those between the first and the
-- last (5.3.5)
unfoldable pub inv_key : ℕ → (ℕ → List ℕ) → ℕ → List ℕ
inv_key nr keys i = if nat_lt 0 i && nat_lt i nr then inv_mix_columns (keys i) else keys i

-- the state of the equivalent inverse cipher after round key nr and the n rounds nr - 1, .., nr - n
unfoldable pub eq_inv_rounds : ℕ → (ℕ → List ℕ) → List ℕ → ℕ → List ℕ
eq_inv_rounds nr keys s zero = added s (keys nr)
eq_inv_rounds nr keys s (suc n) =
    added (inv_mix_columns (inv_sub_bytes (inv_shift_rows (eq_inv_rounds nr keys s n)))) (keys (nr - suc n))

-- the equivalent inverse cipher, with round keys of its own (5.3.5)
unfoldable pub eq_inv_cipher : ℕ → (ℕ → List ℕ) → List ℕ → List ℕ
eq_inv_cipher nr keys s = added (inv_sub_bytes (inv_shift_rows (eq_inv_rounds nr keys s (nr - 1)))) (keys 0)

-- the words are the round keys of the key, and the inverse words those of the equivalent inverse cipher
pub record IsExpanded (key words inverse_words : List ℕ) (rounds : ℕ) : Type 0 where
  pub is_key : IsKey key
  pub round_count_is : rounds ≡ round_count key
  pub forward : (i : ℕ) → i ≤ rounds → state_at words (4 * i) ≡ round_key key i
  pub backward : (i : ℕ) → i ≤ rounds → state_at inverse_words (4 * i) ≡ inv_key rounds (round_key key) i
