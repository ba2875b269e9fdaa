-- Key expansion (FIPS 197, 5.2). A word is a list of four bytes.
use Rattle.std.specs.Prelude.{ℕ, zero, suc, ◌+◌, ◌-◌, ◌*◌, ◌/◌, ◌%◌, ◌==◌, ◌&&◌, List, [], ◌∷◌, ◌++◌, length, slice_index}
use Rattle.std.specs.Prelude.{slice_index_or, bit_xor, if◌then◌else◌}
use Rattle.aes_chain.specs.Field.{times, s_box}
use Rattle.aes_chain.specs.State.{state}

-- word i of a list of words
abbrev pub word_in : List (List ℕ) → ℕ → List ℕ
word_in ws i = slice_index_or ws i []

-- the sum of two words, byte by byte
unfoldable pub word_sum : List ℕ → List ℕ → List ℕ
word_sum v w =
    bit_xor (slice_index v 0) (slice_index w 0) ∷ bit_xor (slice_index v 1) (slice_index w 1)
    ∷ bit_xor (slice_index v 2) (slice_index w 2) ∷ bit_xor (slice_index v 3) (slice_index w 3) ∷ []

-- RotWord: one byte to the left
unfoldable pub rot_word : List ℕ → List ℕ
rot_word w = slice_index w 1 ∷ slice_index w 2 ∷ slice_index w 3 ∷ slice_index w 0 ∷ []

-- SubWord: each byte goes through the S-box
unfoldable pub sub_word : List ℕ → List ℕ
sub_word w =
    s_box (slice_index w 0) ∷ s_box (slice_index w 1) ∷ s_box (slice_index w 2) ∷ s_box (slice_index w 3) ∷ []

-- x to the power n
unfoldable pub power_of_x : ℕ → ℕ
power_of_x zero = 0x01
power_of_x (suc n) = times 0x02 (power_of_x n)

-- Rcon of j, from 1 on: x to the power j - 1, in the first byte
unfoldable pub round_constant : ℕ → List ℕ
round_constant j = power_of_x (j - 1) ∷ 0 ∷ 0 ∷ 0 ∷ []

-- what is added to the word nk places before word i, from the word before it, for a key of nk words
unfoldable pub added_word : ℕ → ℕ → List ℕ → List ℕ
added_word nk i before =
    if i % nk == 0 then word_sum (sub_word (rot_word before)) (round_constant (i / nk))
    else (if (nk == 8) && (i % nk == 4) then sub_word before else before)

-- word i, from the words before it
unfoldable pub next_word : ℕ → List (List ℕ) → ℕ → List ℕ
next_word nk ws i = word_sum (word_in ws (i - nk)) (added_word nk i (word_in ws (i - 1)))

-- the first n words of a key
unfoldable pub key_words : List ℕ → ℕ → List (List ℕ)
key_words key zero = []
key_words key (suc n) =
    key_words key n
    ++ (slice_index key (4 * n) ∷ slice_index key (4 * n + 1) ∷ slice_index key (4 * n + 2)
    ∷ slice_index key (4 * n + 3) ∷ []) ∷ []

-- the words ws of a key of nk words, and n more
unfoldable pub expanded : ℕ → List (List ℕ) → ℕ → List (List ℕ)
expanded nk ws zero = ws
expanded nk ws (suc n) = expanded nk ws n ++ next_word nk (expanded nk ws n) (nk + n) ∷ []

-- how many words a key has, Nk
abbrev pub key_len : List ℕ → ℕ
key_len key = length key / 4

-- how many rounds, Nr: 10, 12 or 14 for a key of 4, 6 or 8 words
abbrev pub round_count : List ℕ → ℕ
round_count key = key_len key + 6

-- all 4 (Nr + 1) words, of which a key has Nk, and 3 Nk + 28 follow
unfoldable pub key_expansion : List ℕ → List (List ℕ)
key_expansion key = expanded (key_len key) (key_words key (key_len key)) (3 * key_len key + 28)

-- the round key of round i, as a state: word 4i + c is its column c
unfoldable pub round_key : List ℕ → ℕ → List ℕ
round_key key i = state (λ r c. slice_index (word_in (key_expansion key) (4 * i + c)) r)
