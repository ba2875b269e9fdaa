-- The state of AES: a list of 16 bytes, of which byte r + 4c stands in row r and column c (FIPS 197,
-- 3.4), and what a round does to it.
use Rattle.std.specs.Prelude.{ℕ, ◌+◌, ◌-◌, ◌*◌, ◌%◌, List, [], ◌∷◌, slice_index, bit_xor}
use Rattle.aes_chain.specs.Field.{times, s_box, inv_s_box}

-- the byte in row r and column c
abbrev pub byte_in : List ℕ → ℕ → ℕ → ℕ
byte_in s r c = slice_index s (r + 4 * c)

-- the state with the byte f r c in row r and column c
unfoldable pub state : (ℕ → ℕ → ℕ) → List ℕ
state f =
    f 0 0 ∷ f 1 0 ∷ f 2 0 ∷ f 3 0 ∷ f 0 1 ∷ f 1 1 ∷ f 2 1 ∷ f 3 1
    ∷ f 0 2 ∷ f 1 2 ∷ f 2 2 ∷ f 3 2 ∷ f 0 3 ∷ f 1 3 ∷ f 2 3 ∷ f 3 3 ∷ []

-- SubBytes: each byte goes through the S-box (5.1.1)
unfoldable pub sub_bytes : List ℕ → List ℕ
sub_bytes s = state (λ r c. s_box (byte_in s r c))

-- InvSubBytes (5.3.2)
unfoldable pub inv_sub_bytes : List ℕ → List ℕ
inv_sub_bytes s = state (λ r c. inv_s_box (byte_in s r c))

-- ShiftRows: row r goes r places to the left (5.1.2)
unfoldable pub shift_rows : List ℕ → List ℕ
shift_rows s = state (λ r c. byte_in s r ((c + r) % 4))

-- InvShiftRows: row r goes r places to the right (5.3.1)
unfoldable pub inv_shift_rows : List ℕ → List ℕ
inv_shift_rows s = state (λ r c. byte_in s r ((c + (4 - r)) % 4))

-- the sum of four bytes
abbrev pub sum4 : ℕ → ℕ → ℕ → ℕ → ℕ
sum4 a b c d = bit_xor (bit_xor a b) (bit_xor c d)

-- the product of row r of a matrix, whose rows follow one another in m, and the column a, b, c, d
unfoldable pub row_times : List ℕ → ℕ → ℕ → ℕ → ℕ → ℕ → ℕ
row_times m r a b c d =
    sum4 (times (slice_index m (4 * r)) a) (times (slice_index m (4 * r + 1)) b)
    (times (slice_index m (4 * r + 2)) c) (times (slice_index m (4 * r + 3)) d)

-- each column multiplied by the matrix m
unfoldable pub columns_times : List ℕ → List ℕ → List ℕ
columns_times m s = state (λ r c. row_times m r (byte_in s 0 c) (byte_in s 1 c) (byte_in s 2 c) (byte_in s 3 c))

-- the matrix of MixColumns, row by row (5.1.3)
abbrev pub mix_matrix : List ℕ
mix_matrix =
    0x02 ∷ 0x03 ∷ 0x01 ∷ 0x01
    ∷ 0x01 ∷ 0x02 ∷ 0x03 ∷ 0x01
    ∷ 0x01 ∷ 0x01 ∷ 0x02 ∷ 0x03
    ∷ 0x03 ∷ 0x01 ∷ 0x01 ∷ 0x02 ∷ []

-- the matrix of InvMixColumns, row by row (5.3.3)
abbrev pub inv_mix_matrix : List ℕ
inv_mix_matrix =
    0x0e ∷ 0x0b ∷ 0x0d ∷ 0x09
    ∷ 0x09 ∷ 0x0e ∷ 0x0b ∷ 0x0d
    ∷ 0x0d ∷ 0x09 ∷ 0x0e ∷ 0x0b
    ∷ 0x0b ∷ 0x0d ∷ 0x09 ∷ 0x0e ∷ []

-- MixColumns: each column is multiplied by the matrix (5.1.3)
abbrev pub mix_columns : List ℕ → List ℕ
mix_columns s = columns_times mix_matrix s

-- InvMixColumns (5.3.3)
abbrev pub inv_mix_columns : List ℕ → List ℕ
inv_mix_columns s = columns_times inv_mix_matrix s

-- the sum of two blocks, byte by byte: AddRoundKey, where the second is a round key (5.1.4)
unfoldable pub added : List ℕ → List ℕ → List ℕ
added s k = state (λ r c. bit_xor (byte_in s r c) (byte_in k r c))
