-- States by their columns, as numbers of 32 bits.
use Rattle.std.proofs.Common.{◌≡◌, ◌<◌, ◌+◌, ℕ, List, [], ◌∷◌, ◌++◌, bit_xor, length, slice_index, refl, sym, ap, ◌∙◌, add-zero}
use Rattle.std.specs.Int.{w32, byte_at, to_le_bytes, from_le_bytes}
use Rattle.std.proofs.lemmas.Nat.{le_bytes_4}
use Rattle.std.proofs.lemmas.List.Elements.{All-from_recursion}
use Rattle.aes_chain.specs.Field.{s_box, inv_s_box}
use Rattle.aes_chain.specs.State.{state, sub_bytes, inv_sub_bytes, shift_rows, inv_shift_rows, sum4, row_times, columns_times, mix_matrix, inv_mix_matrix, mix_columns, inv_mix_columns, added}
use Rattle.aes_chain.specs.Words.{state_at, column_times, products}
use Rattle.aes_chain.proofs.Sums.{byte_at-xor}
use Rattle.aes_chain.proofs.States.{byte_lt, of_sixteen}

byte_at-sum4 : (r a b c d : ℕ) → byte_at r (sum4 a b c d) ≡ sum4 (byte_at r a) (byte_at r b) (byte_at r c) (byte_at r d)
byte_at-sum4 r a b c d =
    byte_at-xor r (bit_xor a b) (bit_xor c d) ∙ (λ i. bit_xor (byte_at-xor r a b i) (byte_at-xor r c d i))

-- the sum of the products of a matrix's columns is the product of the matrix
pub column_times-sum : (m : List ℕ) (w x y z a b c d : ℕ) → to_le_bytes w32 w ≡ products m 0 a → to_le_bytes w32 x ≡ products m 1 b
    → to_le_bytes w32 y ≡ products m 2 c → to_le_bytes w32 z ≡ products m 3 d
    → to_le_bytes w32 (sum4 w x y z) ≡ column_times m a b c d
unfolding row_times
column_times-sum m w x y z a b c d p q r s =
    (λ i. byte_at-sum4 0 w x y z i ∷ byte_at-sum4 1 w x y z i ∷ byte_at-sum4 2 w x y z i ∷ byte_at-sum4 3 w x y z i ∷ [])
    ∙ (λ i. sum4 (slice_index (p i) 0) (slice_index (q i) 0) (slice_index (r i) 0) (slice_index (s i) 0)
    ∷ sum4 (slice_index (p i) 1) (slice_index (q i) 1) (slice_index (r i) 1) (slice_index (s i) 1)
    ∷ sum4 (slice_index (p i) 2) (slice_index (q i) 2) (slice_index (r i) 2) (slice_index (s i) 2)
    ∷ sum4 (slice_index (p i) 3) (slice_index (q i) 3) (slice_index (r i) 3) (slice_index (s i) 3) ∷ [])

-- the bytes of four columns, one after another
pub state_columns : (a b c d : ℕ) → state_at (a ∷ b ∷ c ∷ d ∷ []) 0
    ≡ to_le_bytes w32 a ++ (to_le_bytes w32 b ++ (to_le_bytes w32 c ++ to_le_bytes w32 d))
unfolding state_at state
state_columns a b c d = refl

pub state_of_columns : (a b c d : ℕ) (p q r s : List ℕ) → to_le_bytes w32 a ≡ p → to_le_bytes w32 b ≡ q → to_le_bytes w32 c ≡ r
    → to_le_bytes w32 d ≡ s → state_at (a ∷ b ∷ c ∷ d ∷ []) 0 ≡ p ++ (q ++ (r ++ s))
state_of_columns a b c d p q r s ep eq er es = state_columns a b c d ∙ (λ i. ep i ++ (eq i ++ (er i ++ es i)))

pub to_le_bytes-xor : (a b : ℕ) → to_le_bytes w32 (bit_xor a b)
    ≡ bit_xor (byte_at 0 a) (byte_at 0 b) ∷ bit_xor (byte_at 1 a) (byte_at 1 b) ∷ bit_xor (byte_at 2 a) (byte_at 2 b)
    ∷ bit_xor (byte_at 3 a) (byte_at 3 b) ∷ []
to_le_bytes-xor a b = λ i. byte_at-xor 0 a b i ∷ byte_at-xor 1 a b i ∷ byte_at-xor 2 a b i ∷ byte_at-xor 3 a b i ∷ []

-- the sum of two states, column by column
pub added-columns : (s k : List ℕ) → state_at (bit_xor (slice_index s 0) (slice_index k 0) ∷ bit_xor (slice_index s 1) (slice_index k 1)
    ∷ bit_xor (slice_index s 2) (slice_index k 2) ∷ bit_xor (slice_index s 3) (slice_index k 3) ∷ []) 0
    ≡ added (state_at s 0) (state_at k 0)
unfolding state_at state added
added-columns s k =
    state_of_columns _ _ _ _ _ _ _ _ (to_le_bytes-xor (slice_index s 0) (slice_index k 0)) (to_le_bytes-xor (slice_index s 1) (slice_index k 1))
    (to_le_bytes-xor (slice_index s 2) (slice_index k 2)) (to_le_bytes-xor (slice_index s 3) (slice_index k 3))

-- four words of a list, as a state
pub state_at-four : (words : List ℕ) (i : ℕ) → state_at (slice_index words i ∷ slice_index words (i + 1) ∷ slice_index words (i + 2)
    ∷ slice_index words (i + 3) ∷ []) 0 ≡ state_at words i
unfolding state_at state
state_at-four words i =
    ap (λ (j : ℕ). state_at (slice_index words j ∷ slice_index words (i + 1) ∷ slice_index words (i + 2) ∷ slice_index words (i + 3) ∷ []) 0)
    (sym (add-zero i))

-- the items of a list of 16
pub sixteen : (s : List ℕ) → length s ≡ 16
    → (slice_index s 0 ∷ slice_index s 1 ∷ slice_index s 2 ∷ slice_index s 3 ∷ [])
    ++ ((slice_index s 4 ∷ slice_index s 5 ∷ slice_index s 6 ∷ slice_index s 7 ∷ [])
    ++ ((slice_index s 8 ∷ slice_index s 9 ∷ slice_index s 10 ∷ slice_index s 11 ∷ [])
    ++ (slice_index s 12 ∷ slice_index s 13 ∷ slice_index s 14 ∷ slice_index s 15 ∷ []))) ≡ s
unfolding state
sixteen s h = of_sixteen s h

-- a number from four bytes has these bytes
pub bytes_four : (a b c d n : ℕ) → n ≡ from_le_bytes w32 (a ∷ b ∷ c ∷ d ∷ []) → a < 256 → b < 256 → c < 256 → d < 256
    → to_le_bytes w32 n ≡ a ∷ b ∷ c ∷ d ∷ []
bytes_four a b c d n e ha hb hc hd =
    le_bytes_4 (a ∷ b ∷ c ∷ d ∷ []) n refl
    (byte_lt (a ∷ b ∷ c ∷ d ∷ []) (All-from_recursion (λ x. x < 256) (a ∷ b ∷ c ∷ d ∷ []) (ha, (hb, (hc, (hd, tt)))))) e

-- a round from the columns that it makes
module _ (s : List ℕ) (w x y z : ℕ) where
  pub round_columns : to_le_bytes w32 w ≡ column_times mix_matrix (s_box (byte_at 0 (slice_index s 0))) (s_box (byte_at 1 (slice_index s 1))) (s_box (byte_at 2 (slice_index s 2))) (s_box (byte_at 3 (slice_index s 3)))
      → to_le_bytes w32 x ≡ column_times mix_matrix (s_box (byte_at 0 (slice_index s 1))) (s_box (byte_at 1 (slice_index s 2))) (s_box (byte_at 2 (slice_index s 3))) (s_box (byte_at 3 (slice_index s 0)))
      → to_le_bytes w32 y ≡ column_times mix_matrix (s_box (byte_at 0 (slice_index s 2))) (s_box (byte_at 1 (slice_index s 3))) (s_box (byte_at 2 (slice_index s 0))) (s_box (byte_at 3 (slice_index s 1)))
      → to_le_bytes w32 z ≡ column_times mix_matrix (s_box (byte_at 0 (slice_index s 3))) (s_box (byte_at 1 (slice_index s 0))) (s_box (byte_at 2 (slice_index s 1))) (s_box (byte_at 3 (slice_index s 2)))
      → state_at (w ∷ x ∷ y ∷ z ∷ []) 0 ≡ mix_columns (shift_rows (sub_bytes (state_at s 0)))
  unfolding state_at state columns_times shift_rows sub_bytes
  round_columns p q r t = state_of_columns w x y z _ _ _ _ p q r t

  pub last_round_columns : to_le_bytes w32 w ≡ s_box (byte_at 0 (slice_index s 0)) ∷ s_box (byte_at 1 (slice_index s 1)) ∷ s_box (byte_at 2 (slice_index s 2)) ∷ s_box (byte_at 3 (slice_index s 3)) ∷ []
      → to_le_bytes w32 x ≡ s_box (byte_at 0 (slice_index s 1)) ∷ s_box (byte_at 1 (slice_index s 2)) ∷ s_box (byte_at 2 (slice_index s 3)) ∷ s_box (byte_at 3 (slice_index s 0)) ∷ []
      → to_le_bytes w32 y ≡ s_box (byte_at 0 (slice_index s 2)) ∷ s_box (byte_at 1 (slice_index s 3)) ∷ s_box (byte_at 2 (slice_index s 0)) ∷ s_box (byte_at 3 (slice_index s 1)) ∷ []
      → to_le_bytes w32 z ≡ s_box (byte_at 0 (slice_index s 3)) ∷ s_box (byte_at 1 (slice_index s 0)) ∷ s_box (byte_at 2 (slice_index s 1)) ∷ s_box (byte_at 3 (slice_index s 2)) ∷ []
      → state_at (w ∷ x ∷ y ∷ z ∷ []) 0 ≡ shift_rows (sub_bytes (state_at s 0))
  unfolding state_at state shift_rows sub_bytes
  last_round_columns p q r t = state_of_columns w x y z _ _ _ _ p q r t

  pub inv_round_columns : to_le_bytes w32 w ≡ column_times inv_mix_matrix (inv_s_box (byte_at 0 (slice_index s 0))) (inv_s_box (byte_at 1 (slice_index s 3))) (inv_s_box (byte_at 2 (slice_index s 2))) (inv_s_box (byte_at 3 (slice_index s 1)))
      → to_le_bytes w32 x ≡ column_times inv_mix_matrix (inv_s_box (byte_at 0 (slice_index s 1))) (inv_s_box (byte_at 1 (slice_index s 0))) (inv_s_box (byte_at 2 (slice_index s 3))) (inv_s_box (byte_at 3 (slice_index s 2)))
      → to_le_bytes w32 y ≡ column_times inv_mix_matrix (inv_s_box (byte_at 0 (slice_index s 2))) (inv_s_box (byte_at 1 (slice_index s 1))) (inv_s_box (byte_at 2 (slice_index s 0))) (inv_s_box (byte_at 3 (slice_index s 3)))
      → to_le_bytes w32 z ≡ column_times inv_mix_matrix (inv_s_box (byte_at 0 (slice_index s 3))) (inv_s_box (byte_at 1 (slice_index s 2))) (inv_s_box (byte_at 2 (slice_index s 1))) (inv_s_box (byte_at 3 (slice_index s 0)))
      → state_at (w ∷ x ∷ y ∷ z ∷ []) 0 ≡ inv_mix_columns (inv_sub_bytes (inv_shift_rows (state_at s 0)))
  unfolding state_at state columns_times inv_shift_rows inv_sub_bytes
  inv_round_columns p q r t = state_of_columns w x y z _ _ _ _ p q r t

  pub last_inv_round_columns : to_le_bytes w32 w ≡ inv_s_box (byte_at 0 (slice_index s 0)) ∷ inv_s_box (byte_at 1 (slice_index s 3)) ∷ inv_s_box (byte_at 2 (slice_index s 2)) ∷ inv_s_box (byte_at 3 (slice_index s 1)) ∷ []
      → to_le_bytes w32 x ≡ inv_s_box (byte_at 0 (slice_index s 1)) ∷ inv_s_box (byte_at 1 (slice_index s 0)) ∷ inv_s_box (byte_at 2 (slice_index s 3)) ∷ inv_s_box (byte_at 3 (slice_index s 2)) ∷ []
      → to_le_bytes w32 y ≡ inv_s_box (byte_at 0 (slice_index s 2)) ∷ inv_s_box (byte_at 1 (slice_index s 1)) ∷ inv_s_box (byte_at 2 (slice_index s 0)) ∷ inv_s_box (byte_at 3 (slice_index s 3)) ∷ []
      → to_le_bytes w32 z ≡ inv_s_box (byte_at 0 (slice_index s 3)) ∷ inv_s_box (byte_at 1 (slice_index s 2)) ∷ inv_s_box (byte_at 2 (slice_index s 1)) ∷ inv_s_box (byte_at 3 (slice_index s 0)) ∷ []
      → state_at (w ∷ x ∷ y ∷ z ∷ []) 0 ≡ inv_sub_bytes (inv_shift_rows (state_at s 0))
  unfolding state_at state inv_shift_rows inv_sub_bytes
  last_inv_round_columns p q r t = state_of_columns w x y z _ _ _ _ p q r t
