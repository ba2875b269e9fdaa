-- The steps of a round: each has its inverse, and gives a block.
use Rattle.std.proofs.Common.{◌≡◌, ◌<◌, ◌+◌, ◌-◌, ◌*◌, ◌%◌, ℕ, List, bit_xor, length, slice_index, refl, ◌∙◌}
use Rattle.std.proofs.lemmas.Nat.{xor_lt}
use Rattle.aes_chain.specs.Field.{times, s_box, inv_s_box}
use Rattle.aes_chain.specs.State.{byte_in, state, sub_bytes, inv_sub_bytes, shift_rows, inv_shift_rows, sum4, row_times, columns_times, mix_matrix, inv_mix_matrix, mix_columns, inv_mix_columns, added}
use Rattle.aes_chain.specs.Laws.{AreBytes, IsBlock}
use Rattle.aes_chain.proofs.Sums.{times-xor, xor_pairs, xor_twice, xor_twice_left}
use Rattle.aes_chain.proofs.States.{byte_lt, of_sixteen, state_rows, AreBytes_rows, length-state, IsBlock-state, s_box-lt, inv_s_box-lt}
use Rattle.aes_chain.proofs.Mixing.{inv_s_box-s_box, s_box-inv_s_box, unmixed_0, unmixed_1, unmixed_2, unmixed_3, mixed_0, mixed_1, mixed_2, mixed_3, AllRowsBelow, mix_rows-lt, inv_mix_rows-lt}

-- ---- blocks

pub IsBlock-sub_bytes : (s : List ℕ) → IsBlock (sub_bytes s)
unfolding sub_bytes
IsBlock-sub_bytes s = IsBlock-state (λ r c. s_box (byte_in s r c)) (λ r c. s_box-lt (byte_in s r c))

pub IsBlock-inv_sub_bytes : (s : List ℕ) → IsBlock (inv_sub_bytes s)
unfolding inv_sub_bytes
IsBlock-inv_sub_bytes s = IsBlock-state (λ r c. inv_s_box (byte_in s r c)) (λ r c. inv_s_box-lt (byte_in s r c))

pub IsBlock-shift_rows : (s : List ℕ) → AreBytes s → IsBlock (shift_rows s)
unfolding shift_rows
IsBlock-shift_rows s h = IsBlock-state (λ r c. byte_in s r ((c + r) % 4)) (λ r c. byte_lt s h (r + 4 * ((c + r) % 4)))

pub IsBlock-inv_shift_rows : (s : List ℕ) → AreBytes s → IsBlock (inv_shift_rows s)
unfolding inv_shift_rows
IsBlock-inv_shift_rows s h =
    IsBlock-state (λ r c. byte_in s r ((c + (4 - r)) % 4)) (λ r c. byte_lt s h (r + 4 * ((c + (4 - r)) % 4)))

pub IsBlock-added : (s k : List ℕ) → AreBytes s → AreBytes k → IsBlock (added s k)
unfolding added
IsBlock-added s k h g =
    IsBlock-state (λ r c. bit_xor (byte_in s r c) (byte_in k r c))
    (λ r c. xor_lt 8 (byte_in s r c) (byte_in k r c) (byte_lt s h (r + 4 * c)) (byte_lt k g (r + 4 * c)))

pub length-added : (s k : List ℕ) → length (added s k) ≡ 16
unfolding added
length-added s k = length-state (λ r c. bit_xor (byte_in s r c) (byte_in k r c))

-- row r of a product of a matrix and a state
abbrev row_of : List ℕ → List ℕ → ℕ → ℕ → ℕ
row_of m s r c = row_times m r (byte_in s 0 c) (byte_in s 1 c) (byte_in s 2 c) (byte_in s 3 c)

pub IsBlock-mix_columns : (s : List ℕ) → AreBytes s → IsBlock (mix_columns s)
unfolding columns_times
IsBlock-mix_columns s h =
    let at : (r c : ℕ) → byte_in s r c < 256 = λ r c. byte_lt s h (r + 4 * c) in
    let small : (c : ℕ) → AllRowsBelow mix_matrix (byte_in s 0 c) (byte_in s 1 c) (byte_in s 2 c) (byte_in s 3 c) =
    λ c. mix_rows-lt _ _ _ _ (at 0 c) (at 1 c) (at 2 c) (at 3 c) in (
      AreBytes_rows (row_of mix_matrix s) (λ c. (small c).0) (λ c. (small c).1) (λ c. (small c).2) (λ c. (small c).3),
      length-state (row_of mix_matrix s),
    )

pub IsBlock-inv_mix_columns : (s : List ℕ) → AreBytes s → IsBlock (inv_mix_columns s)
unfolding columns_times
IsBlock-inv_mix_columns s h =
    let at : (r c : ℕ) → byte_in s r c < 256 = λ r c. byte_lt s h (r + 4 * c) in
    let small : (c : ℕ) → AllRowsBelow inv_mix_matrix (byte_in s 0 c) (byte_in s 1 c) (byte_in s 2 c) (byte_in s 3 c) =
    λ c. inv_mix_rows-lt _ _ _ _ (at 0 c) (at 1 c) (at 2 c) (at 3 c) in (
      AreBytes_rows (row_of inv_mix_matrix s) (λ c. (small c).0) (λ c. (small c).1) (λ c. (small c).2) (λ c. (small c).3),
      length-state (row_of inv_mix_matrix s),
    )

-- ---- inverses

pub inv_sub_bytes-sub_bytes : (s : List ℕ) → IsBlock s → inv_sub_bytes (sub_bytes s) ≡ s
unfolding sub_bytes inv_sub_bytes state
inv_sub_bytes-sub_bytes s h =
    (λ i. state (λ r c. inv_s_box-s_box (byte_in s r c) (byte_lt s h.0 (r + 4 * c)) i)) ∙ of_sixteen s h.1

pub sub_bytes-inv_sub_bytes : (s : List ℕ) → IsBlock s → sub_bytes (inv_sub_bytes s) ≡ s
unfolding sub_bytes inv_sub_bytes state
sub_bytes-inv_sub_bytes s h =
    (λ i. state (λ r c. s_box-inv_s_box (byte_in s r c) (byte_lt s h.0 (r + 4 * c)) i)) ∙ of_sixteen s h.1

pub inv_shift_rows-shift_rows : (s : List ℕ) → IsBlock s → inv_shift_rows (shift_rows s) ≡ s
unfolding shift_rows inv_shift_rows state
inv_shift_rows-shift_rows s h = of_sixteen s h.1

pub shift_rows-inv_shift_rows : (s : List ℕ) → IsBlock s → shift_rows (inv_shift_rows s) ≡ s
unfolding shift_rows inv_shift_rows state
shift_rows-inv_shift_rows s h = of_sixteen s h.1

-- what a matrix makes of what another made of a state
abbrev row_of_rows : List ℕ → List ℕ → List ℕ → ℕ → ℕ → ℕ
row_of_rows n m s r c = row_times n r (row_of m s 0 c) (row_of m s 1 c) (row_of m s 2 c) (row_of m s 3 c)

columns_twice : (n m s : List ℕ) → columns_times n (columns_times m s) ≡ state (row_of_rows n m s)
unfolding columns_times state
columns_twice n m s = refl

pub inv_mix_columns-mix_columns : (s : List ℕ) → IsBlock s → inv_mix_columns (mix_columns s) ≡ s
inv_mix_columns-mix_columns s h =
    let at : (r c : ℕ) → byte_in s r c < 256 = λ r c. byte_lt s h.0 (r + 4 * c) in
    columns_twice inv_mix_matrix mix_matrix s
    ∙ state_rows (row_of_rows inv_mix_matrix mix_matrix s) (byte_in s)
    (λ c. unmixed_0 _ _ _ _ (at 0 c) (at 1 c) (at 2 c) (at 3 c)) (λ c. unmixed_1 _ _ _ _ (at 0 c) (at 1 c) (at 2 c) (at 3 c))
    (λ c. unmixed_2 _ _ _ _ (at 0 c) (at 1 c) (at 2 c) (at 3 c)) (λ c. unmixed_3 _ _ _ _ (at 0 c) (at 1 c) (at 2 c) (at 3 c))
    ∙ of_sixteen s h.1

pub mix_columns-inv_mix_columns : (s : List ℕ) → IsBlock s → mix_columns (inv_mix_columns s) ≡ s
mix_columns-inv_mix_columns s h =
    let at : (r c : ℕ) → byte_in s r c < 256 = λ r c. byte_lt s h.0 (r + 4 * c) in
    columns_twice mix_matrix inv_mix_matrix s
    ∙ state_rows (row_of_rows mix_matrix inv_mix_matrix s) (byte_in s)
    (λ c. mixed_0 _ _ _ _ (at 0 c) (at 1 c) (at 2 c) (at 3 c)) (λ c. mixed_1 _ _ _ _ (at 0 c) (at 1 c) (at 2 c) (at 3 c))
    (λ c. mixed_2 _ _ _ _ (at 0 c) (at 1 c) (at 2 c) (at 3 c)) (λ c. mixed_3 _ _ _ _ (at 0 c) (at 1 c) (at 2 c) (at 3 c))
    ∙ of_sixteen s h.1

pub added-twice : (s k : List ℕ) → length s ≡ 16 → added (added s k) k ≡ s
unfolding added state
added-twice s k h = (λ i. state (λ r c. xor_twice (byte_in s r c) (byte_in k r c) i)) ∙ of_sixteen s h

pub added-twice_left : (k s : List ℕ) → length s ≡ 16 → added k (added k s) ≡ s
unfolding added state
added-twice_left k s h = (λ i. state (λ r c. xor_twice_left (byte_in s r c) (byte_in k r c) i)) ∙ of_sixteen s h

row_times-xor : (m : List ℕ) (r a b c d e f g h : ℕ)
    → row_times m r (bit_xor a e) (bit_xor b f) (bit_xor c g) (bit_xor d h) ≡ bit_xor (row_times m r a b c d) (row_times m r e f g h)
unfolding row_times
row_times-xor m r a b c d e f g h =
    let p : ℕ = slice_index m (4 * r) in
    let q : ℕ = slice_index m (4 * r + 1) in
    let s : ℕ = slice_index m (4 * r + 2) in
    let t : ℕ = slice_index m (4 * r + 3) in
    (λ i. sum4 (times-xor p a e i) (times-xor q b f i) (times-xor s c g i) (times-xor t d h i))
    ∙ (λ i. bit_xor (xor_pairs (times p a) (times p e) (times q b) (times q f) i) (xor_pairs (times s c) (times s g) (times t d) (times t h) i))
    ∙ xor_pairs (bit_xor (times p a) (times q b)) (bit_xor (times p e) (times q f)) (bit_xor (times s c) (times t d)) (bit_xor (times s g) (times t h))

-- a matrix goes through a sum of states
pub columns_times-added : (m s k : List ℕ) → columns_times m (added s k) ≡ added (columns_times m s) (columns_times m k)
unfolding columns_times added state
columns_times-added m s k = λ i. state (λ r c. row_times-xor m r
    (byte_in s 0 c) (byte_in s 1 c) (byte_in s 2 c) (byte_in s 3 c) (byte_in k 0 c) (byte_in k 1 c) (byte_in k 2 c) (byte_in k 3 c) i)
