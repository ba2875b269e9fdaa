-- The S-box and MixColumns undone, by computation over the 256 bytes.
use Rattle.std.proofs.Common.{◌≡◌, ◌<◌, ◌+◌, ◌*◌, ◌%◌, ℕ, List, bit_xor, map, slice_index, get_or, refl, sym, ap, ◌∙◌, arith}
use Rattle.std.specs.List.{range_with_len}
use Rattle.std.proofs.lemmas.List.FromFn.{get_or-map-range_with_len}
use Rattle.std.proofs.lemmas.Nat.{xor_lt}
use lib.Bits.{xor_zero_r}
use Rattle.aes_chain.specs.Field.{times, product, remainder, inverse, inverse_below, byte_of_sums, affine, s_box, inv_affine, inv_s_box}
use Rattle.aes_chain.specs.State.{sum4, row_times, mix_matrix, inv_mix_matrix}
use Rattle.aes_chain.proofs.Sums.{sum4-turned, times-sum4}

abbrev all_bytes : List ℕ
all_bytes = range_with_len 0 256

-- what is the same at each byte, by computation
same_at : (f g : ℕ → ℕ) → map f all_bytes ≡ map g all_bytes → (b : ℕ) → b < 256 → f b ≡ g b
same_at f g e b h =
    sym (get_or-map-range_with_len f 0 256 b b 0 h (omega arith))
    ∙ ap (λ (l : List ℕ). get_or l b 0) e
    ∙ get_or-map-range_with_len g 0 256 b b 0 h (omega arith)

pub inv_s_box-s_box : (b : ℕ) → b < 256 → inv_s_box (s_box b) ≡ b
unfolding times product remainder inverse inverse_below byte_of_sums affine s_box inv_affine inv_s_box
inv_s_box-s_box = same_at (λ b. inv_s_box (s_box b)) (λ b. b) refl

pub s_box-inv_s_box : (b : ℕ) → b < 256 → s_box (inv_s_box b) ≡ b
unfolding times product remainder inverse inverse_below byte_of_sums affine s_box inv_affine inv_s_box
s_box-inv_s_box = same_at (λ b. s_box (inv_s_box b)) (λ b. b) refl

-- ---- MixColumns

-- the coefficient that a byte has in row r of the product of two matrices, times the byte, where p, q,
-- s and t are the second matrix's column
abbrev twice : List ℕ → ℕ → ℕ → ℕ → ℕ → ℕ → ℕ → ℕ
twice n r p q s t b =
    sum4 (times (slice_index n (4 * r)) (times p b)) (times (slice_index n (4 * r + 1)) (times q b))
    (times (slice_index n (4 * r + 2)) (times s b)) (times (slice_index n (4 * r + 3)) (times t b))

-- a row of the product of two matrices
rows_twice : (n m : List ℕ) (r a b c d : ℕ)
    → row_times n r (row_times m 0 a b c d) (row_times m 1 a b c d) (row_times m 2 a b c d) (row_times m 3 a b c d)
    ≡ sum4 (twice n r (slice_index m 0) (slice_index m 4) (slice_index m 8) (slice_index m 12) a)
    (twice n r (slice_index m 1) (slice_index m 5) (slice_index m 9) (slice_index m 13) b)
    (twice n r (slice_index m 2) (slice_index m 6) (slice_index m 10) (slice_index m 14) c)
    (twice n r (slice_index m 3) (slice_index m 7) (slice_index m 11) (slice_index m 15) d)
unfolding row_times
rows_twice n m r a b c d =
    let split : (k p q s t : ℕ) → times k (sum4 (times p a) (times q b) (times s c) (times t d))
    ≡ sum4 (times k (times p a)) (times k (times q b)) (times k (times s c)) (times k (times t d)) =
    λ k p q s t. times-sum4 k (times p a) (times q b) (times s c) (times t d) in
    (λ i. sum4 (split (slice_index n (4 * r)) (slice_index m 0) (slice_index m 1) (slice_index m 2) (slice_index m 3) i)
    (split (slice_index n (4 * r + 1)) (slice_index m 4) (slice_index m 5) (slice_index m 6) (slice_index m 7) i)
    (split (slice_index n (4 * r + 2)) (slice_index m 8) (slice_index m 9) (slice_index m 10) (slice_index m 11) i)
    (split (slice_index n (4 * r + 3)) (slice_index m 12) (slice_index m 13) (slice_index m 14) (slice_index m 15) i))
    ∙ sum4-turned
    (times (slice_index n (4 * r)) (times (slice_index m 0) a)) (times (slice_index n (4 * r)) (times (slice_index m 1) b)) (times (slice_index n (4 * r)) (times (slice_index m 2) c)) (times (slice_index n (4 * r)) (times (slice_index m 3) d))
    (times (slice_index n (4 * r + 1)) (times (slice_index m 4) a)) (times (slice_index n (4 * r + 1)) (times (slice_index m 5) b)) (times (slice_index n (4 * r + 1)) (times (slice_index m 6) c)) (times (slice_index n (4 * r + 1)) (times (slice_index m 7) d))
    (times (slice_index n (4 * r + 2)) (times (slice_index m 8) a)) (times (slice_index n (4 * r + 2)) (times (slice_index m 9) b)) (times (slice_index n (4 * r + 2)) (times (slice_index m 10) c)) (times (slice_index n (4 * r + 2)) (times (slice_index m 11) d))
    (times (slice_index n (4 * r + 3)) (times (slice_index m 12) a)) (times (slice_index n (4 * r + 3)) (times (slice_index m 13) b)) (times (slice_index n (4 * r + 3)) (times (slice_index m 14) c)) (times (slice_index n (4 * r + 3)) (times (slice_index m 15) d))

unmixed_00 : (b : ℕ) → b < 256 → twice inv_mix_matrix 0 2 1 1 3 b ≡ b
unfolding times product remainder
unmixed_00 = same_at (twice inv_mix_matrix 0 2 1 1 3) (λ b. b) refl

unmixed_01 : (b : ℕ) → b < 256 → twice inv_mix_matrix 0 3 2 1 1 b ≡ 0
unfolding times product remainder
unmixed_01 = same_at (twice inv_mix_matrix 0 3 2 1 1) (λ _. 0) refl

unmixed_02 : (b : ℕ) → b < 256 → twice inv_mix_matrix 0 1 3 2 1 b ≡ 0
unfolding times product remainder
unmixed_02 = same_at (twice inv_mix_matrix 0 1 3 2 1) (λ _. 0) refl

unmixed_03 : (b : ℕ) → b < 256 → twice inv_mix_matrix 0 1 1 3 2 b ≡ 0
unfolding times product remainder
unmixed_03 = same_at (twice inv_mix_matrix 0 1 1 3 2) (λ _. 0) refl

pub unmixed_0 : (a b c d : ℕ) → a < 256 → b < 256 → c < 256 → d < 256
    → row_times inv_mix_matrix 0 (row_times mix_matrix 0 a b c d) (row_times mix_matrix 1 a b c d) (row_times mix_matrix 2 a b c d) (row_times mix_matrix 3 a b c d) ≡ a
unmixed_0 a b c d ha hb hc hd =
    rows_twice inv_mix_matrix mix_matrix 0 a b c d
    ∙ (λ i. sum4 (unmixed_00 a ha i) (unmixed_01 b hb i) (unmixed_02 c hc i) (unmixed_03 d hd i))
    ∙ ap (λ (x : ℕ). bit_xor x 0) (xor_zero_r a) ∙ xor_zero_r a

unmixed_10 : (b : ℕ) → b < 256 → twice inv_mix_matrix 1 2 1 1 3 b ≡ 0
unfolding times product remainder
unmixed_10 = same_at (twice inv_mix_matrix 1 2 1 1 3) (λ _. 0) refl

unmixed_11 : (b : ℕ) → b < 256 → twice inv_mix_matrix 1 3 2 1 1 b ≡ b
unfolding times product remainder
unmixed_11 = same_at (twice inv_mix_matrix 1 3 2 1 1) (λ b. b) refl

unmixed_12 : (b : ℕ) → b < 256 → twice inv_mix_matrix 1 1 3 2 1 b ≡ 0
unfolding times product remainder
unmixed_12 = same_at (twice inv_mix_matrix 1 1 3 2 1) (λ _. 0) refl

unmixed_13 : (b : ℕ) → b < 256 → twice inv_mix_matrix 1 1 1 3 2 b ≡ 0
unfolding times product remainder
unmixed_13 = same_at (twice inv_mix_matrix 1 1 1 3 2) (λ _. 0) refl

pub unmixed_1 : (a b c d : ℕ) → a < 256 → b < 256 → c < 256 → d < 256
    → row_times inv_mix_matrix 1 (row_times mix_matrix 0 a b c d) (row_times mix_matrix 1 a b c d) (row_times mix_matrix 2 a b c d) (row_times mix_matrix 3 a b c d) ≡ b
unmixed_1 a b c d ha hb hc hd =
    rows_twice inv_mix_matrix mix_matrix 1 a b c d
    ∙ (λ i. sum4 (unmixed_10 a ha i) (unmixed_11 b hb i) (unmixed_12 c hc i) (unmixed_13 d hd i))
    ∙ xor_zero_r b

unmixed_20 : (b : ℕ) → b < 256 → twice inv_mix_matrix 2 2 1 1 3 b ≡ 0
unfolding times product remainder
unmixed_20 = same_at (twice inv_mix_matrix 2 2 1 1 3) (λ _. 0) refl

unmixed_21 : (b : ℕ) → b < 256 → twice inv_mix_matrix 2 3 2 1 1 b ≡ 0
unfolding times product remainder
unmixed_21 = same_at (twice inv_mix_matrix 2 3 2 1 1) (λ _. 0) refl

unmixed_22 : (b : ℕ) → b < 256 → twice inv_mix_matrix 2 1 3 2 1 b ≡ b
unfolding times product remainder
unmixed_22 = same_at (twice inv_mix_matrix 2 1 3 2 1) (λ b. b) refl

unmixed_23 : (b : ℕ) → b < 256 → twice inv_mix_matrix 2 1 1 3 2 b ≡ 0
unfolding times product remainder
unmixed_23 = same_at (twice inv_mix_matrix 2 1 1 3 2) (λ _. 0) refl

pub unmixed_2 : (a b c d : ℕ) → a < 256 → b < 256 → c < 256 → d < 256
    → row_times inv_mix_matrix 2 (row_times mix_matrix 0 a b c d) (row_times mix_matrix 1 a b c d) (row_times mix_matrix 2 a b c d) (row_times mix_matrix 3 a b c d) ≡ c
unmixed_2 a b c d ha hb hc hd =
    rows_twice inv_mix_matrix mix_matrix 2 a b c d
    ∙ (λ i. sum4 (unmixed_20 a ha i) (unmixed_21 b hb i) (unmixed_22 c hc i) (unmixed_23 d hd i))
    ∙ xor_zero_r c

unmixed_30 : (b : ℕ) → b < 256 → twice inv_mix_matrix 3 2 1 1 3 b ≡ 0
unfolding times product remainder
unmixed_30 = same_at (twice inv_mix_matrix 3 2 1 1 3) (λ _. 0) refl

unmixed_31 : (b : ℕ) → b < 256 → twice inv_mix_matrix 3 3 2 1 1 b ≡ 0
unfolding times product remainder
unmixed_31 = same_at (twice inv_mix_matrix 3 3 2 1 1) (λ _. 0) refl

unmixed_32 : (b : ℕ) → b < 256 → twice inv_mix_matrix 3 1 3 2 1 b ≡ 0
unfolding times product remainder
unmixed_32 = same_at (twice inv_mix_matrix 3 1 3 2 1) (λ _. 0) refl

unmixed_33 : (b : ℕ) → b < 256 → twice inv_mix_matrix 3 1 1 3 2 b ≡ b
unfolding times product remainder
unmixed_33 = same_at (twice inv_mix_matrix 3 1 1 3 2) (λ b. b) refl

pub unmixed_3 : (a b c d : ℕ) → a < 256 → b < 256 → c < 256 → d < 256
    → row_times inv_mix_matrix 3 (row_times mix_matrix 0 a b c d) (row_times mix_matrix 1 a b c d) (row_times mix_matrix 2 a b c d) (row_times mix_matrix 3 a b c d) ≡ d
unmixed_3 a b c d ha hb hc hd =
    rows_twice inv_mix_matrix mix_matrix 3 a b c d
    ∙ (λ i. sum4 (unmixed_30 a ha i) (unmixed_31 b hb i) (unmixed_32 c hc i) (unmixed_33 d hd i))
    ∙ refl

mixed_00 : (b : ℕ) → b < 256 → twice mix_matrix 0 14 9 13 11 b ≡ b
unfolding times product remainder
mixed_00 = same_at (twice mix_matrix 0 14 9 13 11) (λ b. b) refl

mixed_01 : (b : ℕ) → b < 256 → twice mix_matrix 0 11 14 9 13 b ≡ 0
unfolding times product remainder
mixed_01 = same_at (twice mix_matrix 0 11 14 9 13) (λ _. 0) refl

mixed_02 : (b : ℕ) → b < 256 → twice mix_matrix 0 13 11 14 9 b ≡ 0
unfolding times product remainder
mixed_02 = same_at (twice mix_matrix 0 13 11 14 9) (λ _. 0) refl

mixed_03 : (b : ℕ) → b < 256 → twice mix_matrix 0 9 13 11 14 b ≡ 0
unfolding times product remainder
mixed_03 = same_at (twice mix_matrix 0 9 13 11 14) (λ _. 0) refl

pub mixed_0 : (a b c d : ℕ) → a < 256 → b < 256 → c < 256 → d < 256
    → row_times mix_matrix 0 (row_times inv_mix_matrix 0 a b c d) (row_times inv_mix_matrix 1 a b c d) (row_times inv_mix_matrix 2 a b c d) (row_times inv_mix_matrix 3 a b c d) ≡ a
mixed_0 a b c d ha hb hc hd =
    rows_twice mix_matrix inv_mix_matrix 0 a b c d
    ∙ (λ i. sum4 (mixed_00 a ha i) (mixed_01 b hb i) (mixed_02 c hc i) (mixed_03 d hd i))
    ∙ ap (λ (x : ℕ). bit_xor x 0) (xor_zero_r a) ∙ xor_zero_r a

mixed_10 : (b : ℕ) → b < 256 → twice mix_matrix 1 14 9 13 11 b ≡ 0
unfolding times product remainder
mixed_10 = same_at (twice mix_matrix 1 14 9 13 11) (λ _. 0) refl

mixed_11 : (b : ℕ) → b < 256 → twice mix_matrix 1 11 14 9 13 b ≡ b
unfolding times product remainder
mixed_11 = same_at (twice mix_matrix 1 11 14 9 13) (λ b. b) refl

mixed_12 : (b : ℕ) → b < 256 → twice mix_matrix 1 13 11 14 9 b ≡ 0
unfolding times product remainder
mixed_12 = same_at (twice mix_matrix 1 13 11 14 9) (λ _. 0) refl

mixed_13 : (b : ℕ) → b < 256 → twice mix_matrix 1 9 13 11 14 b ≡ 0
unfolding times product remainder
mixed_13 = same_at (twice mix_matrix 1 9 13 11 14) (λ _. 0) refl

pub mixed_1 : (a b c d : ℕ) → a < 256 → b < 256 → c < 256 → d < 256
    → row_times mix_matrix 1 (row_times inv_mix_matrix 0 a b c d) (row_times inv_mix_matrix 1 a b c d) (row_times inv_mix_matrix 2 a b c d) (row_times inv_mix_matrix 3 a b c d) ≡ b
mixed_1 a b c d ha hb hc hd =
    rows_twice mix_matrix inv_mix_matrix 1 a b c d
    ∙ (λ i. sum4 (mixed_10 a ha i) (mixed_11 b hb i) (mixed_12 c hc i) (mixed_13 d hd i))
    ∙ xor_zero_r b

mixed_20 : (b : ℕ) → b < 256 → twice mix_matrix 2 14 9 13 11 b ≡ 0
unfolding times product remainder
mixed_20 = same_at (twice mix_matrix 2 14 9 13 11) (λ _. 0) refl

mixed_21 : (b : ℕ) → b < 256 → twice mix_matrix 2 11 14 9 13 b ≡ 0
unfolding times product remainder
mixed_21 = same_at (twice mix_matrix 2 11 14 9 13) (λ _. 0) refl

mixed_22 : (b : ℕ) → b < 256 → twice mix_matrix 2 13 11 14 9 b ≡ b
unfolding times product remainder
mixed_22 = same_at (twice mix_matrix 2 13 11 14 9) (λ b. b) refl

mixed_23 : (b : ℕ) → b < 256 → twice mix_matrix 2 9 13 11 14 b ≡ 0
unfolding times product remainder
mixed_23 = same_at (twice mix_matrix 2 9 13 11 14) (λ _. 0) refl

pub mixed_2 : (a b c d : ℕ) → a < 256 → b < 256 → c < 256 → d < 256
    → row_times mix_matrix 2 (row_times inv_mix_matrix 0 a b c d) (row_times inv_mix_matrix 1 a b c d) (row_times inv_mix_matrix 2 a b c d) (row_times inv_mix_matrix 3 a b c d) ≡ c
mixed_2 a b c d ha hb hc hd =
    rows_twice mix_matrix inv_mix_matrix 2 a b c d
    ∙ (λ i. sum4 (mixed_20 a ha i) (mixed_21 b hb i) (mixed_22 c hc i) (mixed_23 d hd i))
    ∙ xor_zero_r c

mixed_30 : (b : ℕ) → b < 256 → twice mix_matrix 3 14 9 13 11 b ≡ 0
unfolding times product remainder
mixed_30 = same_at (twice mix_matrix 3 14 9 13 11) (λ _. 0) refl

mixed_31 : (b : ℕ) → b < 256 → twice mix_matrix 3 11 14 9 13 b ≡ 0
unfolding times product remainder
mixed_31 = same_at (twice mix_matrix 3 11 14 9 13) (λ _. 0) refl

mixed_32 : (b : ℕ) → b < 256 → twice mix_matrix 3 13 11 14 9 b ≡ 0
unfolding times product remainder
mixed_32 = same_at (twice mix_matrix 3 13 11 14 9) (λ _. 0) refl

mixed_33 : (b : ℕ) → b < 256 → twice mix_matrix 3 9 13 11 14 b ≡ b
unfolding times product remainder
mixed_33 = same_at (twice mix_matrix 3 9 13 11 14) (λ b. b) refl

pub mixed_3 : (a b c d : ℕ) → a < 256 → b < 256 → c < 256 → d < 256
    → row_times mix_matrix 3 (row_times inv_mix_matrix 0 a b c d) (row_times inv_mix_matrix 1 a b c d) (row_times inv_mix_matrix 2 a b c d) (row_times inv_mix_matrix 3 a b c d) ≡ d
mixed_3 a b c d ha hb hc hd =
    rows_twice mix_matrix inv_mix_matrix 3 a b c d
    ∙ (λ i. sum4 (mixed_30 a ha i) (mixed_31 b hb i) (mixed_32 c hc i) (mixed_33 d hd i))
    ∙ refl

times_1-lt : (b : ℕ) → b < 256 → times 1 b < 256
unfolding times product remainder
times_1-lt b h = let e : times 1 b ≡ times 1 b % 256 = same_at (times 1) (λ b. times 1 b % 256) refl b h in omega (arith, e)

pub times_2-lt : (b : ℕ) → b < 256 → times 2 b < 256
unfolding times product remainder
times_2-lt b h = let e : times 2 b ≡ times 2 b % 256 = same_at (times 2) (λ b. times 2 b % 256) refl b h in omega (arith, e)

times_3-lt : (b : ℕ) → b < 256 → times 3 b < 256
unfolding times product remainder
times_3-lt b h = let e : times 3 b ≡ times 3 b % 256 = same_at (times 3) (λ b. times 3 b % 256) refl b h in omega (arith, e)

times_9-lt : (b : ℕ) → b < 256 → times 9 b < 256
unfolding times product remainder
times_9-lt b h = let e : times 9 b ≡ times 9 b % 256 = same_at (times 9) (λ b. times 9 b % 256) refl b h in omega (arith, e)

times_11-lt : (b : ℕ) → b < 256 → times 11 b < 256
unfolding times product remainder
times_11-lt b h = let e : times 11 b ≡ times 11 b % 256 = same_at (times 11) (λ b. times 11 b % 256) refl b h in omega (arith, e)

times_13-lt : (b : ℕ) → b < 256 → times 13 b < 256
unfolding times product remainder
times_13-lt b h = let e : times 13 b ≡ times 13 b % 256 = same_at (times 13) (λ b. times 13 b % 256) refl b h in omega (arith, e)

times_14-lt : (b : ℕ) → b < 256 → times 14 b < 256
unfolding times product remainder
times_14-lt b h = let e : times 14 b ≡ times 14 b % 256 = same_at (times 14) (λ b. times 14 b % 256) refl b h in omega (arith, e)

sum4-lt : (a b c d : ℕ) → a < 256 → b < 256 → c < 256 → d < 256 → sum4 a b c d < 256
sum4-lt a b c d ha hb hc hd = xor_lt 8 (bit_xor a b) (bit_xor c d) (xor_lt 8 a b ha hb) (xor_lt 8 c d hc hd)

-- the product of a matrix and a column has bytes
abbrev pub AllRowsBelow : List ℕ → ℕ → ℕ → ℕ → ℕ → Type 0
AllRowsBelow m a b c d =
    (row_times m 0 a b c d < 256) × (row_times m 1 a b c d < 256) × (row_times m 2 a b c d < 256) × (row_times m 3 a b c d < 256)

pub mix_rows-lt : (a b c d : ℕ) → a < 256 → b < 256 → c < 256 → d < 256 → AllRowsBelow mix_matrix a b c d
unfolding row_times
mix_rows-lt a b c d ha hb hc hd = (
  sum4-lt _ _ _ _ (times_2-lt a ha) (times_3-lt b hb) (times_1-lt c hc) (times_1-lt d hd),
  sum4-lt _ _ _ _ (times_1-lt a ha) (times_2-lt b hb) (times_3-lt c hc) (times_1-lt d hd),
  sum4-lt _ _ _ _ (times_1-lt a ha) (times_1-lt b hb) (times_2-lt c hc) (times_3-lt d hd),
  sum4-lt _ _ _ _ (times_3-lt a ha) (times_1-lt b hb) (times_1-lt c hc) (times_2-lt d hd),
)

pub inv_mix_rows-lt : (a b c d : ℕ) → a < 256 → b < 256 → c < 256 → d < 256 → AllRowsBelow inv_mix_matrix a b c d
unfolding row_times
inv_mix_rows-lt a b c d ha hb hc hd = (
  sum4-lt _ _ _ _ (times_14-lt a ha) (times_11-lt b hb) (times_13-lt c hc) (times_9-lt d hd),
  sum4-lt _ _ _ _ (times_9-lt a ha) (times_14-lt b hb) (times_11-lt c hc) (times_13-lt d hd),
  sum4-lt _ _ _ _ (times_13-lt a ha) (times_9-lt b hb) (times_14-lt c hc) (times_11-lt d hd),
  sum4-lt _ _ _ _ (times_11-lt a ha) (times_13-lt b hb) (times_9-lt c hc) (times_14-lt d hd),
)
