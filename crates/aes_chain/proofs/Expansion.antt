-- The key expansion, as the program keeps it: words of 32 bits in a list.
use Rattle.std.proofs.Common.{◌≡◌, ◌≢◌, ◌<◌, ◌≤◌, ◌+◌, ◌-◌, ◌*◌, ◌/◌, ◌%◌, ℕ, zero, suc, Bool, cond, eqb, ◌&&◌, eq-eqb, ne_eqb, subst, List, [], ◌∷◌, ◌++◌, bit_xor, length, map, take, slice_index, slice_set, refl, sym, ap, ◌∙◌, arith, add-one, lit<}
use Rattle.std.specs.Int.{w32, byte_at, to_le_bytes, from_le_bytes}
use Rattle.std.specs.List.{concat}
use Rattle.std.proofs.lemmas.List.{get_or-map, get_or-take, take_more, take_more_set, append_assoc, length-take-le, map-append, append-nil, take_all}
use Rattle.std.proofs.lemmas.List.Folds.{concat-append}
use Rattle.aes_chain.specs.Field.{s_box}
use Rattle.aes_chain.specs.State.{state, columns_times, inv_mix_matrix, inv_mix_columns}
use Rattle.aes_chain.specs.Schedule.{word_in, word_sum, rot_word, sub_word, power_of_x, round_constant, added_word, next_word, key_words, expanded, key_expansion, round_key}
use Rattle.aes_chain.specs.Words.{state_at, column_times, words_of, bytes_of}
use Rattle.std.proofs.Math.Bool.{and-false}
use Rattle.std.proofs.lemmas.Nat.{div_below, xor_lt}
use lib.Bits.{xor_zero_r}
use Rattle.aes_chain.proofs.Columns.{to_le_bytes-xor, bytes_four}
use Rattle.aes_chain.proofs.Boxes.{ROUND_CONSTANTS-is}
use Rattle.aes_chain.proofs.Keys.{power_of_x-lt}
use Rattle.aes_chain.specs.declared.tables.TheConstants.{ROUND_CONSTANTS}

-- a write after the first i words adds a word to them
pub words_of-more : (words : List ℕ) (i w : ℕ) → i < length words → words_of (slice_set words i w) (i + 1) ≡ words_of words i ++ to_le_bytes w32 w ∷ []
words_of-more words i w h = ap (map (to_le_bytes w32)) (take_more_set words i w h) ∙ map-append (to_le_bytes w32) (take i words) (w ∷ [])

-- a word among the first n
pub word_in-words_of : (words : List ℕ) (n k : ℕ) → k < n → n ≤ length words → word_in (words_of words n) k ≡ to_le_bytes w32 (slice_index words k)
word_in-words_of words n k low high =
    let within : k < length (take n words) = omega (arith, length-take-le n words high) in
    get_or-map (to_le_bytes w32) (take n words) k 0 [] within ∙ ap (to_le_bytes w32) (get_or-take n words k 0 low)

pub key_words_more : (key : List ℕ) (n : ℕ) → key_words key (n + 1)
    ≡ key_words key n ++ (slice_index key (4 * n) ∷ slice_index key (4 * n + 1) ∷ slice_index key (4 * n + 2) ∷ slice_index key (4 * n + 3) ∷ []) ∷ []
unfolding key_words
key_words_more key n = ap (key_words key) (add-one n)

-- one word more of the expansion
pub expanded_more : (nk i : ℕ) (words : List ℕ) (first : List (List ℕ)) (w : ℕ) → 1 ≤ nk → nk ≤ i → i < length words
    → words_of words i ≡ expanded nk first (i - nk) → to_le_bytes w32 w ≡ added_word nk i (to_le_bytes w32 (slice_index words (i - 1)))
    → words_of (slice_set words i (bit_xor (slice_index words (i - nk)) w)) (i + 1) ≡ expanded nk first (i + 1 - nk)
unfolding expanded next_word word_sum
expanded_more nk i words first w some later within before is =
    let x : ℕ = slice_index words (i - nk) in
    let first_word : word_in (words_of words i) (i - nk) ≡ to_le_bytes w32 x = word_in-words_of words i (i - nk) (omega arith) (omega arith) in
    let last_word : word_in (words_of words i) (i - 1) ≡ to_le_bytes w32 (slice_index words (i - 1)) =
    word_in-words_of words i (i - 1) (omega arith) (omega arith) in
    let added : to_le_bytes w32 w ≡ added_word nk i (word_in (words_of words i) (i - 1)) = is ∙ ap (added_word nk i) (sym last_word) in
    let next : to_le_bytes w32 (bit_xor x w) ≡ next_word nk (words_of words i) i =
    to_le_bytes-xor x w ∙ (λ t. word_sum (sym first_word t) (added t)) in
    let count : i + 1 - nk ≡ suc (i - nk) = omega arith in
    let place : i ≡ nk + (i - nk) = omega arith in
    words_of-more words i (bit_xor x w) within
    ∙ (λ t. words_of words i ++ next t ∷ [])
    ∙ (λ t. before t ++ next_word nk (before t) (place t) ∷ [])
    ∙ ap (expanded nk first) (sym count)

-- the words of a key, joined, are the key
concat-key_words : (key : List ℕ) (n : ℕ) → 4 * n ≤ length key → concat (key_words key n) ≡ take (4 * n) key
unfolding key_words
concat-key_words key zero h = refl
concat-key_words key (suc n) h =
    let i : ℕ = 4 * n in
    let before = concat-key_words key n (omega arith) in
    let count : 4 * suc n ≡ i + 1 + 1 + 1 + 1 = omega arith in
    let two : i + 1 + 1 ≡ i + 2 = omega arith in
    let three : i + 1 + 1 + 1 ≡ i + 3 = omega arith in
    let a : ℕ = slice_index key i in
    let b : ℕ = slice_index key (i + 1) in
    let c : ℕ = slice_index key (i + 2) in
    let d : ℕ = slice_index key (i + 3) in
    let four : take (i + 1 + 1 + 1 + 1) key ≡ ((((take i key ++ a ∷ []) ++ b ∷ []) ++ c ∷ []) ++ d ∷ []) =
    take_more key (i + 1 + 1 + 1) 0 (omega arith)
    ∙ (λ t. take_more key (i + 1 + 1) 0 (omega arith) t ++ slice_index key (three t) ∷ [])
    ∙ (λ t. (take_more key (i + 1) 0 (omega arith) t ++ slice_index key (two t) ∷ []) ++ d ∷ [])
    ∙ (λ t. ((take_more key i 0 (omega arith) t ++ b ∷ []) ++ c ∷ []) ++ d ∷ []) in
    concat-append (key_words key n) ((a ∷ b ∷ c ∷ d ∷ []) ∷ [])
    ∙ (λ t. before t ++ append-nil (a ∷ b ∷ c ∷ d ∷ []) t)
    ∙ sym (four
    ∙ append_assoc ((take i key ++ a ∷ []) ++ b ∷ []) (c ∷ []) (d ∷ [])
    ∙ append_assoc (take i key ++ a ∷ []) (b ∷ []) (c ∷ d ∷ [])
    ∙ append_assoc (take i key) (a ∷ []) (b ∷ c ∷ d ∷ []))
    ∙ ap (λ (m : ℕ). take m key) (sym count)

pub bytes_of-key : (key words : List ℕ) (n : ℕ) → length key ≡ 4 * n → words_of words n ≡ key_words key n → bytes_of words n ≡ key
bytes_of-key key words n len e = ap concat e ∙ concat-key_words key n (omega arith) ∙ take_all (4 * n) key (omega arith)

-- states are the same where their sixteen places are
state_cells : (f g : ℕ → ℕ → ℕ) → ((r c : ℕ) → r < 4 → c < 4 → f r c ≡ g r c) → state f ≡ state g
unfolding state
state_cells f g p = λ i.
    p 0 0 (lit< tt) (lit< tt) i ∷ p 1 0 (lit< tt) (lit< tt) i ∷ p 2 0 (lit< tt) (lit< tt) i ∷ p 3 0 (lit< tt) (lit< tt) i
    ∷ p 0 1 (lit< tt) (lit< tt) i ∷ p 1 1 (lit< tt) (lit< tt) i ∷ p 2 1 (lit< tt) (lit< tt) i ∷ p 3 1 (lit< tt) (lit< tt) i
    ∷ p 0 2 (lit< tt) (lit< tt) i ∷ p 1 2 (lit< tt) (lit< tt) i ∷ p 2 2 (lit< tt) (lit< tt) i ∷ p 3 2 (lit< tt) (lit< tt) i
    ∷ p 0 3 (lit< tt) (lit< tt) i ∷ p 1 3 (lit< tt) (lit< tt) i ∷ p 2 3 (lit< tt) (lit< tt) i ∷ p 3 3 (lit< tt) (lit< tt) i ∷ []

to_le_bytes-at : (w r : ℕ) → r < 4 → slice_index (to_le_bytes w32 w) r ≡ byte_at r w
to_le_bytes-at w zero h = refl
to_le_bytes-at w (suc zero) h = refl
to_le_bytes-at w (suc (suc zero)) h = refl
to_le_bytes-at w (suc (suc (suc zero))) h = refl
to_le_bytes-at w (suc (suc (suc (suc r)))) h = absurd (omega arith)

-- the round keys among the words
pub state_at-round_key : (key words : List ℕ) (n i : ℕ) → words_of words n ≡ key_expansion key → n ≤ length words → 4 * i + 4 ≤ n
    → state_at words (4 * i) ≡ round_key key i
unfolding state_at round_key
state_at-round_key key words n i e len fits =
    state_cells (λ r c. byte_at r (slice_index words (4 * i + c))) (λ r c. slice_index (word_in (key_expansion key) (4 * i + c)) r)
    (λ r c low below.
    sym (to_le_bytes-at (slice_index words (4 * i + c)) r low)
    ∙ ap (λ (w : List ℕ). slice_index w r) (sym (word_in-words_of words n (4 * i + c) (omega arith) len))
    ∙ ap (λ (ws : List (List ℕ)). slice_index (word_in ws (4 * i + c)) r) e)

-- InvMixColumns of a column
abbrev pub IsInvMixed : ℕ → ℕ → Type 0
IsInvMixed v w = to_le_bytes w32 v ≡ column_times inv_mix_matrix (byte_at 0 w) (byte_at 1 w) (byte_at 2 w) (byte_at 3 w)

-- words that are so column by column are so as a state
pub inv_mixed_state : (inverse words : List ℕ) (j : ℕ) → ((c : ℕ) → c < 4 → IsInvMixed (slice_index inverse (j + c)) (slice_index words (j + c)))
    → state_at inverse j ≡ inv_mix_columns (state_at words j)
unfolding state_at state columns_times
inv_mixed_state inverse words j h = λ i.
    h 0 (lit< tt) i ++ (h 1 (lit< tt) i ++ (h 2 (lit< tt) i ++ h 3 (lit< tt) i))

-- words that are the same are the same state
pub same_state : (inverse words : List ℕ) (j : ℕ) → ((c : ℕ) → c < 4 → slice_index inverse (j + c) ≡ slice_index words (j + c))
    → state_at inverse j ≡ state_at words j
unfolding state_at
same_state inverse words j h =
    state_cells (λ r c. byte_at r (slice_index inverse (j + c))) (λ r c. byte_at r (slice_index words (j + c)))
    (λ r c low below. ap (byte_at r) (h c below))

-- the cases of what is added to a word
pub added_word-first : (nk i : ℕ) (w : List ℕ) → i % nk ≡ 0 → added_word nk i w ≡ word_sum (sub_word (rot_word w)) (round_constant (i / nk))
unfolding added_word
added_word-first nk i w h =
    λ t. cond (eq-eqb (i % nk) 0 h t) (word_sum (sub_word (rot_word w)) (round_constant (i / nk)))
    (cond (eqb nk 8 && eqb (i % nk) 4) (sub_word w) w)

later_word : (nk i : ℕ) (w : List ℕ) → i % nk ≢ 0 → added_word nk i w ≡ cond (eqb nk 8 && eqb (i % nk) 4) (sub_word w) w
unfolding added_word
later_word nk i w h =
    λ t. cond (ne_eqb (i % nk) 0 h t) (word_sum (sub_word (rot_word w)) (round_constant (i / nk)))
    (cond (eqb nk 8 && eqb (i % nk) 4) (sub_word w) w)

pub added_word-middle : (nk i : ℕ) (w : List ℕ) → i % nk ≢ 0 → nk ≡ 8 → i % nk ≡ 4 → added_word nk i w ≡ sub_word w
added_word-middle nk i w h eight four =
    later_word nk i w h ∙ (λ t. cond (eq-eqb nk 8 eight t && eq-eqb (i % nk) 4 four t) (sub_word w) w)

pub added_word-none_at : (nk i : ℕ) (w : List ℕ) → i % nk ≢ 0 → i % nk ≢ 4 → added_word nk i w ≡ w
added_word-none_at nk i w h four =
    later_word nk i w h ∙ (λ t. cond (eqb nk 8 && ne_eqb (i % nk) 4 four t) (sub_word w) w)
    ∙ ap (λ (b : Bool). cond b (sub_word w) w) (and-false (eqb nk 8))

pub added_word-none : (nk i : ℕ) (w : List ℕ) → i % nk ≢ 0 → nk ≢ 8 → added_word nk i w ≡ w
added_word-none nk i w h eight =
    later_word nk i w h ∙ (λ t. cond (ne_eqb nk 8 eight t && eqb (i % nk) 4) (sub_word w) w)

-- the first of the cases, from its bytes
pub first_word : (nk i a b c d n p q r s x : ℕ) → 4 ≤ nk → i < 4 * nk + 28 → i % nk ≡ 0
    → n ≡ from_le_bytes w32 (bit_xor q x ∷ r ∷ s ∷ p ∷ []) → p < 256 → q < 256 → r < 256 → s < 256
    → p ≡ s_box a → q ≡ s_box b → r ≡ s_box c → s ≡ s_box d → x ≡ slice_index ROUND_CONSTANTS (i / nk - 1)
    → to_le_bytes w32 n ≡ added_word nk i (a ∷ b ∷ c ∷ d ∷ [])
unfolding word_sum sub_word rot_word round_constant
first_word nk i a b c d n p q r s x some fits whole is lp lq lr ls ep eq er es ex =
    let few : i < 11 * nk = omega arith in
    let quotient : i / nk < 11 = div_below i nk 11 (omega arith) few in
    let constant : x ≡ power_of_x (i / nk - 1) = ex ∙ ROUND_CONSTANTS-is (i / nk - 1) (omega arith) in
    let small : x < 256 = subst (λ (y : ℕ). y < 256) (sym constant) (power_of_x-lt (i / nk - 1)) in
    bytes_four (bit_xor q x) r s p n is (xor_lt 8 q x lq small) lr ls lp
    ∙ (λ t. bit_xor (eq t) (constant t) ∷ er t ∷ es t ∷ ep t ∷ [])
    ∙ (λ t. bit_xor (s_box b) (power_of_x (i / nk - 1)) ∷ sym (xor_zero_r (s_box c)) t ∷ sym (xor_zero_r (s_box d)) t ∷ sym (xor_zero_r (s_box a)) t ∷ [])
    ∙ sym (added_word-first nk i (a ∷ b ∷ c ∷ d ∷ []) whole)
