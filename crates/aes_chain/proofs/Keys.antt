-- Round keys are made of bytes.
use Rattle.std.proofs.Common.{◌<◌, ◌+◌, ◌-◌, ◌*◌, ◌/◌, ◌%◌, ◌==◌, ◌&&◌, ℕ, zero, suc, Bool, true, false, cond, List, [], ◌∷◌, length, slice_index, bit_xor, arith, inl, inr}
use Rattle.std.proofs.lemmas.Bool.{cases_lt}
use Rattle.std.proofs.lemmas.List.{get_or_past}
use Rattle.std.proofs.lemmas.List.Elements.{All-from_recursion, All-push, All-nil}
use Rattle.std.proofs.lemmas.Nat.{xor_lt}
use Rattle.std.specs.Prelude.{All}
use Rattle.aes_chain.specs.Schedule.{word_in, word_sum, rot_word, sub_word, power_of_x, round_constant, added_word, next_word, key_words, expanded, key_len, key_expansion, round_key}
use Rattle.aes_chain.specs.Laws.{AreBytes}
use Rattle.aes_chain.proofs.States.{byte_lt, AreBytes_rows, s_box-lt}
use Rattle.aes_chain.proofs.Mixing.{times_2-lt}

-- each word has bytes
abbrev AreWords : List (List ℕ) → Type 0
AreWords ws = All (λ w. AreBytes w) ws

AreBytes_four : (a b c d : ℕ) → a < 256 → b < 256 → c < 256 → d < 256 → AreBytes (a ∷ b ∷ c ∷ d ∷ [])
AreBytes_four a b c d p q r s = All-from_recursion (λ b. b < 256) (a ∷ b ∷ c ∷ d ∷ []) (p, (q, (r, (s, tt))))

word_in-bytes : (ws : List (List ℕ)) → AreWords ws → (k : ℕ) → AreBytes (word_in ws k)
word_in-bytes ws all k = elim (cases_lt k (length ws)) [
  | inl lt ↦ all k [] lt
  | inr ge ↦ rw (get_or_past ws k [] ge) (All-nil (λ b. b < 256))
]

word_sum-bytes : (v w : List ℕ) → AreBytes v → AreBytes w → AreBytes (word_sum v w)
unfolding word_sum
word_sum-bytes v w p q =
    let at : (k : ℕ) → bit_xor (slice_index v k) (slice_index w k) < 256 =
    λ k. xor_lt 8 (slice_index v k) (slice_index w k) (byte_lt v p k) (byte_lt w q k) in
    AreBytes_four _ _ _ _ (at 0) (at 1) (at 2) (at 3)

sub_word-bytes : (w : List ℕ) → AreBytes (sub_word w)
unfolding sub_word
sub_word-bytes w = AreBytes_four _ _ _ _ (s_box-lt _) (s_box-lt _) (s_box-lt _) (s_box-lt _)

pub power_of_x-lt : (n : ℕ) → power_of_x n < 256
unfolding power_of_x
power_of_x-lt zero = omega arith
power_of_x-lt (suc n) = times_2-lt (power_of_x n) (power_of_x-lt n)

round_constant-bytes : (j : ℕ) → AreBytes (round_constant j)
unfolding round_constant
round_constant-bytes j = AreBytes_four _ _ _ _ (power_of_x-lt (j - 1)) (omega arith) (omega arith) (omega arith)

either_bytes : (b : Bool) (x y : List ℕ) → AreBytes x → AreBytes y → AreBytes (cond b x y)
either_bytes true x y p q = p
either_bytes false x y p q = q

added_word-bytes : (nk i : ℕ) (w : List ℕ) → AreBytes w → AreBytes (added_word nk i w)
unfolding added_word
added_word-bytes nk i w h =
    either_bytes (i % nk == 0) (word_sum (sub_word (rot_word w)) (round_constant (i / nk))) _
    (word_sum-bytes (sub_word (rot_word w)) (round_constant (i / nk)) (sub_word-bytes (rot_word w)) (round_constant-bytes (i / nk)))
    (either_bytes ((nk == 8) && (i % nk == 4)) (sub_word w) w (sub_word-bytes w) h)

next_word-bytes : (nk : ℕ) (ws : List (List ℕ)) (i : ℕ) → AreWords ws → AreBytes (next_word nk ws i)
unfolding next_word
next_word-bytes nk ws i h =
    word_sum-bytes (word_in ws (i - nk)) (added_word nk i (word_in ws (i - 1))) (word_in-bytes ws h (i - nk))
    (added_word-bytes nk i (word_in ws (i - 1)) (word_in-bytes ws h (i - 1)))

key_words-bytes : (key : List ℕ) → AreBytes key → (n : ℕ) → AreWords (key_words key n)
unfolding key_words
key_words-bytes key h zero = All-nil (λ w. AreBytes w)
key_words-bytes key h (suc n) =
    All-push (λ w. AreBytes w) (key_words key n)
    (slice_index key (4 * n) ∷ slice_index key (4 * n + 1) ∷ slice_index key (4 * n + 2) ∷ slice_index key (4 * n + 3) ∷ [])
    (key_words-bytes key h n)
    (AreBytes_four _ _ _ _ (byte_lt key h (4 * n)) (byte_lt key h (4 * n + 1)) (byte_lt key h (4 * n + 2)) (byte_lt key h (4 * n + 3)))

expanded-bytes : (nk : ℕ) (ws : List (List ℕ)) → AreWords ws → (n : ℕ) → AreWords (expanded nk ws n)
unfolding expanded
expanded-bytes nk ws h zero = h
expanded-bytes nk ws h (suc n) =
    let before = expanded-bytes nk ws h n in
    All-push (λ w. AreBytes w) (expanded nk ws n) (next_word nk (expanded nk ws n) (nk + n)) before
    (next_word-bytes nk (expanded nk ws n) (nk + n) before)

key_expansion-bytes : (key : List ℕ) → AreBytes key → AreWords (key_expansion key)
unfolding key_expansion
key_expansion-bytes key h =
    expanded-bytes (key_len key) (key_words key (key_len key)) (key_words-bytes key h (key_len key)) (3 * key_len key + 28)

pub round_key-bytes : (key : List ℕ) → AreBytes key → (i : ℕ) → AreBytes (round_key key i)
unfolding round_key
round_key-bytes key h i =
    let at : (r c : ℕ) → slice_index (word_in (key_expansion key) (4 * i + c)) r < 256 =
    λ r c. byte_lt (word_in (key_expansion key) (4 * i + c)) (word_in-bytes (key_expansion key) (key_expansion-bytes key h) (4 * i + c)) r in
    AreBytes_rows (λ r c. slice_index (word_in (key_expansion key) (4 * i + c)) r) (at 0) (at 1) (at 2) (at 3)
