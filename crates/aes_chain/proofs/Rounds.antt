-- The loops over the rounds, and the equivalent inverse cipher against the inverse cipher.
use Rattle.std.proofs.Common.{◌≡◌, ◌<◌, ◌≤◌, ◌+◌, ◌-◌, ℕ, zero, suc, Bool, true, false, List, ltb, cond, ◌&&◌, refl, sym, ap, ◌∙◌, arith}
use Rattle.std.proofs.Math.Bool.{and-false}
use Rattle.std.proofs.lemmas.Bool.{lt-ltb, le-ltb}
use Rattle.aes_chain.specs.State.{sub_bytes, inv_sub_bytes, shift_rows, inv_shift_rows, inv_mix_matrix, mix_columns, inv_mix_columns, added}
use Rattle.aes_chain.specs.Cipher.{rounds, cipher, inv_rounds, inv_cipher}
use Rattle.aes_chain.specs.Words.{eq_inv_rounds, eq_inv_cipher, inv_key}
use Rattle.aes_chain.proofs.Steps.{columns_times-added}

-- one round more
pub rounds_more : (keys : ℕ → List ℕ) (s : List ℕ) (r : ℕ) → 1 ≤ r
    → rounds keys s (r + 1 - 1) ≡ added (mix_columns (shift_rows (sub_bytes (rounds keys s (r - 1))))) (keys r)
unfolding rounds
rounds_more keys s r h =
    let count : r + 1 - 1 ≡ suc (r - 1) = omega arith in
    let place : suc (r - 1) ≡ r = omega arith in
    ap (rounds keys s) count ∙ ap (λ (k : ℕ). added (mix_columns (shift_rows (sub_bytes (rounds keys s (r - 1))))) (keys k)) place

pub eq_inv_rounds_more : (nr : ℕ) (keys : ℕ → List ℕ) (s : List ℕ) (n : ℕ) → 1 ≤ n
    → eq_inv_rounds nr keys s (n + 1 - 1)
    ≡ added (inv_mix_columns (inv_sub_bytes (inv_shift_rows (eq_inv_rounds nr keys s (n - 1))))) (keys (nr - n))
unfolding eq_inv_rounds
eq_inv_rounds_more nr keys s n h =
    let count : n + 1 - 1 ≡ suc (n - 1) = omega arith in
    let place : suc (n - 1) ≡ n = omega arith in
    ap (eq_inv_rounds nr keys s) count
    ∙ ap (λ (k : ℕ). added (inv_mix_columns (inv_sub_bytes (inv_shift_rows (eq_inv_rounds nr keys s (n - 1))))) (keys (nr - k))) place

-- the rounds read only the keys up to theirs
rounds-same : (keys other : ℕ → List ℕ) (s : List ℕ) (r : ℕ) → ((i : ℕ) → i ≤ r → keys i ≡ other i) → rounds keys s r ≡ rounds other s r
unfolding rounds
rounds-same keys other s zero h = ap (added s) (h 0 (omega arith))
rounds-same keys other s (suc r) h =
    let before = rounds-same keys other s r (λ i le. h i (omega arith)) in
    let last = h (suc r) (omega arith) in
    λ i. added (mix_columns (shift_rows (sub_bytes (before i)))) (last i)

pub cipher-same : (nr : ℕ) (keys other : ℕ → List ℕ) (s : List ℕ) → ((i : ℕ) → i ≤ nr → keys i ≡ other i) → cipher nr keys s ≡ cipher nr other s
unfolding cipher
cipher-same nr keys other s h =
    let before = rounds-same keys other s (nr - 1) (λ i le. h i (omega arith)) in
    let last = h nr (omega arith) in
    λ i. added (shift_rows (sub_bytes (before i))) (last i)

-- the round keys of the equivalent inverse cipher
pub inv_key-inner : (nr : ℕ) (keys : ℕ → List ℕ) (i : ℕ) → 0 < i → i < nr → inv_key nr keys i ≡ inv_mix_columns (keys i)
unfolding inv_key
inv_key-inner nr keys i low high =
    let below : ltb 0 i ≡ true = lt-ltb 0 i low in
    let above : ltb i nr ≡ true = lt-ltb i nr high in
    λ t. cond (below t && above t) (inv_mix_columns (keys i)) (keys i)

pub inv_key-first : (nr : ℕ) (keys : ℕ → List ℕ) → inv_key nr keys 0 ≡ keys 0
unfolding inv_key
inv_key-first nr keys = refl

pub inv_key-last : (nr : ℕ) (keys : ℕ → List ℕ) → inv_key nr keys nr ≡ keys nr
unfolding inv_key
inv_key-last nr keys =
    let above : ltb nr nr ≡ false = le-ltb nr nr (omega arith) in
    (λ t. cond (ltb 0 nr && above t) (inv_mix_columns (keys nr)) (keys nr))
    ∙ ap (λ (b : Bool). cond b (inv_mix_columns (keys nr)) (keys nr)) (and-false (ltb 0 nr))

module _ (nr : ℕ) (keys other : ℕ → List ℕ) (s : List ℕ) (some : 0 < nr) (are : (i : ℕ) → i ≤ nr → other i ≡ inv_key nr keys i) where
  eq_inv_rounds-inv_rounds : (n : ℕ) → n < nr → eq_inv_rounds nr other s n ≡ inv_rounds nr keys s n
  unfolding eq_inv_rounds inv_rounds
  eq_inv_rounds-inv_rounds zero h = ap (added s) (are nr (omega arith) ∙ inv_key-last nr keys)
  eq_inv_rounds-inv_rounds (suc n) h =
      let before = eq_inv_rounds-inv_rounds n (omega arith) in
      let k : ℕ = nr - suc n in
      let key : other k ≡ inv_mix_columns (keys k) = are k (omega arith) ∙ inv_key-inner nr keys k (omega arith) (omega arith) in
      (λ i. added (inv_mix_columns (inv_sub_bytes (inv_shift_rows (before i)))) (key i))
      ∙ sym (columns_times-added inv_mix_matrix (inv_sub_bytes (inv_shift_rows (inv_rounds nr keys s n))) (keys k))

  pub eq_inv_cipher-inv_cipher : eq_inv_cipher nr other s ≡ inv_cipher nr keys s
  unfolding eq_inv_cipher inv_cipher
  eq_inv_cipher-inv_cipher =
      let before = eq_inv_rounds-inv_rounds (nr - 1) (omega arith) in
      let last : other 0 ≡ keys 0 = are 0 (omega arith) ∙ inv_key-first nr keys in
      λ i. added (inv_sub_bytes (inv_shift_rows (before i))) (last i)
