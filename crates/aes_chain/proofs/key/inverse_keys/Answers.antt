use Rattle.std.proofs.Common.{ℕ, List, ap, ◌∙◌, ◌≡◌, ◌+◌, ◌*◌, ◌<◌, ◌≤◌, ◌≢◌, length, slice_index, slice_set, sym, arith, inl, inr}
use Rattle.std.specs.Int.{byte_at, to_le_bytes, w32}
use Rattle.std.proofs.lemmas.Bool.{cases_lt}
use Rattle.std.proofs.lemmas.List.{length-set, get_or-set_same, get_or-set_other}
use Rattle.aes_chain.specs.State.{inv_mix_matrix}
use Rattle.aes_chain.specs.Words.{column_times, inv_key, keys_at, state_at}
use Rattle.aes_chain.proofs.Expansion.{IsInvMixed, inv_mixed_state, same_state}
use Rattle.aes_chain.proofs.Rounds.{inv_key-first, inv_key-inner, inv_key-last}
use Rattle.aes_chain.proofs.key.inverse_keys.Goals as goal

-- the entry of a list after a write: the word that was written, or what stood there
mixed_more : (xs words : List ℕ) (i x : ℕ) → i < length xs → IsInvMixed x (slice_index words i)
    → ((k : ℕ) → 4 ≤ k → k < i → IsInvMixed (slice_index xs k) (slice_index words k))
    → (k : ℕ) → 4 ≤ k → k < i + 1 → IsInvMixed (slice_index (slice_set xs i x) k) (slice_index words k)
mixed_more xs words i x within is before k low high = elim (cases_lt k i) [
  | inl lt ↦
      let other : k ≢ i = omega arith in
      ap (to_le_bytes w32) (get_or-set_other xs i k x 0 other) ∙ before k low lt
  | inr ge ↦
      let e : k ≡ i = omega arith in
      let column : ℕ → List ℕ = λ w. column_times inv_mix_matrix (byte_at 0 w) (byte_at 1 w) (byte_at 2 w) (byte_at 3 w) in
      ap (λ (j : ℕ). to_le_bytes w32 (slice_index (slice_set xs i x) j)) e
      ∙ ap (to_le_bytes w32) (get_or-set_same xs i x 0 within) ∙ is
      ∙ ap (λ (j : ℕ). column (slice_index words j)) (sym e)
]

pub loop-i-preserved : goal.loop-i-preserved
loop-i-preserved c =
    let i : ℕ = c.loop-i.i in
    let x : ℕ = c.inv_mixed_word.result in
    let other : (k : ℕ) → k ≢ i → slice_index (slice_set c.loop-i.inverse i x) k ≡ slice_index c.loop-i.inverse k =
    λ k ne. get_or-set_other c.loop-i.inverse i k x 0 ne in
    record {
      mixed = mixed_more c.loop-i.inverse c.args.words.now i x (omega arith) c.inv_mixed_word.ensures c.loop-i.invariant.mixed;
      first = λ k h. other k (omega arith) ∙ c.loop-i.invariant.first k h;
      last = λ k h. other k (omega arith) ∙ c.loop-i.invariant.last k (omega arith);
      len = length-set c.loop-i.inverse i x ∙ c.loop-i.invariant.len;
    }

pub returns : goal.returns
returns c i h =
    let inverse : List ℕ = c.loop-i.inverse in
    let words : List ℕ = c.args.words.now in
    let nr : ℕ = c.args.rounds in
    let kept = c.loop-i.invariant in
    let end : c.loop-i.i ≡ 4 * nr = omega arith in
    elim (cases_lt 0 i) [
      | inr ge ↦
          let e : i ≡ 0 = omega arith in
          ap (λ (j : ℕ). state_at inverse (4 * j)) e
          ∙ same_state inverse words 0 (λ k lt. kept.first (0 + k) (omega arith))
          ∙ sym (inv_key-first nr (keys_at words)) ∙ ap (inv_key nr (keys_at words)) (sym e)
      | inl low ↦ elim (cases_lt i nr) [
        | inl high ↦
            inv_mixed_state inverse words (4 * i) (λ k lt. kept.mixed (4 * i + k) (omega arith) (omega arith))
            ∙ sym (inv_key-inner nr (keys_at words) i low high)
        | inr ge ↦
            let e : i ≡ nr = omega arith in
            ap (λ (j : ℕ). state_at inverse (4 * j)) e
            ∙ same_state inverse words (4 * nr) (λ k lt. kept.last (4 * nr + k) (omega arith))
            ∙ sym (inv_key-last nr (keys_at words)) ∙ ap (inv_key nr (keys_at words)) (sym e)
      ]
    ]
