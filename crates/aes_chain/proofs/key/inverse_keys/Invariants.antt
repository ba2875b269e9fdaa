use Rattle.std.proofs.Common.{◌≡◌, ◌≤◌, ◌<◌, ℕ, length, slice_index}
use Rattle.aes_chain.proofs.Expansion.{IsInvMixed}
use Rattle.aes_chain.proofs.key.inverse_keys.Given as goal

abbrev pub invariant-loop-i : goal.invariant-loop-i
invariant-loop-i l = record {
  mixed : (k : ℕ) → 4 ≤ k → k < l.i → IsInvMixed (slice_index l.inverse k) (slice_index l.fn.words k);
  first : (k : ℕ) → k < 4 → slice_index l.inverse k ≡ slice_index l.fn.words k;
  last : (k : ℕ) → l.i ≤ k → slice_index l.inverse k ≡ slice_index l.fn.words k;
  len : length l.inverse ≡ 60;
}
