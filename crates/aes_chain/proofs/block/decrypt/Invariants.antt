use Rattle.std.proofs.Common.{◌≡◌, ◌-◌}
use Rattle.aes_chain.specs.Words.{keys_at, state_at, eq_inv_rounds}
use Rattle.aes_chain.proofs.block.decrypt.Given as goal

abbrev pub invariant-loop-n : goal.invariant-loop-n
invariant-loop-n l = state_at l.s 0 ≡ eq_inv_rounds l.rounds (keys_at l.words) (state_at l.fn.block 0) (l.n - 1)
