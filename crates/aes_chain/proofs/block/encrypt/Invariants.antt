use Rattle.std.proofs.Common.{◌≡◌, ◌-◌}
use Rattle.aes_chain.specs.Cipher.{rounds}
use Rattle.aes_chain.specs.Words.{keys_at, state_at}
use Rattle.aes_chain.proofs.block.encrypt.Given as goal

abbrev pub invariant-loop-r : goal.invariant-loop-r
invariant-loop-r l = state_at l.s 0 ≡ rounds (keys_at l.words) (state_at l.fn.block 0) (l.r - 1)
