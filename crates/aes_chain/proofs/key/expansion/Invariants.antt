use Rattle.std.proofs.Common.{◌≡◌, ◌-◌, take, length}
use Rattle.aes_chain.specs.Schedule.{expanded}
use Rattle.aes_chain.specs.Words.{words_of}
use Rattle.aes_chain.proofs.key.expansion.Given as goal

abbrev pub invariant-loop-i : goal.invariant-loop-i
invariant-loop-i l = record { is : words_of l.words l.i ≡ expanded l.key_len (words_of l.fn.first l.key_len) (l.i - l.key_len); kept : take l.key_len l.words ≡ take l.key_len l.fn.first; len : length l.words ≡ 60 }
