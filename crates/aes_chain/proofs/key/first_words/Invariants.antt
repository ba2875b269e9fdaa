use Rattle.std.proofs.Common.{◌≡◌, length}
use Rattle.aes_chain.specs.Schedule.{key_words}
use Rattle.aes_chain.specs.Words.{words_of}
use Rattle.aes_chain.proofs.key.first_words.Given as goal

abbrev pub invariant-loop-i : goal.invariant-loop-i
invariant-loop-i l = record { is : words_of l.words l.i ≡ key_words l.bytes l.i; len : length l.words ≡ 60 }
