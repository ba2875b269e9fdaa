use Rattle.std.proofs.Common.{◌≡◌, ◌++◌, ◌∷◌, [], take}
use Rattle.std.specs.List.{flat_map}
use Rattle.event_codec.specs.Spelling.{step_byte}
use Rattle.summary_codec.specs.Writing.{AreGood}
use Rattle.summary_codec.proofs.writing.put_steps.Given as goal

abbrev pub invariant-loop-k : goal.invariant-loop-k
invariant-loop-k l = AreGood l.steps → l.out.items ≡ l.initial.out.items ++ flat_map (λ s. step_byte s ∷ []) (take l.k l.steps)
