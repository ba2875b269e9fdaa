use Rattle.std.proofs.Common.{◌≡◌, ◌++◌, take}
use Rattle.std.specs.List.{flat_map}
use Rattle.summary_rules.specs.Spelling.{act_text}
use Rattle.summary_codec.specs.Writing.{AreActsGood}
use Rattle.summary_codec.proofs.writing.put_acts.Given as goal

abbrev pub invariant-loop-acted : goal.invariant-loop-acted
invariant-loop-acted l = AreActsGood l.acts → l.out.items ≡ l.initial.out.items ++ flat_map act_text (take l.acted-index l.acts)
