use Rattle.std.proofs.Common.{◌≡◌, ◌++◌, take}
use Rattle.std.specs.Prelude.{reverse}
use Rattle.std.specs.List.{flat_map}
use Rattle.summary_rules.specs.Spelling.{past_text}
use Rattle.summary_codec.proofs.writing.put_window.Given as goal

abbrev pub invariant-loop-i : goal.invariant-loop-i
invariant-loop-i l = l.out.items ≡ l.initial.out.items ++ flat_map past_text (take l.i (reverse l.window))
