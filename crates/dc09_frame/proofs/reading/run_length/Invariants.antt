use Rattle.std.proofs.Common.{◌≡◌, ◌+◌, drop}
use Rattle.std.specs.List.{prefix_len}
use Rattle.dc09_frame.specs.Reading.{test_of}
use Rattle.dc09_frame.proofs.reading.run_length.Given as goal

abbrev pub invariant-loop-i : goal.invariant-loop-i
invariant-loop-i l = prefix_len (test_of l.alphabet) l.bytes ≡ l.i + prefix_len (test_of l.alphabet) (drop l.i l.bytes)
