use Rattle.std.proofs.Common.{◌≡◌, ◌<◌, take}
use Rattle.dc09_frame.specs.Check.{sum_after}
use Rattle.dc09_frame.proofs.checksum.with_bytes.Given as goal

abbrev pub invariant-loop-byte : goal.invariant-loop-byte
invariant-loop-byte l = (l.sum < 65536) × (l.sum ≡ sum_after l.fn.sum (take l.byte-index l.bytes))
