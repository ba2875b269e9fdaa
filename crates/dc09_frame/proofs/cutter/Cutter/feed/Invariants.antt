use Rattle.std.proofs.Common.{◌≡◌, ◌-◌, ◌≤◌, length}
use Rattle.dc09_frame.proofs.CutterLaws.{Took}
use Rattle.dc09_frame.proofs.cutter.Cutter.feed.Given as goal

abbrev pub decreases-loop-taken : goal.decreases-loop-taken
decreases-loop-taken l = length l.piece - l.taken

abbrev pub invariant-loop-taken : goal.invariant-loop-taken
invariant-loop-taken l = record { within : l.taken ≤ length l.piece; took : Took l.fn.self l.piece l.taken l.self; start : l.taken ≡ 0 → l.self ≡ l.fn.self }
