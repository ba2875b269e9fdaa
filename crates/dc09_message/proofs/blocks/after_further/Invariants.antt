use Rattle.std.proofs.Common.{◌≡◌, ◌≤◌, length}
use Rattle.dc09_message.specs.Blocks.{further_at}
use Rattle.dc09_message.proofs.blocks.after_further.Given as goal

abbrev pub invariant-loop-later : goal.invariant-loop-later
invariant-loop-later l = record { same : (further_at l.rest).1 ≡ (further_at l.bytes).1; within : length l.rest ≤ length l.bytes }

abbrev pub decreases-loop-later : goal.decreases-loop-later
decreases-loop-later l = length l.rest
