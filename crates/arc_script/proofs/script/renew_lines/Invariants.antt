use Rattle.std.proofs.Common.{◌<◌, ◌≤◌, ◌-◌, [], ℕ, length}
use Rattle.arc_script.specs.Feeding.{TookAt}
use Rattle.arc_script.proofs.script.renew_lines.Given as goal

-- those so far are new
abbrev pub invariant-loop-place : goal.invariant-loop-place
invariant-loop-place l = (length l.lines ≤ 16) × ((i : ℕ) → i < l.place → TookAt [] l.lines i)

abbrev pub decreases-loop-place : goal.decreases-loop-place
decreases-loop-place l = length l.lines - l.place
