use Rattle.std.proofs.Common.{◌≤◌, ◌-◌, vec_len}
use Rattle.arc_script.specs.Feeding.{AreNew}
use Rattle.arc_script.proofs.script.new_lines.Given as goal

-- those so far are new
abbrev pub invariant-loop-lines : goal.invariant-loop-lines
invariant-loop-lines l = (vec_len l.lines ≤ 16) × AreNew l.lines.items

abbrev pub decreases-loop-lines : goal.decreases-loop-lines
decreases-loop-lines l = 16 - vec_len l.lines
