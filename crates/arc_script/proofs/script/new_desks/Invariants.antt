use Rattle.std.proofs.Common.{◌≤◌, ◌-◌, length, vec_len}
use Rattle.std.specs.List.{AllWithin}
use Rattle.arc_script.specs.Playing.{IsNewDesk}
use Rattle.arc_script.proofs.script.new_desks.Given as goal

-- those so far are new
abbrev pub invariant-loop-desks : goal.invariant-loop-desks
invariant-loop-desks l = (vec_len l.desks ≤ 8) × AllWithin IsNewDesk l.desks.items 0 (length l.desks.items)

abbrev pub decreases-loop-desks : goal.decreases-loop-desks
decreases-loop-desks l = 8 - vec_len l.desks
