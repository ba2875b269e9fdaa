use Rattle.std.specs.List.{AllWithin}
use Rattle.arc_script.specs.Playing.{IsNewDesk}
use Rattle.arc_script.proofs.script.renew_desks.Given as goal

-- those so far are new
abbrev pub invariant-loop-desk : goal.invariant-loop-desk
invariant-loop-desk l = AllWithin IsNewDesk l.desks 0 l.desk-index
