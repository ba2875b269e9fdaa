use Rattle.std.proofs.Common.{◌≡◌, ◌++◌, take}
use Rattle.std.specs.List.{flat_map}
use Rattle.incidents.specs.Slots.{open_of}
use Rattle.summary_rules.specs.Spelling.{incident_text}
use Rattle.summary_codec.specs.Writing.{HaveGoodSteps}
use Rattle.centre_core.proofs.summing.put_incidents.Given as goal

abbrev pub invariant-loop-slot : goal.invariant-loop-slot
invariant-loop-slot l = HaveGoodSteps l.table.incidents → l.out.items ≡ l.initial.out.items ++ flat_map (incident_text 2) (open_of (take l.slot-index l.slots))
