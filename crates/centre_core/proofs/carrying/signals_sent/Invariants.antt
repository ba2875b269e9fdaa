use Rattle.std.proofs.Common.{◌≡◌, ◌≤◌, ◌*◌, length, take}
use Rattle.std.specs.List.{flat_map}
use Rattle.alarm_rules.specs.Setups.{meaning}
use Rattle.centre_rules.specs.Carrying.{carried_sent}
use Rattle.centre_core.proofs.carrying.signals_sent.Given as goal

abbrev pub invariant-loop-i : goal.invariant-loop-i
invariant-loop-i l = record {
  so_far : l.sent.items ≡ flat_map (carried_sent (meaning l.setup) l.account l.via l.at) (take l.i l.signals);
  few : length l.sent.items ≤ 2 * l.i;
}
