use Rattle.std.proofs.Common.{◌≡◌, ◌≤◌, ℕ, List, take}
use Rattle.arc_io.specs.KeptCalls.{filled_after}
use Rattle.arc_io.specs.Replays.{replayed_from}
use Rattle.arc_io.specs.declared.memory.disk_kept.Fill.{Fill}
use Rattle.arc_io.proofs.memory.disk_stop.synced_until.Given as goal

abbrev pub invariant-loop-i : goal.invariant-loop-i
invariant-loop-i l = record {
  within : l.synced ≤ l.i;
  image : (fill : Fill) (first : List ℕ) → filled_after l.area fill first first (take l.i l.past) ≡ replayed_from l.area fill first l.synced (take l.i l.past);
}
