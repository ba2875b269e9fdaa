use Rattle.std.proofs.Common.{◌≡◌, drop}
use Rattle.arc_io.specs.Replays.{replayed_all}
use Rattle.arc_io.proofs.memory.disk_stop.replay.Given as goal

abbrev pub invariant-loop-kept : goal.invariant-loop-kept
invariant-loop-kept l =
    replayed_all l.area l.fill l.image.items (drop l.kept-index l.past) ≡ replayed_all l.area l.fill l.initial.image.items l.past
