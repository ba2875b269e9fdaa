use Rattle.std.proofs.Common.{◌≡◌, ◌≤◌, length, take}
use Rattle.std.specs.Prelude.{map}
use Rattle.desk_screen.specs.Watching.{waiting_of}
use Rattle.desk_screen.proofs.queue.Queue.followed.Given as goal

-- the rows so far stand in the queue, and there are 16 at most
abbrev pub invariant-loop-row : goal.invariant-loop-row
invariant-loop-row l = record {
  seen : l.queue ≡ map (waiting_of l.self l.clock) (take l.row-index l.row-items);
  few : length l.row-items ≤ 16;
}
