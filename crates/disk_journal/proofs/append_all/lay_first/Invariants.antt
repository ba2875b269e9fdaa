use Rattle.std.proofs.Common.{◌≡◌, ◌≤◌, [], ◌∷◌, ◌++◌, length, take}
use Rattle.disk_journal.specs.Records.{need_of_all, records_of}
use Rattle.disk_journal.proofs.append_all.lay_first.Given as goal

-- the records so far, and the open gate of the next one
abbrev pub invariant-loop-i : goal.invariant-loop-i
invariant-loop-i l = record {
  within : l.i ≤ l.count;
  place : l.place ≡ need_of_all (take l.i l.bodies);
  laid : 1 ∷ take l.place l.room ≡ records_of (take l.i l.bodies) ++ 1 ∷ [];
  long : length l.room ≡ length l.fn.room;
}
