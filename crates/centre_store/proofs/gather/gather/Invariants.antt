use Rattle.std.proofs.Common.{◌≡◌, ◌≤◌, ◌^◌, [], length, take, drop}
use Rattle.centre_store.specs.Gathered.{AreTakenUp, HasRoomForAll}
use Rattle.centre_store.specs.Stores.{IsSameJournal}
use Rattle.centre_store.proofs.gather.gather.Given as goal

abbrev pub invariant-loop : goal.invariant-loop
invariant-loop g l = record {
  within : l.counter ≤ length l.initial.batch;
  taken : AreTakenUp l.caller (take l.counter l.initial.batch) l.initial.centre l.centre [] l.set.bodies [] l.set.dones;
  off : l.batch ≡ drop l.counter l.initial.batch;
  same : IsSameJournal l.initial.journal l.journal;
  room : HasRoomForAll l.journal l.set.bodies;
  worn : 2 ^ 48 ≤ l.initial.centre.entries → l.counter ≡ 0;
}
