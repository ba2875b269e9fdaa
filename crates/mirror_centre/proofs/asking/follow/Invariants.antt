use Rattle.std.proofs.Common.{◌≡◌, ◌≤◌, ◌-◌, List, false}
use Rattle.centre_rules.specs.History.{Entry}
use Rattle.centre_rules.specs.Summary.{Summary}
use Rattle.centre_store.specs.Stores.{StoreStands}
use Rattle.session_rules.specs.Inputs.{input_limit}
use Rattle.mirror_centre.specs.Following.{SoFar}
use Rattle.mirror_centre.proofs.asking.follow.Given as goal

abbrev pub invariant-answers : goal.invariant-answers
invariant-answers g l = record {
  few : l.taken ≤ input_limit;
  count : l.after ≤ l.taken;
  not_ended : (g.P.Ends.seen l.port).ended ≡ false;
  so : (b : Summary) (h : List Entry) → StoreStands g.D.Disk.seen b l.initial.mirror h
      → (h' : List Entry) × StoreStands g.D.Disk.seen b l.mirror h'
      × SoFar b h h' l.after l.taken (g.P.Ends.seen l.initial.port) (g.P.Ends.seen l.port);
  at_open : l.mirror.at_open ≡ l.initial.mirror.at_open;
  limits : l.mirror.journal.limits ≡ l.initial.mirror.journal.limits;
  later : (g.D.Disk.seen l.initial.mirror.journal.disk).faults ≤ (g.D.Disk.seen l.mirror.journal.disk).faults;
}

abbrev pub decreases-answers : goal.decreases-answers
decreases-answers g l = input_limit - l.taken
