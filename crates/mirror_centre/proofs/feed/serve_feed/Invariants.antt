use Rattle.std.proofs.Common.{◌≡◌, ◌≤◌, ◌-◌, ◌*◌, List, false}
use Rattle.arc_io.specs.Crashes.{IsQuiet}
use Rattle.centre_rules.specs.History.{Entry}
use Rattle.centre_rules.specs.Summary.{Summary}
use Rattle.centre_store.specs.Stores.{StandsOn, StoreStands}
use Rattle.disk_journal.specs.Journal.{IsReadOf}
use Rattle.session_rules.specs.Inputs.{input_limit}
use Rattle.mirror_centre.specs.Answers.{IsAnsweredWith}
use Rattle.mirror_centre.specs.Feeding.{SoFar}
use Rattle.mirror_centre.proofs.feed.serve_feed.Given as goal

abbrev pub invariant-asks : goal.invariant-asks
invariant-asks g l = record {
  few : 9 * l.answered ≤ input_limit;
  not_ended : (g.P.Ends.seen l.port).ended ≡ false;
  so : (b : Summary) (h : List Entry) → StoreStands g.D.Disk.seen b l.initial.store h
      → SoFar (IsAnsweredWith g.D.Disk.seen b h l.initial.store) l.answered (g.P.Ends.seen l.initial.port) (g.P.Ends.seen l.port);
  stands : StandsOn g.D.Disk.seen l.initial.store l.store;
  state : l.store.state ≡ l.initial.store.state;
  same : IsReadOf l.initial.store.journal l.store.journal;
  quiet : IsQuiet (g.D.Disk.seen l.initial.store.journal.disk) (g.D.Disk.seen l.store.journal.disk);
  at_open : l.store.at_open ≡ l.initial.store.at_open;
  limits : l.store.journal.limits ≡ l.initial.store.journal.limits;
}

abbrev pub decreases-asks : goal.decreases-asks
decreases-asks g l = input_limit - 9 * l.answered
