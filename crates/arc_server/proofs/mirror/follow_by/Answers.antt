use Rattle.std.proofs.Common.{◌≡◌, ◌≤◌, ℕ, sym, subst, ◌∙◌, ap}
use Rattle.centre_store.specs.Stores.{Stored, StoreStands}
use Rattle.arc_server.proofs.Kept.{leaves_store}
use Rattle.arc_server.proofs.Over.{over_is}
use Rattle.arc_server.proofs.mirror.follow_by.Goals as goal

pub returns-clause-followed : goal.returns-clause-followed
returns-clause-followed g c q disk base past counted stands begins =
    let seen = g.D.Disk.seen in
    let p = g.P.Ends.seen c.args.port.now in
    let first = c.args.store in
    let last = c.follow-end.new.mirror in
    let e = c.follow-end.ensures in
    let is : c.new-mirror.result ≡ first = c.new-mirror.ensures in
    let went = e.followed base past (subst (λ (s : Stored g.row.D.Denot). StoreStands seen base s past) (sym is) stands) in
    let since : (seen disk).faults ≤ first.at_open = subst (λ (n : ℕ). n ≤ first.at_open) counted c.requires.before in
    let opened : last.at_open ≡ first.at_open = e.at_open ∙ ap (λ (s : Stored g.row.D.Denot). s.at_open) is in
    let later : (seen disk).faults ≤ last.at_open = subst (λ (n : ℕ). (seen disk).faults ≤ n) (sym opened) since in
    let handed : c.close-disk.result ≡ last.journal.disk = c.close-disk.ensures ∙ ap (λ (s : Stored g.row.D.Denot). s.journal.disk) c.close.ensures in
    record {
      base = base;
      past = past;
      begins = begins;
      history = went.0;
      last = last;
      leaves = leaves_store last went.1 (e.limits ∙ ap (λ (s : Stored g.row.D.Denot). s.journal.limits) is ∙ c.requires.limits) later handed;
      end = c.follow-end.result;
      followed = went.2;
      status_is = over_is c.status_over.result c.status_over.ensures.over counted c.faults.ensures
          (c.status_of_follow-status.ensures.made p c.read_faults-reads.ensures c.write_faults-writes.ensures);
    }
