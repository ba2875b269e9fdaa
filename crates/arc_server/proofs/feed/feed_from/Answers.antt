use Rattle.std.proofs.Common.{◌≤◌, ℕ, sym, subst, ◌∙◌}
use Rattle.arc_io.specs.Crashes.{IsQuiet}
use Rattle.arc_server.specs.Reports.{StandsOn}
use Rattle.arc_server.proofs.Fed.{stands_quiet}
use Rattle.arc_server.proofs.Kept.{leaves_store}
use Rattle.arc_server.proofs.Over.{over_is}
use Rattle.arc_server.proofs.feed.feed_from.Goals as goal

pub returns-clause-fed : goal.returns-clause-fed
returns-clause-fed g c q disk base past counted stands held begins stays unwritten limits =
    let seen = g.D.Disk.seen in
    let p = g.P.Ends.seen c.args.port.now in
    let first = c.args.store in
    let last = c.serve_feed-end.new.store in
    let e = c.serve_feed-end.ensures in
    let since : (seen disk).faults ≤ first.at_open = subst (λ (n : ℕ). n ≤ first.at_open) counted c.requires.before in
    let later : (seen disk).faults ≤ last.at_open = subst (λ (n : ℕ). (seen disk).faults ≤ n) (sym e.at_open) since in
    let stays_on : StandsOn (seen disk) (seen last.journal.disk) =
    stands_quiet (seen disk) (seen first.journal.disk) (seen last.journal.disk) (g.met.D.Disk.counts_now first.journal.disk) stays e.quiet in
    record {
      base = base;
      past = past;
      begins = begins;
      first = first;
      stands = stands;
      held = held;
      unwritten = unwritten;
      quiet = subst (λ (d : g.row.D.Denot). IsQuiet (seen first.journal.disk) (seen d)) (sym c.close-disk.ensures) e.quiet;
      end = c.serve_feed-end.result;
      fed = e.fed base past stands;
      last = last;
      shown = e.shown;
      leaves = leaves_store last (e.stands base past stands) (e.limits ∙ limits) later c.close-disk.ensures;
      stays = subst (λ (d : g.row.D.Denot). StandsOn (seen disk) (seen d)) (sym c.close-disk.ensures) stays_on;
      status_is = over_is c.status_over.result c.status_over.ensures.over counted c.faults.ensures
          (c.status_of_feed-status.ensures.made p c.read_faults-reads.ensures c.write_faults-writes.ensures);
    }
