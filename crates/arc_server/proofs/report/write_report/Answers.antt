use Rattle.std.proofs.Common.{◌≤◌, ℕ, sym, subst}
use Rattle.arc_io.specs.Told.{Puts}
use Rattle.arc_report.specs.Reports.{report_of}
use Rattle.centre_rules.specs.State.{State}
use Rattle.arc_server.specs.Reports.{StandsOn}
use Rattle.arc_server.proofs.Kept.{kept}
use Rattle.arc_server.proofs.Over.{over_is}
use Rattle.arc_server.proofs.Reported.{puts_report}
use Rattle.arc_server.proofs.report.write_report.Goals as goal

pub returns-clause-reported : goal.returns-clause-reported
returns-clause-reported g c q disk base past counted stands begins stays =
    let seen = g.D.Disk.seen in
    let store = c.args.store in
    let p = g.P.Ends.seen c.args.port.now in
    let written = c.report-written.result in
    let since : (seen disk).faults ≤ store.at_open = subst (λ (n : ℕ). n ≤ store.at_open) counted c.requires.before in record {
      base = base;
      past = past;
      begins = begins;
      stays = subst (λ (d : g.row.D.Denot). StandsOn (seen disk) (seen d)) (sym c.close-disk.ensures) stays;
      ends = kept store (seen disk).faults c.close-disk.result stands since c.close-disk.ensures;
      written = written;
      puts = puts_report store.state base past stands.centre
          (subst (λ (s : State). Puts p (g.P.Ends.seen c.report-written.new.out) written (report_of s.sum)) c.centre.ensures c.report-written.ensures);
      status_is = over_is c.status_over.result c.status_over.ensures.over counted c.faults.ensures
          (c.status_of_text-status.ensures.made p c.write_faults-writes.ensures);
    }
