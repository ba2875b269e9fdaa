use Rattle.std.proofs.Common.{ℕ, ap, subst, refl, ◌∙◌}
use Rattle.std.specs.Prelude.{is_err}
use Rattle.arc_io.specs.Seen.{PortSeen}
use Rattle.arc_io.specs.Told.{Puts}
use Rattle.arc_server.specs.ServeRuns.{summary_line}
use Rattle.arc_server.specs.Servings.{first_of, met_by, where_so}
use Rattle.arc_server.specs.declared.status.Status.TheVariants.{WriteFault}
use Rattle.centre_rules.specs.State.{State}
use Rattle.arc_server.proofs.Over.{over_is}
use Rattle.arc_server.proofs.serving.end_serving.Goals as goal

pub returns-clause-ends : goal.returns-clause-ends
returns-clause-ends g c =
    let came = c.args.came.now in
    let written = c.put_summary-written.result in
    let p : PortSeen = g.P.Ends.seen c.args.port.now in
    let p' : PortSeen = g.P.Ends.seen c.put_summary-written.new.out in
    let made =
    c.status_of_serving-status.ensures.first
    ∙ ap (λ (n : ℕ). first_of (met_by came (where_so (is_err written) (WriteFault n c.write_faults.result)))) c.write_faults-writes.ensures
    ∙ ap (λ (n : ℕ). first_of (met_by came (where_so (is_err written) (WriteFault p.write_faults n)))) c.write_faults.ensures in record {
      written = written;
      puts = subst (λ (s : State). Puts p p' written (summary_line s.sum)) c.centre.ensures c.put_summary-written.ensures;
      status_is = over_is c.status_over.result c.status_over.ensures.over refl c.faults.ensures made;
    }
