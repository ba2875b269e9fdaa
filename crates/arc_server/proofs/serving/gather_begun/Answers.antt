use Rattle.std.proofs.Common.{ℕ, inl, inr, ap, ◌∙◌}
use Rattle.arc_server.specs.declared.status.Status.TheVariants.{DiskFault}
use Rattle.arc_server.proofs.Served.{gathered_whole, gathered_broken}
use Rattle.arc_server.proofs.serving.gather_begun.Goals as goal

pub returns-in-Whole-clause-served : goal.returns-in-Whole-clause-served
returns-in-Whole-clause-served g c r q' counted begun begins =
    let e = c.gather_store-closed.ensures in
    let of = c.gather_store-closed.result in
    rw (c.end_serving.ensures.station) (inl (gathered_whole of.came c.args.store c.in-Whole.store c.args.crew c.end_serving.result.status of.closed
    c.in-Whole.is begun begins (record { served = e.served; refused = e.refused; untouched = e.untouched; kept = e.kept }) c.requires.limits
    c.end_serving.ensures.disk (rw (← counted) c.end_serving.ensures.ends)))

pub returns-clause-served : goal.returns-clause-served
returns-clause-served g c r q' counted begun begins =
    let e = c.gather_store-closed.ensures in
    let of = c.gather_store-closed.result in
    let b = c.in-Broken in
    inr (gathered_broken of.came c.args.store c.args.crew (DiskFault c.args.before c.faults-now.result) b.at_open b.now of.closed b.is begun begins
    (record { served = e.served; refused = e.refused; untouched = e.untouched; kept = e.kept })
    (ap (λ (n : ℕ). DiskFault n c.faults-now.result) counted ∙ ap (λ (n : ℕ). DiskFault (g.D.Disk.seen r.disk).faults n) c.faults-now.ensures))
