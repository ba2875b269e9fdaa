use Rattle.std.proofs.Common.{◌∙◌}
use Rattle.arc_server.proofs.Served.{serves_all}
use Rattle.arc_server.proofs.serving.serve_begun.Goals as goal

pub returns-clause-served : goal.returns-clause-served
returns-clause-served g c r q' counted begun begins =
    let e = c.serve_store-store.ensures in
    let last = c.serve_store-store.result.store in
    let came = c.serve_store-store.result.came in
    rw (c.end_serving.ensures.station) (serves_all came c.args.store last c.args.crew c.end_serving.result.status begun begins
    (record { served = e.served; refused = e.refused; untouched = e.untouched; at_open = e.kept.0 }) (e.kept.1 ∙ c.requires.limits)
    c.end_serving.ensures.disk (rw (← counted) c.end_serving.ensures.ends))
