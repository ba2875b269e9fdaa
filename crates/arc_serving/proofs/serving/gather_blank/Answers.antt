use Rattle.std.proofs.Common.{List}
use Rattle.centre_rules.specs.History.{Entry}
use Rattle.centre_rules.specs.Summary.{Summary}
use Rattle.arc_serving.specs.Seen.{CameSeen}
use Rattle.arc_serving.specs.Serving.{GoesOnAt, ServesAt, RanBefore}
use Rattle.arc_serving.proofs.Served.{goes_on_at, if_ok, kept_of, on_err, serves_at}
use Rattle.arc_serving.proofs.serving.gather_blank.Goals as goal

-- the gate was closed with the pass that took in those of all
pub returns-clause-served : goal.returns-clause-served
returns-clause-served g c =
    let seen = g.D.Disk.seen in
    let t = g.N.GateName.terms in
    let ran = c.serve_at-station in
    let last = ran.new.first in
    if_ok (λ (came : CameSeen). RanBefore t last c.args.crew c.args.station ran.result.0 came) (λ (came : CameSeen). ServesAt seen t c.args.crew c.args.station ran.result.0 came c.close.result) ran.result.1
    (λ came w. serves_at seen t last c.args.crew c.args.station ran.result.0 came c.close.result c.close.ensures w) ran.ensures.served

pub returns-clause-kept : goal.returns-clause-kept
returns-clause-kept g c = kept_of g.D.Disk.seen g.N.GateName.terms c.serve_at-station.new.first c.args.blank.store c.close.result
    c.requires.names.at_open c.requires.names.limits c.close.ensures

pub returns-clause-refused : goal.returns-clause-refused
returns-clause-refused g c =
    let seen = g.D.Disk.seen in
    let t = g.N.GateName.terms in
    let last = c.serve_at-station.new.first in
    on_err c.serve_at-station.result.1 ((b : Summary) (h : List Entry) → t.stood b h → GoesOnAt seen b h c.close.result)
    (goes_on_at seen t last c.close.result c.close.ensures)
