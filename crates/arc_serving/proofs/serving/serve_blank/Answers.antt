use Rattle.std.proofs.Common.{List}
use Rattle.centre_rules.specs.History.{Entry}
use Rattle.centre_rules.specs.Summary.{Summary}
use Rattle.line_gate.specs.Groups.{IsClosed}
use Rattle.arc_serving.specs.Seen.{CameSeen}
use Rattle.arc_serving.specs.Serving.{GoesOnFrom, ServesWhole, RanBefore}
use Rattle.arc_serving.proofs.Served.{goes_on, if_ok, on_err, serves}
use Rattle.arc_serving.proofs.serving.serve_blank.Goals as goal

-- the gate was closed with the pass that took in those of all
pub returns-clause-served : goal.returns-clause-served
returns-clause-served g c =
    let seen = g.D.Disk.seen in
    let t = g.N.GateName.terms in
    let ran = c.serve_at-station in
    let last = ran.new.first in
    let s = c.close.result in
    let e = c.close.ensures in
    let closed : IsClosed seen t last s = record { stands = e.stands; told_is = e.told; at_open = e.at_open; limits = e.limits; text = e.text } in
    if_ok (λ (came : CameSeen). RanBefore t last c.args.crew c.args.station ran.result.0 came) (λ (came : CameSeen). ServesWhole seen t c.args.crew c.args.station ran.result.0 came s) ran.result.1
    (λ came w. serves seen t last c.args.crew c.args.station ran.result.0 came s closed w) ran.ensures.served

pub returns-clause-refused : goal.returns-clause-refused
returns-clause-refused g c =
    let seen = g.D.Disk.seen in
    let t = g.N.GateName.terms in
    let last = c.serve_at-station.new.first in
    let s = c.close.result in
    let e = c.close.ensures in
    let closed : IsClosed seen t last s = record { stands = e.stands; told_is = e.told; at_open = e.at_open; limits = e.limits; text = e.text } in
    on_err c.serve_at-station.result.1 ((b : Summary) (h : List Entry) → t.stood b h → GoesOnFrom seen b h s) (goes_on seen t last s closed)
