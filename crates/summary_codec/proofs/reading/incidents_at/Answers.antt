-- One incident after another.
use Rattle.std.proofs.Common.{◌+◌, None, List, sym, subst, arith}
use Rattle.arc_data.specs.declared.incident.Incident.{Incident}
use Rattle.summary_codec.specs.Reading.{incident_at}
use Rattle.summary_codec.proofs.Times.{GoesOn, goes_more, goes_none, goes_end, many_is}
use Rattle.summary_codec.proofs.reading.incidents_at.Goals as goal

pub returns-in_default-incident_read_at : goal.returns-in_default-incident_read_at
returns-in_default-incident_read_at c =
    let w = c.loop.invariant in
    many_is (incident_at c.args.version) c.in-Some.count c.args.bytes.now c.in-Some.rest.now None c.in-Some.ensures
    (goes_none (incident_at c.args.version) c.in-Some.count c.loop.counter c.in-Some.rest.now c.loop.incidents.items c.loop.rest.now w.read c.in_default-incident_read_at.ensures c.loop-test.true)

pub loop-preserved : goal.loop-preserved
loop-preserved c =
    let w = c.loop.invariant in
    let old = c.loop.incidents.items in
    let x = c.in-Some-incident_read_at.incident in
    let next = c.in-Some-incident_read_at.behind.now in
    record {
      count = omega arith;
      read = subst (λ (l : List Incident). GoesOn (incident_at c.args.version) c.in-Some.count (c.loop.counter + 1) c.in-Some.rest.now l next) (sym c.in-Ok.ensures.items)
          (goes_more (incident_at c.args.version) c.in-Some.count c.loop.counter c.in-Some.rest.now old x c.loop.rest.now next w.read c.in-Some-incident_read_at.ensures);
    }

pub returns : goal.returns
returns c =
    let w = c.loop.invariant in
    many_is (incident_at c.args.version) c.in-Some.count c.args.bytes.now c.in-Some.rest.now _ c.in-Some.ensures
    (goes_end (incident_at c.args.version) c.in-Some.count c.loop.counter c.in-Some.rest.now c.loop.incidents.items c.loop.rest.now w.read w.count c.loop-test.false)
