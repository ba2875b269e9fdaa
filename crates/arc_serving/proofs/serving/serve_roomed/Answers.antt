use Rattle.std.proofs.Common.{◌≡◌, ◌≤◌, ◌<◌, [], length, map, refl, ◌∙◌, subst}
use Rattle.std.specs.Prelude.{Result, IfOk, OnOk}
use Rattle.line_gate.specs.Entries.{Extends}
use Rattle.line_gate.specs.Passes.{IsPass}
use Rattle.arc_serving.specs.Seen.{StationSeen, CameSeen}
use Rattle.arc_serving.specs.Serving.{RanBefore}
use Rattle.arc_serving.proofs.Served.{ran_before}
use Rattle.arc_serving.proofs.serving.serve_roomed.Goals as goal

-- both sides were seated, and the ticker has a pass
pub returns-clause-served : goal.returns-clause-served
returns-clause-served g c =
    let t = g.N.GateName.terms in
    let inside = c.station.inside in
    let lines = c.seat-lines in
    let desks = c.seat-desks in
    let own = c.split-own in
    let at = c.in-Ok-Ok-Ok in
    let done = c.serve_seated-over in
    let fresh = subst (λ (o : Result _ _). IfOk o (λ p. IsPass t p × (p.made ≡ []) × Extends desks.new.first.since p.since × (desks.new.first.count ≤ p.number) × (p.number < own.new.pass.count)))
    at.is-2 own.ensures.new in
    let line_count = subst (λ (o : Result _ _). OnOk o (length lines.result.0.jobs.items ≡ c.args.line_room.count)) at.is-0 lines.ensures.count in
    let desk_count = subst (λ (o : Result _ _). OnOk o (length desks.result.0.jobs.items ≡ c.args.desk_room.count)) at.is-1 desks.ensures.count in
    let before : StationSeen = record { lines = map g.A.Door.seen inside.lines.items; desks = map g.B.Door.seen inside.desks.items; pulse = g.T.Pulse.moments inside.pulse } in
    let left : StationSeen = record { lines = map g.A.Door.seen lines.result.0.doors.items; desks = map g.B.Door.seen desks.result.0.doors.items; pulse = g.T.Pulse.moments inside.pulse } in
    let after : StationSeen =
    record { lines = map g.A.Door.seen done.result.0.lines.items; desks = map g.B.Door.seen done.result.0.desks.items; pulse = g.T.Pulse.moments done.result.1 } in
    let came : CameSeen = record { lines = done.result.0.line_came.items; desks = done.result.0.desk_came.items; ticked = done.result.2 } in
    subst (λ (x : StationSeen). RanBefore t done.new.first c.args.crew x after came) c.station.view_is
    (ran_before t c.args.crew c.args.first.now own.new.pass done.new.first at.pass c.args.first.now.count lines.new.first.count desks.new.first.count own.new.pass.count
    lines.result.0.jobs.items desks.result.0.jobs.items before left after came c.requires.first.0 c.requires.first.1 (record { pass = fresh.0; made = fresh.1 }) fresh.3 fresh.4
    lines.ensures.seated desks.ensures.seated (line_count ∙ c.requires.lines.0) (desk_count ∙ c.requires.desks.0) refl done.ensures.served)
