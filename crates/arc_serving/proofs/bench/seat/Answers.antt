use Rattle.std.proofs.Common.{map, reverse, ap, ◌∙◌, subst}
use Rattle.std.proofs.lemmas.List.{reverse-reverse}
use Rattle.arc_serving.specs.Jobs.{AreSeated}
use Rattle.arc_serving.proofs.Lists.{map_reverse}
use Rattle.arc_serving.proofs.bench.seat.Goals as goal

-- a list that is turned round twice is that list
pub returns-clause-seated : goal.returns-clause-seated
returns-clause-seated g c =
    let seen = g.A.Door.seen in
    let s = c.seat_each-seated in
    subst (λ (l : _). AreSeated g.N.GateName.terms l (map seen s.new.doors.items) s.new.jobs.items c.args.first.now.count s.new.first.count)
    (ap (λ (l : _). reverse (map seen l)) c.reverse.ensures.items ∙ ap reverse (map_reverse seen c.args.doors.items) ∙ reverse-reverse (map seen c.args.doors.items)) s.ensures.seated
