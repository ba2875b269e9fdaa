use Rattle.std.proofs.Common.{map, sym, ap, ◌∙◌, subst}
use Rattle.arc_serving.specs.Jobs.{AreUnseated}
use Rattle.arc_serving.proofs.Lists.{map_reverse}
use Rattle.arc_serving.proofs.bench.unseat.Goals as goal

pub returns-clause-unseated : goal.returns-clause-unseated
returns-clause-unseated g c =
    let seen = g.A.Door.seen in
    subst (λ (l : _). AreUnseated c.unseat_each.new.first c.args.bench.jobs.items (map seen c.args.bench.doors.items) l)
    (sym (ap (map seen) c.reverse.ensures.items ∙ map_reverse seen c.unseat_each.new.doors.items)) c.unseat_each.ensures.unseated
