use Rattle.std.proofs.Common.{◌≡◌, ℕ, List, take, subst}
use Rattle.supervision.specs.Deadlines.{due_at}
use Rattle.supervision.proofs.Passed.{all_due, cost_is}
use Rattle.supervision.proofs.watch.Watch.due.Goals as goal

pub returns-in_default-clause-cost : goal.returns-in_default-clause-cost
returns-in_default-clause-cost g c =
    cost_is c.args.at c.self.inside.deadlines.items c.args.self.now c.self.inside.sorted.pairs c.count_passed-count.result c.args.steps.now
    c.count_passed-count.new.steps c.self.view_is c.self.invariant.same c.count_passed-count.ensures.within c.count_passed-count.ensures.passed
    c.count_passed-count.ensures.cost

pub returns-clause-due : goal.returns-clause-due
returns-clause-due g c =
    let first : List (ℕ × ℕ) = take c.count_passed-count.result c.self.inside.sorted.pairs in
    subst (λ l. c.put_places.new.out.items ≡ due_at c.args.at l) c.self.view_is
    (all_due c.args.at c.self.inside.deadlines.items c.self.inside.sorted.pairs first c.put_places.new.out.items c.self.invariant.same
    c.count_passed-count.ensures.passed c.in-Ok.ensures.places c.in-Ok.ensures.ascending)

pub returns-clause-cost : goal.returns-clause-cost
returns-clause-cost g c =
    cost_is c.args.at c.self.inside.deadlines.items c.args.self.now c.self.inside.sorted.pairs c.count_passed-count.result c.args.steps.now
    c.count_passed-count.new.steps c.self.view_is c.self.invariant.same c.count_passed-count.ensures.within c.count_passed-count.ensures.passed
    c.count_passed-count.ensures.cost
