use Rattle.supervision.proofs.Edits.{taken_out}
use Rattle.supervision.proofs.pairs.take_out.Goals as goal

pub returns-in-Some-clause-taken : goal.returns-in-Some-clause-taken
returns-in-Some-clause-taken g c rest moved =
    taken_out c.args.deadline c.args.place c.in-Some.moment c.args.sorted.now.pairs c.remove.new.self.pairs rest c.remove.result
    c.in-Some.is c.remove.ensures.found c.remove.ensures.taken moved
