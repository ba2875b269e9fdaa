use Rattle.arc_drill.proofs.Parts.{some_left}
use Rattle.arc_drill.proofs.drill.Drill.go_on.Goals as goal

pub returns-then-self-bytes-clause-more : goal.returns-then-self-bytes-clause-more
returns-then-self-bytes-clause-more c none = absurd (some_left c.args.self.now.lines c.args.self.now.at (rw (c.bytes.ensures) at c.if-self-bytes.true) none)
