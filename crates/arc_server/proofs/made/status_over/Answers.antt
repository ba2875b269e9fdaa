use Rattle.arc_server.proofs.Over.{after_fault, without_fault}
use Rattle.arc_server.proofs.made.status_over.Goals as goal

pub returns-then-has_risen-clause-over : goal.returns-then-has_risen-clause-over
returns-then-has_risen-clause-over c = after_fault c.args.before c.args.now c.args.status (c.has_risen.ensures.0 c.if-has_risen.true)

pub returns-clause-over : goal.returns-clause-over
returns-clause-over c = without_fault c.args.before c.args.now c.args.status c.has_risen.result c.has_risen.ensures.1 c.if-has_risen.false
