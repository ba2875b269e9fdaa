use Rattle.arc_panel.proofs.SaidLines.{falls}
use Rattle.arc_panel.proofs.play.said_at.Goals as goal

pub returns-in-Step-clause-said : goal.returns-in-Step-clause-said
returns-in-Step-clause-said c = λ h typed cut is at.
    falls h typed c.args.line.now c.in_ok-read.read c.in-Step.now c.args.before c.args.cut c.in-Whole.is is c.in_ok-read.ensures c.in-Step.is at c.if-now-before.true
