use Rattle.std.proofs.Common.{arith}
use Rattle.arc_panel.proofs.Meanings.{no_step}
use Rattle.arc_panel.proofs.line.step.Goals as goal

pub returns-else-now-lt-MOMENT_LIMIT : goal.returns-else-now-lt-MOMENT_LIMIT
returns-else-now-lt-MOMENT_LIMIT c =
    no_step c.args.rest.now c.in_ok-now.now c.in_ok-now.ensures.some (omega arith) (λ early. omega (arith, early, c.if-now-lt-MOMENT_LIMIT.false))
