use Rattle.std.proofs.Common.{arith}
use Rattle.script_lines.proofs.Asking.{no_time}
use Rattle.script_lines.proofs.parts.time.Goals as goal

pub returns-else-moment-lt-MOMENT_LIMIT : goal.returns-else-moment-lt-MOMENT_LIMIT
returns-else-moment-lt-MOMENT_LIMIT c =
    no_time c.args.rest.now c.in_ok-moment.moment c.in_ok-moment.ensures.some (omega arith) (λ early. omega (arith, early, c.if-moment-lt-MOMENT_LIMIT.false))
