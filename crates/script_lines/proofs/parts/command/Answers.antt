use Rattle.std.proofs.Common.{arith}
use Rattle.script_lines.proofs.Asking.{no_command}
use Rattle.script_lines.proofs.parts.command.Goals as goal

pub returns-else-text-le-TEXT_LIMIT : goal.returns-else-text-le-TEXT_LIMIT
returns-else-text-le-TEXT_LIMIT c =
    no_command c.args.rest.now c.in_ok-desk.desk c.in_ok-desk.text.now c.in_ok-desk.ensures.0 c.in_ok-desk.ensures.1 (λ short. omega (arith, short, c.if-text-le-TEXT_LIMIT.false))
