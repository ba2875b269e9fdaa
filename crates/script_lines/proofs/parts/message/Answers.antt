use Rattle.std.proofs.Common.{sym, ◌∙◌}
use Rattle.script_lines.proofs.Asking.{no_message}
use Rattle.script_lines.proofs.parts.message.Goals as goal

pub returns-else-is_body : goal.returns-else-is_body
returns-else-is_body c =
    no_message c.args.rest.now c.in_ok-line.line c.in_ok-line.body.now c.in_ok-line.ensures.0 c.in_ok-line.ensures.1 (λ is. absurd (let bad = sym c.if-is_body.false ∙ c.is_body.ensures.1 is in cc))
