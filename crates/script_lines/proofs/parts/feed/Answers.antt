use Rattle.std.proofs.Common.{sym, ◌∙◌}
use Rattle.script_lines.proofs.Asking.{no_feed}
use Rattle.script_lines.proofs.parts.feed.Goals as goal

pub returns-else-are_digits : goal.returns-else-are_digits
returns-else-are_digits c =
    no_feed c.args.rest.now c.in_ok-line.line c.in_ok-line.digits.now c.in_ok-line.ensures.0 c.in_ok-line.ensures.1 (λ is. absurd (let bad = sym c.if-are_digits.false ∙ c.are_digits.ensures.1 is in cc))
