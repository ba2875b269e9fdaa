use Rattle.std.proofs.Common.{sym, ◌∙◌}
use Rattle.accounts.proofs.LineLemmas.{lines-found, lines-none, not_empty}
use Rattle.accounts.proofs.lines.first_line.Goals as goal

pub returns-in-Some-clause-first : goal.returns-in-Some-clause-first
returns-in-Some-clause-first c = rw c.without_return.ensures (lines-found c.args.text.now c.in-Some.end c.in-Some.ensures)

pub returns-in-None-clause-first : goal.returns-in-None-clause-first
returns-in-None-clause-first c = lines-none c.args.text.now (not_empty c.args.text.now (sym c.is_empty.ensures ∙ c.if-is_empty.false)) c.in-None.ensures
