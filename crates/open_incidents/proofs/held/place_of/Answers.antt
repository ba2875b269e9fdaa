-- No number is greater, so the place is the end.
use Rattle.std.proofs.Common.{sym, ◌∙◌}
use Rattle.open_incidents.proofs.Numbers.{place_last}
use Rattle.open_incidents.proofs.held.place_of.Goals as goal

pub returns-in-None-clause-place : goal.returns-in-None-clause-place
returns-in-None-clause-place c = place_last c.args.number c.args.numbers.now (sym c.first_above.ensures ∙ c.in-None.is)
