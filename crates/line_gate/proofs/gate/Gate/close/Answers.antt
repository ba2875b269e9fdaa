use Rattle.std.proofs.Common.{⊎_elim, sym, ◌∙◌}
use Rattle.std.proofs.lemmas.Bool.{false≢true}
use Rattle.line_gate.proofs.gate.Gate.close.Goals as goal

pub returns-clause-stands : goal.returns-clause-stands
returns-clause-stands g c = ⊎_elim (λ stands. stands) (λ broken. absurd (false≢true (sym c.requires.single ∙ broken.groups))) c.close_any.ensures.stands
