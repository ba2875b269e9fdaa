use Rattle.arc_panel.proofs.Meanings.{one_meaning}
use Rattle.arc_panel.proofs.laws.law_one_meaning.Goals as goal

pub returns : goal.returns
returns c = one_meaning
