-- The text is that of the state.
use Rattle.std.proofs.Common.{sym, ap}
use Rattle.centre_rules.specs.State.{State}
use Rattle.centre_core.proofs.centre.Centre.lapse.Goals as goal

pub returns : goal.returns
returns c = c.lapse_by.ensures c.args.self.now.sum (ap (λ (s : State). s.sum.text) (sym c.self.view_is))
