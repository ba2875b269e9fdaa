-- The store is the one that the disk is opened as.
use Rattle.std.proofs.Common.{◌∙◌, ap}
use Rattle.centre_rules.specs.State.{State}
use Rattle.test_fixtures.proofs.stores.recorded.Goals as goal

pub returns : goal.returns
returns g c = (c.in_ok-store.store, c.in_ok-store.ensures.opened, c.recorded.ensures ∙ ap (λ (s : State). s.sum.recorded) c.centre.ensures)
