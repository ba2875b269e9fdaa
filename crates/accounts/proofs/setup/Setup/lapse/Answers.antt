use Rattle.std.proofs.Common.{Some, None, ap, ◌∙◌}
use Rattle.alarm_rules.specs.Setups.{meaning}
use Rattle.accounts.proofs.MeaningLemmas.{lapse-read}
use Rattle.accounts.proofs.setup.Setup.lapse.Goals as goal

pub returns-in-Some : goal.returns-in-Some
returns-in-Some c =
    lapse-read _ _ c.self.invariant (Some c.in-Some.entry) c.in-Some.is ∙ ap (λ text. (meaning text).lapse) c.self.view_is

pub returns-in-None : goal.returns-in-None
returns-in-None c = lapse-read _ _ c.self.invariant None c.in-None.is ∙ ap (λ text. (meaning text).lapse) c.self.view_is
