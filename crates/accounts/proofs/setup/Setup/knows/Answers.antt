use Rattle.std.proofs.Common.{ap, ◌∙◌, is_some}
use Rattle.alarm_rules.specs.Setups.{meaning, has_account}
use Rattle.accounts.proofs.MeaningLemmas.{copied-some, knows-read}
use Rattle.accounts.proofs.setup.Setup.knows.Goals as goal

pub returns : goal.returns
returns c =
    c.is_some.ensures ∙ copied-some c.find.result ∙ ap is_some c.find.ensures ∙ knows-read _ _ c.self.invariant c.args.account.now
    ∙ ap (λ text. has_account (meaning text) c.args.account.now) c.self.view_is
