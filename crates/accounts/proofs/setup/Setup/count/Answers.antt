use Rattle.std.proofs.Common.{ap, ◌∙◌, length, arith}
use Rattle.alarm_rules.specs.Setups.{meaning}
use Rattle.accounts.proofs.MeaningLemmas.{count-read, few-read}
use Rattle.accounts.proofs.setup.Setup.count.Goals as goal

pub returns-clause-value : goal.returns-clause-value
returns-clause-value c = c.count.ensures ∙ count-read _ _ c.self.invariant ∙ ap (λ text. length (meaning text).accounts) c.self.view_is

pub returns-clause-few : goal.returns-clause-few
returns-clause-few c = omega (arith, c.count.ensures, few-read _ _ c.self.invariant)
