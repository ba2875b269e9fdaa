use Rattle.std.proofs.Common.{Some, None, ap, ◌∙◌}
use Rattle.alarm_rules.specs.Setups.{meaning, operator_of}
use Rattle.accounts.proofs.MeaningLemmas.{operator-read}
use Rattle.accounts.proofs.setup.Setup.operator.Goals as goal

pub returns-in-Some : goal.returns-in-Some
returns-in-Some c =
    operator-read _ _ c.self.invariant c.args.name.now (Some c.in-Some.entry.now) c.in-Some.ensures
    ∙ ap (λ text. operator_of (meaning text) c.args.name.now) c.self.view_is

pub returns-in-None : goal.returns-in-None
returns-in-None c =
    operator-read _ _ c.self.invariant c.args.name.now None c.in-None.ensures ∙ ap (λ text. operator_of (meaning text) c.args.name.now) c.self.view_is
