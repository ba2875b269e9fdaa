use Rattle.std.proofs.Common.{sym, ◌∙◌}
use Rattle.alarm_rules.specs.Setups.{meaning}
use Rattle.centre_core.proofs.Carried.{no_account, no_steps}
use Rattle.centre_core.proofs.carrying.steps_for.Goals as goal

pub returns-in_default : goal.returns-in_default
returns-in_default c account found =
    c.new.ensures ∙ sym (no_steps (meaning c.args.setup.now) account c.args.class c.args.at
    (no_account (meaning c.args.setup.now) account (sym found.is ∙ c.in_default.is)))
