use Rattle.std.proofs.Common.{◌≡◌, None, Option, sym, ap, ◌∙◌}
use Rattle.alarm_rules.specs.Setups.{Account, meaning, account_of}
use Rattle.centre_rules.specs.Carrying.{is_irregular}
use Rattle.centre_core.proofs.Carried.{no_account}
use Rattle.centre_core.proofs.carrying.is_irregular.Goals as goal

pub returns-in_default-place : goal.returns-in_default-place
returns-in_default-place c account found =
    let lacks : account_of (meaning c.args.setup.now) account ≡ None = no_account (meaning c.args.setup.now) account (sym found.is ∙ c.in_default-place.is) in
    sym (ap (λ (a : Option Account). is_irregular a c.args.kind c.args.at) lacks)
