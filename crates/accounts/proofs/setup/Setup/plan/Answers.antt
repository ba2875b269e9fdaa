use Rattle.std.proofs.Common.{ap, length, arith}
use Rattle.alarm_rules.specs.Setups.{meaning}
use Rattle.accounts.proofs.MeaningLemmas.{count-read, plan-read}
use Rattle.accounts.proofs.setup.Setup.plan.Goals as goal

pub at-requires : goal.at-requires
at-requires c = omega (arith, c.requires, count-read _ _ c.self.invariant, ap (λ text. length (meaning text).accounts) c.self.view_is)

pub returns : goal.returns
returns c =
    let plan = plan-read _ _ c.self.invariant c.args.place c.at.result.now c.args.class _ _ c.at.ensures c.plan-own.ensures c.plan-general.ensures in
    rw (← c.self.view_is, c.unwrap_or.ensures, c.or.ensures, c.note.ensures) plan
