use Rattle.std.proofs.Common.{ap, length, arith}
use Rattle.alarm_rules.specs.Setups.{meaning}
use Rattle.accounts.proofs.MeaningLemmas.{count-read, account-read, holders-read}
use Rattle.accounts.proofs.setup.Setup.account.Goals as goal

pub at-requires : goal.at-requires
at-requires c = omega (arith, c.requires, count-read _ _ c.self.invariant, ap (λ text. length (meaning text).accounts) c.self.view_is)

pub returns-clause-value : goal.returns-clause-value
returns-clause-value c = rw (← c.self.view_is) (account-read _ _ c.self.invariant c.args.place _ c.at.ensures)

pub returns-clause-holders : goal.returns-clause-holders
returns-clause-holders c = holders-read _ _ c.self.invariant c.args.place _ c.at.ensures
