-- All deadlines are set for the setup that comes into force.
use Rattle.std.specs.Prelude.{IsOk}
use Rattle.std.proofs.Common.{sym, subst}
use Rattle.alarm_rules.specs.Setups.{setup_of}
use Rattle.known_accounts.specs.declared.watched_setup.WatchedParts.{WatchedParts}
use Rattle.known_accounts.proofs.supervised_accounts.SupervisedAccounts.adopt.Goals as goal

pub invariant_of-self : goal.invariant_of-self
invariant_of-self c = record {
  valid = subst (λ (p : WatchedParts). IsOk (setup_of p.setup)) (sym c.into_inner-setup.ensures) c.watched.invariant.valid;
  openings = c.self.invariant.openings;
  deadlines = c.renew_all.ensures;
}
