-- Both deadlines of the account at the place are set.
use Rattle.std.proofs.Common.{◌∙◌, sym, ap, subst}
use Rattle.std.specs.Prelude.{IfSome, Option, slice_set}
use Rattle.centre_rules.specs.History.{IsMoment}
use Rattle.centre_rules.specs.Summary.{Opened}
use Rattle.known_accounts.specs.Rows.{row_in}
use Rattle.known_accounts.specs.Roomed.{IsRenewed}
use Rattle.known_accounts.specs.Supervised.{lateness_after}
use Rattle.known_accounts.proofs.deadlines.Deadlines.renew.Goals as goal

pub lateness-requires : goal.lateness-requires
lateness-requires c =
    subst (λ (o : Option Opened). IfSome o (λ x. IsMoment x.at)) (sym c.known-known.ensures.opening) (c.requires.openings c.account-account.result.now.number)

pub returns-clause-renewed : goal.returns-clause-renewed
returns-clause-renewed c =
    rw c.account-account.ensures.value
    (record {
      silence = c.set.ensures ∙ ap (slice_set c.args.self.now.silence c.args.place) (c.silence.ensures _ c.known-known.ensures);
      lateness = c.set-2.ensures ∙ ap (slice_set c.args.self.now.lateness c.args.place)
          (c.lateness.ensures ∙ ap (λ (o : Option Opened). lateness_after o c.account-account.result.now.week) c.known-known.ensures.opening);
    })
