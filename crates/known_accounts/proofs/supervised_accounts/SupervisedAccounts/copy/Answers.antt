-- The same rows were opened at the same moments.
use Rattle.std.proofs.Common.{◌≡◌, Option, sym, subst}
use Rattle.std.specs.Prelude.{IfSome}
use Rattle.centre_rules.specs.History.{IsMoment}
use Rattle.centre_rules.specs.Summary.{AccountRow}
use Rattle.known_accounts.specs.Rows.{known, row_in}
use Rattle.arc_data.specs.declared.incident.Opened.{Opened}
use Rattle.known_accounts.proofs.supervised_accounts.SupervisedAccounts.copy.Goals as goal

pub of-requires : goal.of-requires
of-requires c a =
    let same : (known c.in_ok-rows.rows.start c.in_ok-rows.rows.rows a).opening ≡ (row_in c.self.inside.rows a).opening =
    λ i. (known (c.in_ok-rows.ensures.start i) (c.in_ok-rows.ensures.rows i) a).opening in
    subst (λ (o : Option Opened). IfSome o (λ x. IsMoment x.at)) (sym same) (c.self.invariant.openings a)
