-- The places are those of the accounts that pass the test.
use Rattle.std.proofs.Common.{[], subst, arith}
use Rattle.std.specs.List.{filter}
use Rattle.centre_rules.specs.Carrying.{is_late}
use Rattle.known_accounts.specs.Supervised.{SupervisedValue, ArePlacesOf, accounts_in, rows_sum}
use Rattle.known_accounts.proofs.Overdue.{late_places}
use Rattle.known_accounts.proofs.supervised_accounts.SupervisedAccounts.late.Goals as goal

pub returns : goal.returns
returns c =
    let places = c.due.new.out in
    subst (λ (s : SupervisedValue). ArePlacesOf places (accounts_in s.text) (filter (is_late (rows_sum s.rows) [] c.args.at) (accounts_in s.text)))
    c.self.view_is
    (late_places c.args.at (omega (arith, c.ranges.at.fits)) c.self.inside.setup c.self.inside.rows places c.self.inside.deadlines.lateness c.in_ok-due.ensures
    c.self.invariant.deadlines.lateness)
