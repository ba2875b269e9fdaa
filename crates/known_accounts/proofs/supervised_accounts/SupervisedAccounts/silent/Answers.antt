-- The places are those of the accounts that pass the test.
use Rattle.std.proofs.Common.{[], subst, arith}
use Rattle.std.specs.List.{filter}
use Rattle.centre_rules.specs.Carrying.{is_silent}
use Rattle.known_accounts.specs.Supervised.{SupervisedValue, ArePlacesOf, accounts_in, rows_sum}
use Rattle.known_accounts.proofs.Overdue.{silent_places}
use Rattle.known_accounts.proofs.supervised_accounts.SupervisedAccounts.silent.Goals as goal

pub returns : goal.returns
returns c =
    let places = c.due.new.out in
    subst (λ (s : SupervisedValue). ArePlacesOf places (accounts_in s.text) (filter (is_silent (rows_sum s.rows) [] c.args.at) (accounts_in s.text)))
    c.self.view_is
    (silent_places c.args.at (omega (arith, c.ranges.at.fits)) c.self.inside.setup c.self.inside.rows places c.self.inside.deadlines.silence c.in_ok-due.ensures
    c.self.invariant.deadlines.silence)
