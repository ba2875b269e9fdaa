-- A window of an account that is declared, or is not, or has as many as it may.
use Rattle.std.proofs.Common.{inr, refl}
use Rattle.accounts.specs.Said.{said_hours}
use Rattle.accounts.proofs.StandLemmas.{located}
use Rattle.accounts.proofs.TakenLemmas.{hours-missing, hours-many, hours-taken}
use Rattle.accounts.proofs.table.Table.take_hours.Goals as goal

pub returns-in_default : goal.returns-in_default
returns-in_default c =
    rw c.no_account.ensures (inr (λ lines stands.
    hours-missing lines c.args.number c.args.self.now stands (said_hours c.args.hours) c.in_default.ensures.place))

pub returns-then-add_window : goal.returns-then-add_window
returns-then-add_window c = λ lines stands.
    let at = located lines c.args.self.now stands c.args.hours.account c.in-Some.place c.in-Some.ensures.within c.in-Some.ensures.there in
    hours-taken lines c.args.number c.args.self.now stands (said_hours c.args.hours) c.in-Some.place at c.add_window.result _ c.if-add_window.true
    c.add_window.ensures.room c.add_window.ensures.added refl refl refl

pub returns-else-add_window : goal.returns-else-add_window
returns-else-add_window c =
    rw c.too_many.ensures (inr (λ lines stands.
    let at = located lines c.args.self.now stands c.args.hours.account c.in-Some.place c.in-Some.ensures.within c.in-Some.ensures.there in
    hours-many lines c.args.number c.args.self.now stands (said_hours c.args.hours) c.in-Some.place at c.add_window.result c.if-add_window.false
    c.add_window.ensures.room))
