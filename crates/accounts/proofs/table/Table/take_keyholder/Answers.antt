-- A keyholder of an account that is declared, or is not, or has one of that name, or has as many as it may.
use Rattle.std.proofs.Common.{inr, refl}
use Rattle.accounts.specs.Said.{said_keyholder}
use Rattle.accounts.proofs.StandLemmas.{located}
use Rattle.accounts.proofs.TakenLemmas.{keyholder-missing, keyholder-same, keyholder-many, keyholder-taken}
use Rattle.accounts.proofs.table.Table.take_keyholder.Goals as goal

pub returns-in_default : goal.returns-in_default
returns-in_default c =
    rw c.no_account.ensures (inr (λ lines stands.
    keyholder-missing lines c.args.number c.args.self.now stands (said_keyholder c.args.keyholder) c.in_default.ensures.place))

pub returns-in-Some-line_of : goal.returns-in-Some-line_of
returns-in-Some-line_of c =
    rw c.two_same.ensures (inr (λ lines stands.
    let at = located lines c.args.self.now stands c.args.keyholder.account c.in-Some.place c.in-Some.ensures.within c.in-Some.ensures.there in
    keyholder-same lines c.args.number c.args.self.now stands (said_keyholder c.args.keyholder) c.in-Some.place at c.at.result.now c.in-Some-line_of.first
    c.at.ensures c.in-Some-line_of.ensures))

pub returns-then-add_keyholder : goal.returns-then-add_keyholder
returns-then-add_keyholder c = λ lines stands.
    let at = located lines c.args.self.now stands c.args.keyholder.account c.in-Some.place c.in-Some.ensures.within c.in-Some.ensures.there in
    keyholder-taken lines c.args.number c.args.self.now stands (said_keyholder c.args.keyholder) c.in-Some.place at c.at.result.now c.add_keyholder.result _
    c.if-add_keyholder.true c.at.ensures c.in_default-line_of.ensures c.add_keyholder.ensures.room c.add_keyholder.ensures.added refl refl refl

pub returns-else-add_keyholder : goal.returns-else-add_keyholder
returns-else-add_keyholder c =
    rw c.too_many.ensures (inr (λ lines stands.
    let at = located lines c.args.self.now stands c.args.keyholder.account c.in-Some.place c.in-Some.ensures.within c.in-Some.ensures.there in
    keyholder-many lines c.args.number c.args.self.now stands (said_keyholder c.args.keyholder) c.in-Some.place at c.at.result.now c.add_keyholder.result
    c.if-add_keyholder.false c.at.ensures c.in_default-line_of.ensures c.add_keyholder.ensures.room))
