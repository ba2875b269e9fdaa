-- The plan of an account that is declared, or is not, or has one for the class.
use Rattle.std.proofs.Common.{inr, refl}
use Rattle.accounts.proofs.StandLemmas.{located}
use Rattle.accounts.proofs.TakenLemmas.{plan-missing, plan-of-same, plan-of-taken}
use Rattle.accounts.proofs.table.Table.take_plan_of.Goals as goal

pub returns-in_default : goal.returns-in_default
returns-in_default c =
    rw c.no_account.ensures (inr (λ lines stands.
    plan-missing lines c.args.plan.line c.args.self.now stands c.args.account.now c.args.plan c.in_default.ensures.place))

pub returns-in-Some-find : goal.returns-in-Some-find
returns-in-Some-find c =
    rw c.two_same.ensures (inr (λ lines stands.
    let at = located lines c.args.self.now stands c.args.account.now c.in-Some.place c.in-Some.ensures.within c.in-Some.ensures.there in
    plan-of-same lines c.args.plan.line c.args.self.now stands c.args.account.now c.args.plan c.in-Some.place at c.at.result.now c.in-Some-find.same.now
    c.at.ensures c.in-Some-find.ensures))

pub returns-in-Ok : goal.returns-in-Ok
returns-in-Ok c = λ lines stands.
    let at = located lines c.args.self.now stands c.args.account.now c.in-Some.place c.in-Some.ensures.within c.in-Some.ensures.there in
    plan-of-taken lines c.args.plan.line c.args.self.now stands c.args.account.now c.args.plan c.in-Some.place at c.at.result.now _ refl
    c.at.ensures c.in_default-find.ensures c.in-Ok.ensures refl refl refl
