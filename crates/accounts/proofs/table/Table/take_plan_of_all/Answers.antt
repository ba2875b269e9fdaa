-- A plan of all accounts that is new, or stands for the class already.
use Rattle.std.proofs.Common.{inr, refl}
use Rattle.accounts.proofs.TakenLemmas.{plan-same, plan-faultless, plan-taken}
use Rattle.accounts.proofs.table.Table.take_plan_of_all.Goals as goal

pub returns-in-Some : goal.returns-in-Some
returns-in-Some c =
    rw c.two_same.ensures (inr (λ lines stands.
    plan-same lines c.args.plan.line c.args.self.now stands c.args.plan c.in-Some.same.now c.in-Some.ensures))

pub returns-in-Ok : goal.returns-in-Ok
returns-in-Ok c = λ lines stands. (
  plan-faultless lines c.args.plan.line c.args.self.now stands c.args.plan c.in_default.ensures,
  plan-taken lines c.args.plan.line c.args.self.now stands c.args.plan _ refl refl c.in-Ok.ensures refl refl,
)
