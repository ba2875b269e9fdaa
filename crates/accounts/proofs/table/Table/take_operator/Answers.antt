-- An operator that is new, or stands already, or is one too many.
use Rattle.std.proofs.Common.{inr, refl, arith}
use Rattle.accounts.proofs.TakenLemmas.{operator-same, operator-many, operator-faultless, operator-taken}
use Rattle.accounts.proofs.table.Table.take_operator.Goals as goal

pub returns-in-Some : goal.returns-in-Some
returns-in-Some c =
    rw c.two_same.ensures (inr (λ lines stands.
    operator-same lines c.args.number c.args.self.now stands c.args.operator c.in-Some.same.now c.in-Some.ensures))

pub returns-then-count-ge-OPERATOR_LIMIT : goal.returns-then-count-ge-OPERATOR_LIMIT
returns-then-count-ge-OPERATOR_LIMIT c =
    rw c.too_many.ensures (inr (λ lines stands.
    operator-many lines c.args.number c.args.self.now stands c.args.operator c.in_default.ensures (omega arith)))

pub returns-in-Ok : goal.returns-in-Ok
returns-in-Ok c = λ lines stands. (
  operator-faultless lines c.args.number c.args.self.now stands c.args.operator c.in_default.ensures (omega arith),
  operator-taken lines c.args.number c.args.self.now stands c.args.operator _ refl refl c.in-Ok.ensures refl,
)
