-- A lapse, where no line before says one, or one does.
use Rattle.std.proofs.Common.{inr, refl}
use Rattle.accounts.proofs.TakenLemmas.{lapse-same, lapse-faultless, lapse-taken}
use Rattle.accounts.proofs.table.Table.take_lapse.Goals as goal

pub returns-in-Some : goal.returns-in-Some
returns-in-Some c =
    rw c.two_same.ensures (inr (λ lines stands.
    lapse-same lines c.args.number c.args.self.now stands c.args.seconds c.in-Some.same c.in-Some.is))

pub returns : goal.returns
returns c = λ lines stands. (
  lapse-faultless lines c.args.number c.args.self.now stands c.args.seconds c.in_default.is,
  lapse-taken lines c.args.number c.args.self.now stands c.args.seconds _ c.in_default.is refl refl refl refl,
)
