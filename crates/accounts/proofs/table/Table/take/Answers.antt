use Rattle.std.proofs.Common.{refl}
use Rattle.accounts.proofs.TakenLemmas.{nothing-taken}
use Rattle.accounts.proofs.table.Table.take.Goals as goal

pub returns-in-Skipped : goal.returns-in-Skipped
returns-in-Skipped c = rw c.in-Skipped.is (λ lines stands. (refl, nothing-taken lines c.args.number c.args.self.now stands))
