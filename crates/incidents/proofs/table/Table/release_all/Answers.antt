-- Each incident goes on to have its number, account and class.
use Rattle.std.proofs.Common.{refl, None}
use Rattle.incidents.specs.Tables.{held}
use Rattle.incidents.proofs.Kept.{alike_kept}
use Rattle.incidents.proofs.table.Table.release_all.Goals as goal

pub invariant_of-self : goal.invariant_of-self
invariant_of-self c =
    rw c.release_all.ensures (alike_kept c.self.inside.opened c.self.inside.room _ _ (held None 0) c.self.inside.slots.incidents c.self.invariant (λ i. record { number = refl; account = refl; class = refl }))
