-- The incident that is changed goes on to have its number, account and class.
use Rattle.std.proofs.Common.{refl}
use Rattle.incidents.specs.Tables.{held}
use Rattle.incidents.proofs.Kept.{changed_kept}
use Rattle.incidents.proofs.table.Table.hold.Goals as goal

pub invariant_of-self : goal.invariant_of-self
invariant_of-self c =
    rw c.hold.ensures.held (changed_kept c.args.number c.self.inside.opened c.self.inside.room _ _ (held c.args.holder c.args.at) c.self.inside.slots.incidents c.self.invariant (λ i. record { number = refl; account = refl; class = refl }))
