-- Where the reply is Claimed, the table has the mark; any other reply leaves none.
use Rattle.std.proofs.Common.{refl}
use Rattle.centre_rules.specs.Marks.{Claims}
use Rattle.centre_core.proofs.Taking.{table_taken, rows_claims, none_by, claim_other}
use Rattle.centre_core.proofs.marks.claim.Goals as goal

pub returns-in-Claimed : goal.returns-in-Claimed
returns-in-Claimed c v =
    rw c.in-Claimed.is
    (table_taken (Claims c.args.operator c.in-Claimed.number c.args.at) v c.args.table.now c.claim.new.self (λ text. refl) (rows_claims c.args.operator c.in-Claimed.number c.args.at v)
    c.claim.ensures.marked c.claim.ensures.few c.claim.ensures.room)

pub returns-in_default : goal.returns-in_default
returns-in_default c v = none_by _ v c.args.table.now (claim_other c.args.operator c.args.at c.args.reply.now c.in_default.not-Claimed)
