-- Where the reply is Closed, the table has the mark; any other reply leaves none.
use Rattle.std.proofs.Common.{refl}
use Rattle.centre_rules.specs.Marks.{Closes}
use Rattle.centre_core.proofs.Taking.{one_taken, rows_closes, none_by, close_other}
use Rattle.centre_core.proofs.marks.close.Goals as goal

pub returns-in-Closed : goal.returns-in-Closed
returns-in-Closed c v =
    rw c.in-Closed.is
    (one_taken (Closes c.in-Closed.number) v v c.args.table.now c.close.new.self (λ text. refl) (rows_closes c.in-Closed.number v)
    c.close.ensures.opened c.close.ensures.incidents c.close.ensures.few c.close.ensures.room)

pub returns-in_default : goal.returns-in_default
returns-in_default c v = none_by _ v c.args.table.now (close_other c.args.reply.now c.in_default.not-Closed)
