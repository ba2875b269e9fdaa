-- Where the reply is Recorded, the table has the mark; any other reply leaves none.
use Rattle.std.proofs.Common.{refl}
use Rattle.centre_rules.specs.Marks.{Acts}
use Rattle.centre_rules.specs.History.{acted_by}
use Rattle.centre_core.proofs.Taking.{table_taken, rows_acts, none_by, act_other}
use Rattle.centre_core.proofs.marks.act.Goals as goal

pub returns-in-Recorded : goal.returns-in-Recorded
returns-in-Recorded c v =
    let a = acted_by c.args.operator c.args.step c.args.outcome c.args.at in
    rw c.in-Recorded.is
    (table_taken (Acts c.in-Recorded.number a) v c.args.table.now c.act.new.self (λ text. refl) (rows_acts c.in-Recorded.number a v)
    c.act.ensures.marked c.act.ensures.few (λ r. c.act.ensures.room))

pub returns-in_default : goal.returns-in_default
returns-in_default c v = none_by _ v c.args.table.now (act_other (acted_by c.args.operator c.args.step c.args.outcome c.args.at) c.args.reply.now c.in_default.not-Recorded)
