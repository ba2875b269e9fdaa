-- The mark is in the rows and in the table.
use Rattle.std.proofs.Common.{refl, ap}
use Rattle.centre_rules.specs.Marks.{Starts}
use Rattle.incidents.specs.Tables.{TableValue}
use Rattle.centre_core.proofs.Taking.{one_taken}
use Rattle.centre_core.proofs.marks.start.Goals as goal

pub returns-clause-taken : goal.returns-clause-taken
returns-clause-taken c =
    one_taken (Starts c.args.at) c.args.accounts.now.rows c.start.new.self.rows c.args.table.now c.start-2.new.self (λ text. refl) c.start.ensures.marked
    (ap (λ (y : TableValue). y.opened) (c.start-2.ensures.marked c.args.at)) (ap (λ (y : TableValue). y.incidents) (c.start-2.ensures.marked c.args.at)) c.start-2.ensures.few c.start-2.ensures.room
