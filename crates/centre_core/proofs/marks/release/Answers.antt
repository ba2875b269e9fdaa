-- Where the reply is Released, the table has the mark; any other reply leaves none.
use Rattle.std.proofs.Common.{refl}
use Rattle.centre_rules.specs.Marks.{Releases}
use Rattle.centre_core.proofs.Taking.{table_taken, rows_releases, none_by, release_other}
use Rattle.centre_core.proofs.marks.release.Goals as goal

pub returns-in-Released : goal.returns-in-Released
returns-in-Released c v =
    rw c.in-Released.is
    (table_taken (Releases c.in-Released.number) v c.args.table.now c.release.new.self (λ text. refl) (rows_releases c.in-Released.number v)
    c.release.ensures.marked c.release.ensures.few c.release.ensures.room)

pub returns-in_default : goal.returns-in_default
returns-in_default c v = none_by _ v c.args.table.now (release_other c.args.reply.now c.in_default.not-Released)
