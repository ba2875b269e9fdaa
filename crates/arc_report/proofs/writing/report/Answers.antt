use Rattle.std.proofs.Common.{◌++◌, codes, decimal, sym}
use Rattle.centre_rules.specs.Standing.{standing_of, last_standing}
use Rattle.arc_report.specs.Reports.{table_of}
use Rattle.desk_wire.specs.Replies.{ended}
use Rattle.arc_report.proofs.Parts.{puts_next, puts_short}
use Rattle.arc_report.proofs.writing.report.Goals as goal

pub returns-in-Ok : goal.returns-in-Ok
returns-in-Ok g c =
    rw (sym c.recorded.ensures, sym c.table.ensures.incidents, sym c.last.ensures, sym c.lapse.ensures)
    (puts_next c.in-Ok.field-0 c.put_table.result (codes "recorded " ++ ended (decimal c.recorded.result))
    (table_of (standing_of c.lapse.result c.last.result c.table.result.now.incidents)) c.in-Ok.ensures c.put_table.ensures)

pub returns-in-Err : goal.returns-in-Err
returns-in-Err g c =
    rw (sym c.recorded.ensures)
    (puts_short {T = Unit {0}} c.in-Err.fault (codes "recorded " ++ ended (decimal c.recorded.result)) (table_of (last_standing c.args.centre.now.sum)) c.in-Err.ensures)
