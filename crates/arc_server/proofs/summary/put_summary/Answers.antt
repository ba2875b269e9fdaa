use Rattle.std.proofs.Common.{◌++◌, codes, decimal, length, sym}
use Rattle.arc_report.proofs.Parts.{puts_next, puts_short}
use Rattle.arc_server.proofs.summary.put_summary.Goals as goal

pub returns-in-Ok : goal.returns-in-Ok
returns-in-Ok g c =
    rw (sym c.recorded.ensures, sym c.table.ensures.incidents, sym c.count.ensures)
    (puts_next c.in-Ok.field-0 c.put_open.result (codes "recorded " ++ decimal c.recorded.result)
    ((codes ", open " ++ decimal c.count.result) ++ codes "\n") c.in-Ok.ensures c.put_open.ensures)

pub returns-in-Err : goal.returns-in-Err
returns-in-Err g c =
    rw (sym c.recorded.ensures)
    (puts_short {T = Unit {0}} c.in-Err.fault (codes "recorded " ++ decimal c.recorded.result)
    ((codes ", open " ++ decimal (length c.args.centre.now.sum.incidents)) ++ codes "\n") c.in-Err.ensures)
