use Rattle.std.proofs.Common.{◌++◌, codes, decimal}
use Rattle.arc_report.proofs.Parts.{puts_next, puts_short}
use Rattle.arc_server.proofs.summary.put_open.Goals as goal

pub returns-in-Ok : goal.returns-in-Ok
returns-in-Ok g c = puts_next c.in-Ok.field-0 c.put.result (codes ", open " ++ decimal c.args.count) (codes "\n") c.in-Ok.ensures c.put.ensures

pub returns-in-Err : goal.returns-in-Err
returns-in-Err g c = puts_short {T = Unit {0}} c.in-Err.fault (codes ", open " ++ decimal c.args.count) (codes "\n") c.in-Err.ensures
