use Rattle.std.proofs.Common.{decimal}
use Rattle.arc_report.proofs.Parts.{puts_next, puts_short}
use Rattle.arc_server.proofs.summary.put_counted.Goals as goal

pub returns-in-Ok : goal.returns-in-Ok
returns-in-Ok g c = puts_next c.in-Ok.field-0 c.put_decimal.result c.args.word.now (decimal c.args.count) c.in-Ok.ensures c.put_decimal.ensures

pub returns-in-Err : goal.returns-in-Err
returns-in-Err g c = puts_short {T = Unit {0}} c.in-Err.fault c.args.word.now (decimal c.args.count) c.in-Err.ensures
