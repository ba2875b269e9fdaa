use Rattle.std.proofs.Common.{decimal}
use Rattle.desk_wire.specs.Replies.{ended}
use Rattle.arc_report.proofs.Parts.{puts_next, puts_short}
use Rattle.arc_report.proofs.writing.put_count.Goals as goal

pub returns-in-Ok : goal.returns-in-Ok
returns-in-Ok g c = puts_next c.in-Ok.field-0 c.put_number.result c.args.word.now (ended (decimal c.args.count)) c.in-Ok.ensures c.put_number.ensures

pub returns-in-Err : goal.returns-in-Err
returns-in-Err g c = puts_short {T = Unit {0}} c.in-Err.fault c.args.word.now (ended (decimal c.args.count)) c.in-Err.ensures
