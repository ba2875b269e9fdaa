use Rattle.std.proofs.Common.{refl}
use Rattle.desk_session.proofs.ask.ask.Goals as goal

pub returns-in-Ok-print-clause-asked : goal.returns-in-Ok-print-clause-asked
returns-in-Ok-print-clause-asked g c b h s = record {
  reading = c.now-reading.result;
  took = record {
    entry = record { caller = c.in-Ok.done.caller; event = c.args.event; at = c.in-Ok.done.at; reply = c.in-Ok.done.reply };
    goes = c.in-Ok.ensures.done b h s;
    by = c.in-Ok.ensures.by;
    of = refl;
  };
  put =
      let put = rw c.now-reading.ensures.told at c.in-Ok-print.ensures in
      record { taken = put.taken; cause = record { later = put.cause.later; failed = put.cause.failed }; others = put.others };
}

pub returns-in-Err-print-clause-asked : goal.returns-in-Err-print-clause-asked
returns-in-Err-print-clause-asked g c b h s = record {
  reading = c.now-reading.result;
  took = record {
    entry = record { caller = c.in-Ok.done.caller; event = c.args.event; at = c.in-Ok.done.at; reply = c.in-Ok.done.reply };
    goes = c.in-Ok.ensures.done b h s;
    by = c.in-Ok.ensures.by;
    of = refl;
  };
  put =
      let put = rw c.now-reading.ensures.told at c.in-Err-print.ensures in
      record { taken = put.taken; cause = record { later = put.cause.later; failed = put.cause.failed }; others = put.others };
}
