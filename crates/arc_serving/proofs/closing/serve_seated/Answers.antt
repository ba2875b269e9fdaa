use Rattle.line_gate.proofs.Carried.{later_further}
use Rattle.arc_serving.proofs.Seats.{taken_later}
use Rattle.arc_serving.proofs.closing.serve_seated.Goals as goal

-- the pass of the ticker was taken in before those of the workers
pub returns-clause-served : goal.returns-clause-served
returns-clause-served g c =
    let ran = c.serve_beside-workers in
    let ticker = c.take_in in
    let over = c.unseat_both in
    let unseats = over.ensures.unseats in record {
      lines' = ran.result.0.lines.items;
      desks' = ran.result.0.desks.items;
      ticker' = ran.result.1.0.pass;
      lines_done = ran.ensures.lines;
      desks_done = ran.ensures.desks;
      ticks = ran.ensures.ticks;
      later = later_further c.args.first.now ticker.new.pass over.new.first ticker.ensures.later unseats.later;
      taken = taken_later ticker.new.pass over.new.first ran.result.1.0.pass unseats.later (record { since = ticker.ensures.since; told = ticker.ensures.told });
      lines_over = unseats.lines_over;
      desks_over = unseats.desks_over;
      lines_came = over.ensures.came.0;
      desks_came = over.ensures.came.1;
    }
