use Rattle.line_gate.proofs.Carried.{later_further}
use Rattle.arc_serving.proofs.Seats.{unseated_later}
use Rattle.arc_serving.proofs.closing.unseat_both.Goals as goal

-- what the pass took in of lines it still has when it has taken in those of desks
pub returns-clause-unseats : goal.returns-clause-unseats
returns-clause-unseats g c =
    let lines = c.unseat-lines in
    let desks = c.unseat-desks in record {
      later = later_further c.args.first.now lines.new.first desks.new.first lines.ensures.later desks.ensures.later;
      lines_over = unseated_later lines.new.first desks.new.first c.args.lines.jobs.items _ _ desks.ensures.later lines.ensures.unseated;
      desks_over = desks.ensures.unseated;
    }
