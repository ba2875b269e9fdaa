use Rattle.std.proofs.Common.{◌≡◌, All, length}
use Rattle.alarm_rules.specs.Setups.{meaning}
use Rattle.line_session.specs.Dues.{IsDueUnder}
use Rattle.line_session.proofs.Sending.{SentSoFar}
use Rattle.line_session.proofs.waiting.Waiting.send.Given as goal

abbrev pub invariant-loop-due : goal.invariant-loop-due
invariant-loop-due g l = record {
  sent : SentSoFar (meaning (g.H.Hall.seen l.hall).text) l.initial.self.dues.items l.self.dues.items l.count l.left (g.P.Ends.seen l.initial.port) (g.P.Ends.seen l.port);
  dues : All (IsDueUnder (meaning (g.H.Hall.seen l.hall).text)) l.self.dues.items;
  calls : l.self.batch ≡ l.initial.self.batch;
}

abbrev pub decreases-loop-due : goal.decreases-loop-due
decreases-loop-due g l = length l.self.dues.items
