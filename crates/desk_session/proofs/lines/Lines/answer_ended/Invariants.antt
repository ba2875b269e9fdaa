use Rattle.std.proofs.Common.{◌≡◌, ◌≤◌, ◌-◌, ◌++◌, List, ℕ, length, take, true, Ok}
use Rattle.alarm_rules.specs.Setups.{meaning}
use Rattle.arc_io.specs.Added.{Answers}
use Rattle.centre_core.specs.Halls.{IsKept}
use Rattle.centre_rules.specs.Summary.{Summary}
use Rattle.centre_rules.specs.History.{Entry}
use Rattle.desk_session.specs.Desks.{HasTaken, ServesBytes}
use Rattle.desk_session.specs.Events.{is_named, line_limit}
use Rattle.desk_session.proofs.lines.Lines.answer_ended.Given as goal

abbrev pub invariant-loop-at : goal.invariant-loop-at
invariant-loop-at g l = record {
  within : l.at ≤ length l.bytes;
  limit : l.self.cutter.limit ≡ line_limit;
  named : is_named l.self.operator ≡ true;
  kept : IsKept (g.H.Hall.seen l.initial.hall) (g.H.Hall.seen l.hall);
  fed : (stream : List ℕ) → HasTaken (meaning (g.H.Hall.seen l.initial.hall).text) stream l.initial.self.cutter l.initial.self.operator
      → HasTaken (meaning (g.H.Hall.seen l.initial.hall).text) (stream ++ take l.at l.bytes) l.self.cutter l.self.operator;
  served : (stream : List ℕ) (b : Summary) (h : List Entry) → HasTaken (meaning (g.H.Hall.seen l.initial.hall).text) stream l.initial.self.cutter l.initial.self.operator
      → (g.H.Hall.seen l.initial.hall).stands b h
      → ServesBytes (Ok tt) stream (take l.at l.bytes) b h (g.H.Hall.seen l.initial.hall) (g.H.Hall.seen l.hall) (g.P.Ends.seen l.initial.port) (g.P.Ends.seen l.port);
  port : Answers ⊥ (g.P.Ends.seen l.initial.port) (g.P.Ends.seen l.port);
}

abbrev pub decreases-loop-at : goal.decreases-loop-at
decreases-loop-at g l = length l.bytes - l.at
