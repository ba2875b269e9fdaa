use Rattle.std.proofs.Common.{◌≤◌, ◌-◌, ◌++◌, List, ℕ, All, length, take}
use Rattle.alarm_rules.specs.Setups.{meaning}
use Rattle.arc_io.specs.Added.{Answers}
use Rattle.centre_core.specs.Halls.{IsKept}
use Rattle.centre_rules.specs.Summary.{Summary}
use Rattle.centre_rules.specs.History.{Entry}
use Rattle.dc09_frame.specs.Cutting.{WasFed}
use Rattle.session_rules.specs.Sessions.{changed}
use Rattle.line_session.specs.Dues.{IsDueUnder}
use Rattle.line_session.proofs.GroupServed.{HoldsBytes}
use Rattle.line_session.proofs.pieces.Pieces.answer_together.Given as goal

abbrev pub invariant-loop-at : goal.invariant-loop-at
invariant-loop-at g l = record {
  within : l.at ≤ length l.bytes;
  kept : IsKept (g.H.Hall.seen l.initial.hall) (g.H.Hall.seen l.hall);
  dues : All (IsDueUnder (meaning (g.H.Hall.seen l.hall).text)) l.waiting.dues.items;
  fed : (stream : List ℕ) → WasFed stream l.initial.self.cutter → WasFed (stream ++ take l.at l.bytes) l.self.cutter;
  held : (stream : List ℕ) (b : Summary) (h : List Entry) → WasFed stream l.initial.self.cutter → (g.H.Hall.seen l.initial.hall).stands b h
      → HoldsBytes l.name stream (take l.at l.bytes) b h l.waiting (changed (g.H.Hall.seen l.initial.hall) (g.H.Hall.seen l.hall) (g.P.Ends.seen l.initial.port) (g.P.Ends.seen l.port));
  port : Answers ⊥ (g.P.Ends.seen l.initial.port) (g.P.Ends.seen l.port);
}

abbrev pub decreases-loop-at : goal.decreases-loop-at
decreases-loop-at g l = length l.bytes - l.at
