use Rattle.std.proofs.Common.{◌≤◌, ◌-◌, ◌++◌, List, ℕ, length, take, Ok}
use Rattle.arc_io.specs.Added.{Answers}
use Rattle.centre_core.specs.Halls.{IsKept}
use Rattle.centre_rules.specs.Summary.{Summary}
use Rattle.centre_rules.specs.History.{Entry}
use Rattle.dc09_frame.specs.Cutting.{WasFed}
use Rattle.session_rules.specs.Sessions.{changed}
use Rattle.line_session.specs.Lines.{ServesBytes}
use Rattle.line_session.proofs.pieces.Pieces.answer_whole.Given as goal

abbrev pub invariant-loop-at : goal.invariant-loop-at
invariant-loop-at g l = record {
  within : l.at ≤ length l.bytes;
  kept : IsKept (g.H.Hall.seen l.initial.hall) (g.H.Hall.seen l.hall);
  fed : (stream : List ℕ) → WasFed stream l.initial.self.cutter → WasFed (stream ++ take l.at l.bytes) l.self.cutter;
  served : (stream : List ℕ) (b : Summary) (h : List Entry) → WasFed stream l.initial.self.cutter → (g.H.Hall.seen l.initial.hall).stands b h
      → ServesBytes l.name (Ok tt) stream (take l.at l.bytes) b h (changed (g.H.Hall.seen l.initial.hall) (g.H.Hall.seen l.hall) (g.P.Ends.seen l.initial.port) (g.P.Ends.seen l.port));
  port : Answers ⊥ (g.P.Ends.seen l.initial.port) (g.P.Ends.seen l.port);
}

abbrev pub decreases-loop-at : goal.decreases-loop-at
decreases-loop-at g l = length l.bytes - l.at
