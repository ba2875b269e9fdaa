use Rattle.std.proofs.Common.{◌++◌, ℕ, List, All, Ok, length}
use Rattle.alarm_rules.specs.Setups.{meaning}
use Rattle.arc_io.specs.Added.{Answers}
use Rattle.centre_core.specs.Halls.{IsKept}
use Rattle.centre_rules.specs.Summary.{Summary}
use Rattle.centre_rules.specs.History.{Entry}
use Rattle.session_rules.specs.Sessions.{changed}
use Rattle.line_session.specs.Dues.{Asked, IsDueUnder, IsReached, bodies_in}
use Rattle.line_session.specs.Groups.{IsHeld, IsHeldOrEnded}
use Rattle.line_session.proofs.waiting.Waiting.answer.Given as goal

abbrev pub invariant-loop-alloc : goal.invariant-loop-alloc
invariant-loop-alloc g l = record {
  kept : IsKept (g.H.Hall.seen l.fn.hall) (g.H.Hall.seen l.hall);
  reached : IsReached 0 l.self.dues.items;
  dues : All (IsDueUnder (meaning (g.H.Hall.seen l.hall).text)) l.self.dues.items;
  answers : (name : List ℕ) (b : Summary) (h : List Entry) (bodies : List (List ℕ)) (asked later : List Asked) (first : g.row.H.Denot) (from : g.row.P.Denot)
      → IsHeld name b h bodies asked later l.fn.self (changed (g.H.Hall.seen first) (g.H.Hall.seen l.fn.hall) (g.P.Ends.seen from) (g.P.Ends.seen l.fn.port))
      → IsHeldOrEnded (Ok tt) name b h (bodies ++ bodies_in (asked ++ later)) later l.self (changed (g.H.Hall.seen first) (g.H.Hall.seen l.hall) (g.P.Ends.seen from) (g.P.Ends.seen l.port));
  port : Answers ⊥ (g.P.Ends.seen l.fn.port) (g.P.Ends.seen l.port);
}

abbrev pub decreases-loop-alloc : goal.decreases-loop-alloc
decreases-loop-alloc g l = length l.self.batch
