use Rattle.std.proofs.Common.{◌-◌}
use Rattle.centre_core.specs.Halls.{IsKept}
use Rattle.session_rules.specs.Inputs.{input_limit}
use Rattle.line_session.specs.Sessions.{IsLine}
use Rattle.line_session.proofs.SoFar.{SoFar}
use Rattle.line_session.proofs.line.serve_line.Given as goal

abbrev pub invariant-pieces : goal.invariant-pieces
invariant-pieces g l = record {
  kept : IsKept (g.H.Hall.seen l.initial.hall) (g.H.Hall.seen l.hall);
  done : SoFar IsLine l.name l.state (g.H.Hall.seen l.initial.hall) (g.H.Hall.seen l.hall) (g.P.Ends.seen l.initial.port) (g.P.Ends.seen l.port);
}

abbrev pub decreases-pieces : goal.decreases-pieces
decreases-pieces g l = input_limit - l.state.count
