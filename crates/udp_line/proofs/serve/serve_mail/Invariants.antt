use Rattle.centre_core.specs.Halls.{IsKept}
use Rattle.udp_line.proofs.Mailed.{SoFar}
use Rattle.udp_line.proofs.serve.serve_mail.Given as goal

abbrev pub invariant-datagrams : goal.invariant-datagrams
invariant-datagrams g l = record {
  kept : IsKept (g.H.Hall.seen l.initial.hall) (g.H.Hall.seen l.hall);
  done : SoFar l.counter (g.H.Hall.seen l.initial.hall) (g.H.Hall.seen l.hall) (g.M.Ends.seen l.initial.mail) (g.M.Ends.seen l.mail);
}
