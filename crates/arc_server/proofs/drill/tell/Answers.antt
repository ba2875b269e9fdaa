use Rattle.std.proofs.Common.{ℕ, List, inr, subst}
use Rattle.arc_io.specs.Told.{Puts}
use Rattle.arc_server.proofs.drill.tell.Goals as goal

pub returns-clause-told : goal.returns-clause-told
returns-clause-told g c n tally drilled is =
    let p = g.P.Ends.seen c.args.port.now in
    inr (record {
      tally = tally;
      drilled = drilled;
      written = c.put-written.result;
      puts = subst (λ (l : List ℕ). Puts p (g.P.Ends.seen c.put-written.new.sink) c.put-written.result l) is c.put-written.ensures;
      status_is = c.status_of_text.ensures.made p c.write_faults-writes.ensures;
    })
