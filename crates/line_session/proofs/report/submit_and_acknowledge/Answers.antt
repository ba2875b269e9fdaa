use Rattle.std.proofs.Common.{List, ℕ, refl, subst}
use Rattle.alarm_rules.specs.Setups.{meaning}
use Rattle.centre_core.specs.Halls.{TookEvent}
use Rattle.centre_rules.specs.History.{Entry}
use Rattle.line_session.specs.Replies.{SendsAck}
use Rattle.line_session.proofs.Known.{entry_known, reports}
use Rattle.line_session.proofs.report.submit_and_acknowledge.Goals as goal

pub returns-in-Ok-clause-reported : goal.returns-in-Ok-clause-reported
returns-in-Ok-clause-reported g c b h s =
    let r = c.args.report in
    let hall = g.H.Hall.seen c.args.hall.now in
    let hall' = g.H.Hall.seen c.submit.new.self in
    let done = c.in-Ok.done in
    let kept = c.in-Ok.ensures.kept in
    let entry : Entry = record { caller = done.caller; event = r.event; at = done.at; reply = done.reply } in
    let took : TookEvent b hall hall' h r.event r.reading = record { entry = entry; goes = c.in-Ok.ensures.done b h s; by = c.in-Ok.ensures.by; of = refl } in
    reports c.acknowledge.result b h hall hall' r _ _ c.acknowledge.ensures.ends
    (record {
      took = took;
      known = entry_known b h r.event r.reading took kept c.requires.report.known (g.met.H.Hall.in_force c.submit.new.self b _ took.goes.holds);
      sends = subst (λ (t : List ℕ). SendsAck c.acknowledge.result (meaning t) r.header r.reading (g.P.Ends.seen c.args.port.now) (g.P.Ends.seen c.acknowledge.new.port)) kept.text c.acknowledge.ensures.sent;
    })

pub returns-in-Err-clause-reported : goal.returns-in-Err-clause-reported
returns-in-Err-clause-reported g c b h s = (c.in-Err.ensures.stop b h s, refl)
