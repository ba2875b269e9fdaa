use Rattle.alarm_rules.specs.Setups.{meaning}
use Rattle.line_session.proofs.Waited.{alone, reported_line, quiet_line, report_of}
use Rattle.session_rules.proofs.Keeping.{kept_self}
use Rattle.line_session.proofs.waiting.answer_alone.Goals as goal

pub submit_and_acknowledge-requires-clause-report : goal.submit_and_acknowledge-requires-clause-report
submit_and_acknowledge-requires-clause-report g c =
    report_of (meaning (g.H.Hall.seen c.args.hall.now).text) c.args.judged c.in-Some.event c.header_in-header.result c.header_in-header.ensures.0 c.requires.piece c.in-Some.is c.header_in-header.ensures.1

pub returns-in-None-clause-answers : goal.returns-in-None-clause-answers
returns-in-None-clause-answers g c name b h bodies a w first from judged held =
    let hall = g.H.Hall.seen c.args.hall.now in
    alone name b h bodies (g.H.Hall.seen first) hall (g.P.Ends.seen from) (g.P.Ends.seen c.args.port.now) hall (g.P.Ends.seen c.send_due.new.port) (kept_self hall c.requires.ready) a w held c.send_due.result
    (λ q read. quiet_line name b held.session.history hall q (g.P.Ends.seen c.args.port.now) (g.P.Ends.seen c.send_due.new.port) a c.args.judged judged c.in-None.is read held.session.holds held.session.legal
    c.send_due.result c.send_due.ensures.sent c.send_due.ensures.ends)

pub returns-in-Some-clause-answers : goal.returns-in-Some-clause-answers
returns-in-Some-clause-answers g c name b h bodies a w first from judged held =
    let hall = g.H.Hall.seen c.args.hall.now in
    let hall' = g.H.Hall.seen c.submit_and_acknowledge.new.hall in
    let r = c.submit_and_acknowledge in
    alone name b h bodies (g.H.Hall.seen first) hall (g.P.Ends.seen from) (g.P.Ends.seen c.args.port.now) hall' (g.P.Ends.seen r.new.port) r.ensures.kept a w held r.result
    (λ q read. reported_line name b held.session.history hall hall' q (g.P.Ends.seen c.args.port.now) (g.P.Ends.seen r.new.port) a c.args.judged c.in-Some.event c.header_in-header.result c.header_in-header.ensures.0 judged c.in-Some.is
    c.header_in-header.ensures.1 read r.result (r.ensures.reported b held.session.history held.session.holds))
