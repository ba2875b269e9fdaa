use Rattle.std.proofs.Common.{◌∷◌, sym}
use Rattle.desk_session.proofs.Known.{entry_known}
use Rattle.desk_session.proofs.Said.{session_asked, session_said, asked_short, asked_no_quit}
use Rattle.desk_session.proofs.answer.answer.Goals as goal

pub returns-in-Some-clause-session : goal.returns-in-Some-clause-session
returns-in-Some-clause-session g c line b h typed known s =
    let hall = g.H.Hall.seen c.args.hall.now in
    let hall' = g.H.Hall.seen c.ask.new.hall in
    let operator = c.args.operator.now in
    let submits = sym c.in-Some.ensures.value in
    session_asked b operator h line c.args.command typed hall hall' (g.P.Ends.seen c.args.port.now) (g.P.Ends.seen c.ask.new.port) c.in-Some.event submits
    (λ reading t. entry_known b h operator c.args.command c.in-Some.event reading t c.ask.ensures.kept known submits
    (g.met.H.Hall.in_force c.ask.new.hall b (t.entry ∷ t.goes.before) t.goes.holds))
    c.ask.result (c.ask.ensures.asked b h s)

pub returns-in-Some-clause-short : goal.returns-in-Some-clause-short
returns-in-Some-clause-short g c = asked_short c.ask.result c.ask.ensures.how

pub returns-in-Some-clause-quit : goal.returns-in-Some-clause-quit
returns-in-Some-clause-quit g c is = absurd (asked_no_quit c.ask.result c.ask.ensures.how is)

pub returns-in-None-clause-session : goal.returns-in-None-clause-session
returns-in-None-clause-session g c line b h typed known s =
    session_said b c.args.operator.now h line c.args.command typed (g.H.Hall.seen c.args.hall.now) (g.P.Ends.seen c.args.port.now) (g.P.Ends.seen c.say.new.port)
    c.say.result (sym c.in-None.ensures.value) s (g.met.H.Hall.legal c.args.hall.now b h s) c.say.ensures.said c.say.ensures.how
