use Rattle.std.proofs.Common.{◌≡◌, ◌∷◌, [], ℕ, List, Err, sym, ◌∙◌, ap, subst}
use Rattle.std.proofs.lemmas.Result.{err_from_is_err_and}
use Rattle.alarm_rules.specs.Setups.{meaning}
use Rattle.centre_core.specs.declared.hall.Stop.TheVariants.{Memory}
use Rattle.dc09_message.specs.Verdicts.{verdict_of, TakesMemory}
use Rattle.session_rules.proofs.Keeping.{kept_self}
use Rattle.line_session.specs.Dues.{Asked, IsJudged}
use Rattle.line_session.specs.declared.line_end.LineEnd.TheVariants.{Stopped}
use Rattle.line_session.proofs.Grouped.{group_line_same}
use Rattle.line_session.proofs.Turned.{session_wanting}
use Rattle.line_session.proofs.Waited.{alone, one_more, held_read}
use Rattle.line_session.proofs.waiting.Waiting.take.Goals as goal

pub returns-in-Ok-clause-takes : goal.returns-in-Ok-clause-takes
returns-in-Ok-clause-takes g c b h bodies asked first from held =
    let name = c.args.name.now in
    let a : Asked = record { body = c.args.body.now; reading = c.now-reading.result } in
    let read = held_read name b h bodies (g.H.Hall.seen first) (g.H.Hall.seen c.args.hall.now) (g.P.Ends.seen from) (g.P.Ends.seen c.args.port.now) a c.now-reading.ensures.told held in
    c.put.ensures.takes name b h bodies asked a first from (subst (λ (t : List ℕ). IsJudged name (meaning t) a.body a.reading c.in-Ok.judged) c.setup.ensures c.in-Ok.ensures.judged) read

pub returns-in_err-answer-in-Err-clause-takes : goal.returns-in_err-answer-in-Err-clause-takes
returns-in_err-answer-in-Err-clause-takes g c b h bodies asked first from held =
    let name = c.args.name.now in
    let a : Asked = record { body = c.args.body.now; reading = c.now-reading.result } in
    let read = held_read name b h bodies (g.H.Hall.seen first) (g.H.Hall.seen c.args.hall.now) (g.P.Ends.seen from) (g.P.Ends.seen c.args.port.now) a c.now-reading.ensures.told held in
    let p = err_from_is_err_and c.from_residual.result c.from_residual.ensures.1 in
    let same : c.from_residual.result ≡ Err c.in_err-answer-in-Err.field-0.0 = p.1 ∙ ap Err p.2 in
    rw same (group_line_same (one_more bodies asked a) (c.in_err-answer-in-Err.ensures.answers name b h bodies asked (a ∷ []) first from read))

pub returns-in_ok-answer-in-Err-clause-takes : goal.returns-in_ok-answer-in-Err-clause-takes
returns-in_ok-answer-in-Err-clause-takes g c b h bodies asked first from held =
    let name = c.args.name.now in
    let a : Asked = record { body = c.args.body.now; reading = c.now-reading.result } in
    let read = held_read name b h bodies (g.H.Hall.seen first) (g.H.Hall.seen c.args.hall.now) (g.P.Ends.seen from) (g.P.Ends.seen c.args.port.now) a c.now-reading.ensures.told held in
    let ans = c.in_ok-answer-in-Err.ensures.answers name b h bodies asked (a ∷ []) first from read in
    let hall = g.H.Hall.seen c.answer.new.hall in
    let port = g.P.Ends.seen c.answer.new.port in
    let wanted = subst (λ (t : List ℕ). TakesMemory (verdict_of (meaning t) a.reading a.body)) (c.setup.ensures ∙ sym c.in_ok-answer-in-Err.ensures.kept.text) c.in-Err.ensures.memory in
    group_line_same (one_more bodies asked a ∙ ans.1)
    (alone name b h ans.0 (g.H.Hall.seen first) hall (g.P.Ends.seen from) port hall port (kept_self hall c.in_ok-answer-in-Err.ensures.kept.ready) a c.answer.new.self ans.2 (Err (Stopped Memory))
    (λ q at. session_wanting name b ans.2.session.history hall q port a.body a.reading wanted ans.2.session.holds ans.2.session.legal at))
