use Rattle.std.proofs.Common.{◌≡◌, [], ℕ, List, true, refl, sym, ◌∙◌, ap, subst}
use Rattle.std.specs.List.{list_all}
use Rattle.alarm_rules.specs.Setups.{meaning}
use Rattle.arc_io.specs.Told.{Puts}
use Rattle.arc_io.proofs.Adding.{unput}
use Rattle.civil_time.specs.Stamp.{stamp}
use Rattle.dc09_crypt.proofs.StampBytes.{stamp_clean}
use Rattle.dc09_frame.specs.Frames.{frame_of, is_clean}
use Rattle.dc09_frame.specs.Headers.{echo_body, nak_body}
use Rattle.dc09_frame.specs.declared.header.Echo.TheVariants.{Duh as DuhWord}
use Rattle.dc09_message.specs.Verdicts.{verdict_of, TakesMemory}
use Rattle.dc09_message.specs.declared.outcome.Verdict.TheVariants.{Silence, Nak, Duh, Beat, Numbered}
use Rattle.line_session.proofs.Turned.{verdict_is, session_quiet, session_wanting, session_reported}
use Rattle.line_session.proofs.answer.answer.Goals as goal

pub write_nak-requires : goal.write_nak-requires
write_nak-requires g c = subst (λ (s : List ℕ). list_all is_clean s ≡ true) (sym c.stamp_of.ensures) (stamp_clean c.now-reading.result c.now-reading.ensures.bound)

pub returns-in-Err-clause-session : goal.returns-in-Err-clause-session
returns-in-Err-clause-session g c b h s =
    let wanted = subst (λ (t : List ℕ). TakesMemory (verdict_of (meaning t) c.now-reading.result c.args.body.now)) c.setup.ensures c.in-Err.ensures.memory in
    session_wanting c.args.name.now b h (g.H.Hall.seen c.args.hall.now) (g.P.Ends.seen c.args.port.now) (g.P.Ends.seen c.now-reading.new.self) c.args.body.now c.now-reading.result wanted s (g.met.H.Hall.legal c.args.hall.now b h s) c.now-reading.ensures.told

pub returns-in-Ok-Silence-clause-session : goal.returns-in-Ok-Silence-clause-session
returns-in-Ok-Silence-clause-session g c b h s =
    let hall = g.H.Hall.seen c.args.hall.now in
    let body = c.args.body.now in
    let reading = c.now-reading.result in
    let v = verdict_is hall.text c.setup.result.now body reading c.in-Ok-Silence.field-0 Silence c.setup.ensures c.in-Ok-Silence.ensures.exact c.in-Ok-Silence.field-0-is in
    session_quiet c.args.name.now b h hall (g.P.Ends.seen c.args.port.now) _ body reading _ [] Silence v (record { extends = ([], refl); entry = refl; noise = refl; reply = refl })
    s (g.met.H.Hall.legal c.args.hall.now b h s) c.now-reading.ensures.told (unput (g.P.Ends.seen c.now-reading.new.self)) tt

pub returns-in-Ok-Nak-clause-session : goal.returns-in-Ok-Nak-clause-session
returns-in-Ok-Nak-clause-session g c b h s =
    let hall = g.H.Hall.seen c.args.hall.now in
    let body = c.args.body.now in
    let reading = c.now-reading.result in
    let v = verdict_is hall.text c.setup.result.now body reading c.in-Ok-Nak.field-0 Nak c.setup.ensures c.in-Ok-Nak.ensures.exact c.in-Ok-Nak.field-0-is in
    let framed = c.write_nak.ensures.frame ∙ ap (λ (l : List ℕ). frame_of (nak_body l)) c.stamp_of.ensures in
    session_quiet c.args.name.now b h hall (g.P.Ends.seen c.args.port.now) _ body reading c.refuse.result (frame_of (nak_body (stamp reading))) Nak v (record { extends = ([], refl); entry = refl; noise = refl; reply = refl })
    s (g.met.H.Hall.legal c.args.hall.now b h s) c.now-reading.ensures.told (subst (Puts _ _ c.refuse.result) framed c.refuse.ensures.told) c.refuse.ensures.ends

pub returns-in-Ok-Duh-clause-session : goal.returns-in-Ok-Duh-clause-session
returns-in-Ok-Duh-clause-session g c b h s =
    let hall = g.H.Hall.seen c.args.hall.now in
    let body = c.args.body.now in
    let reading = c.now-reading.result in
    let header = c.in-Ok-Duh.header in
    let sent = c.refuse-in-Ok-Duh in
    let v = verdict_is hall.text c.setup.result.now body reading c.in-Ok-Duh.field-0 (Duh header c.in-Ok-Duh.why) c.setup.ensures c.in-Ok-Duh.ensures.exact c.in-Ok-Duh.field-0-is in
    session_quiet c.args.name.now b h hall (g.P.Ends.seen c.args.port.now) _ body reading sent.result (frame_of (echo_body DuhWord header)) (Duh header c.in-Ok-Duh.why) v
    (record { extends = ([], refl); entry = refl; noise = refl; reply = refl })
    s (g.met.H.Hall.legal c.args.hall.now b h s) c.now-reading.ensures.told (subst (Puts _ _ sent.result) c.write_echo.ensures.frame sent.ensures.told) sent.ensures.ends

pub returns-in-Ok-Beat-clause-session : goal.returns-in-Ok-Beat-clause-session
returns-in-Ok-Beat-clause-session g c b h s =
    let hall = g.H.Hall.seen c.args.hall.now in
    let r = c.submit_and_acknowledge in
    let v = verdict_is hall.text c.setup.result.now c.args.body.now c.now-reading.result c.in-Ok-Beat.field-0 (Beat c.in-Ok-Beat.header c.in-Ok-Beat.account) c.setup.ensures c.in-Ok-Beat.ensures.exact c.in-Ok-Beat.field-0-is in
    session_reported c.args.name.now b h hall _ (g.P.Ends.seen c.args.port.now) _ _ c.args.body.now _ v (λ x t a. a) r.result refl c.now-reading.ensures.told (r.ensures.reported b h s)

pub returns-in-Ok-Numbered-clause-session : goal.returns-in-Ok-Numbered-clause-session
returns-in-Ok-Numbered-clause-session g c b h s =
    let hall = g.H.Hall.seen c.args.hall.now in
    let r = c.submit_and_acknowledge-in-Ok-Numbered in
    let v = verdict_is hall.text c.setup.result.now c.args.body.now c.now-reading.result c.in-Ok-Numbered.field-0 (Numbered c.in-Ok-Numbered.header c.in-Ok-Numbered.message) c.setup.ensures c.in-Ok-Numbered.ensures.exact c.in-Ok-Numbered.field-0-is in
    session_reported c.args.name.now b h hall _ (g.P.Ends.seen c.args.port.now) _ _ c.args.body.now _ v (λ x t a. a) r.result refl c.now-reading.ensures.told (r.ensures.reported b h s)
