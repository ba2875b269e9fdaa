use Rattle.std.proofs.Common.{◌≡◌, ℕ, List, true, sym, ◌∙◌, ap, subst}
use Rattle.std.specs.List.{list_all}
use Rattle.alarm_rules.specs.Setups.{meaning}
use Rattle.arc_io.specs.Told.{Puts}
use Rattle.dc09_crypt.proofs.StampBytes.{stamp_clean}
use Rattle.dc09_frame.specs.Frames.{frame_of, is_clean}
use Rattle.dc09_frame.specs.Headers.{nak_body}
use Rattle.line_session.specs.Dues.{IsDueUnder, SendsDue}
use Rattle.line_session.proofs.due.send_due.Goals as goal

pub write_nak-requires : goal.write_nak-requires
write_nak-requires g c =
    let moment = subst (IsDueUnder (meaning (g.H.Hall.seen c.args.hall.now).text)) c.in-Nak.is c.requires.due in
    subst (λ (s : List ℕ). list_all is_clean s ≡ true) (sym c.stamp_of.ensures) (stamp_clean c.in-Nak.reading moment)

pub returns-in-Nak-clause-sent : goal.returns-in-Nak-clause-sent
returns-in-Nak-clause-sent g c =
    let framed = c.write_nak.ensures.frame ∙ ap (λ (l : List ℕ). frame_of (nak_body l)) c.stamp_of.ensures in
    subst (λ due. SendsDue c.refuse.result (meaning (g.H.Hall.seen c.args.hall.now).text) due (g.P.Ends.seen c.args.port.now) (g.P.Ends.seen c.refuse.new.port))
    (sym c.in-Nak.is) (subst (Puts (g.P.Ends.seen c.args.port.now) (g.P.Ends.seen c.refuse.new.port) c.refuse.result) framed c.refuse.ensures.told)
