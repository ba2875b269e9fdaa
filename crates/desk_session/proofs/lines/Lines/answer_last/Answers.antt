use Rattle.std.proofs.Common.{◌∷◌, ◌++◌, [], Ok, Err, refl, sym, ◌∙◌, ap}
use Rattle.std.specs.Str.Lines.{lines}
use Rattle.alarm_rules.specs.Setups.{meaning}
use Rattle.arc_text.specs.LineCutting.{cut_of}
use Rattle.arc_text.specs.Lines.{ended_lines}
use Rattle.session_rules.proofs.Keeping.{kept_self}
use Rattle.desk_session.specs.Events.{ends, up_to_quit}
use Rattle.desk_session.specs.declared.desk_end.DeskEnd.TheVariants.{InputEnded}
use Rattle.desk_session.proofs.Fed.{taken_known, finished_err}
use Rattle.desk_session.proofs.Served.{serves_none, serves_same, serves_more}
use Rattle.desk_session.proofs.lines.Lines.answer_last.Goals as goal

pub returns-in_default-clause-served : goal.returns-in_default-clause-served
returns-in_default-clause-served g c stream b h fed s =
    let f = c.in_default.ensures.finishes stream fed.fed in
    serves_same (ended_lines stream) b h (Ok tt) (Err InputEnded) (ended_lines stream) (lines stream) refl (ap up_to_quit f.lines)
    (serves_none (ended_lines stream) b h (g.H.Hall.seen c.args.hall.now) (g.P.Ends.seen c.args.port.now) s (g.met.H.Hall.legal c.args.hall.now b h s))

pub returns-in-Ok-clause-served : goal.returns-in-Ok-clause-served
returns-in-Ok-clause-served g c stream b h fed s =
    let hall = g.H.Hall.seen c.args.hall.now in
    let operator = c.args.self.now.operator in
    let f = c.in-Some.ensures.finishes stream fed.fed in
    let line = f.lines.0 in
    let tells = f.lines.2 in
    let typed = c.command_in-command.ensures.value line (tells.cut ∙ ap (λ l. cut_of l line) (c.in-Some.ensures.limit ∙ c.requires.limit)) (c.line.ensures ∙ tells.kept) in
    serves_same (ended_lines stream) b h (Ok tt) (Err InputEnded) (ended_lines stream ++ line ∷ []) (lines stream) refl (ap up_to_quit f.lines.1)
    (serves_more (ended_lines stream) b h (ended_lines stream) fed.goes_on fed.goes_on (Ok tt) line operator (kept_self hall c.requires.ready) fed.acts
    (serves_none (ended_lines stream) b h hall (g.P.Ends.seen c.args.port.now) s (g.met.H.Hall.legal c.args.hall.now b h s))
    (λ x sx. c.in-Ok.ensures.session line b x typed (taken_known (meaning hall.text) stream c.args.self.now.cutter operator fed) sx))

pub returns-in-Err-clause-ended : goal.returns-in-Err-clause-ended
returns-in-Err-clause-ended g c stream fed =
    let f = c.in-Some.ensures.finishes stream fed.fed in
    let line = f.lines.0 in
    let tells = f.lines.2 in
    let typed = c.command_in-command.ensures.value line (tells.cut ∙ ap (λ l. cut_of l line) (c.in-Some.ensures.limit ∙ c.requires.limit)) (c.line.ensures ∙ tells.kept) in
    finished_err c.in-Err.end stream line c.in-Err.ensures.short f.lines.1 fed.goes_on (λ is. ap ends (sym typed) ∙ c.in-Err.ensures.quit (ap Err is))

pub returns-in-Err-clause-served : goal.returns-in-Err-clause-served
returns-in-Err-clause-served g c stream b h fed s =
    let hall = g.H.Hall.seen c.args.hall.now in
    let operator = c.args.self.now.operator in
    let f = c.in-Some.ensures.finishes stream fed.fed in
    let line = f.lines.0 in
    let tells = f.lines.2 in
    let typed = c.command_in-command.ensures.value line (tells.cut ∙ ap (λ l. cut_of l line) (c.in-Some.ensures.limit ∙ c.requires.limit)) (c.line.ensures ∙ tells.kept) in
    serves_same (ended_lines stream) b h (Err c.in-Err.end) (Err c.in-Err.end) (ended_lines stream ++ line ∷ []) (lines stream) refl (ap up_to_quit f.lines.1)
    (serves_more (ended_lines stream) b h (ended_lines stream) fed.goes_on fed.goes_on (Err c.in-Err.end) line operator (kept_self hall c.requires.ready) fed.acts
    (serves_none (ended_lines stream) b h hall (g.P.Ends.seen c.args.port.now) s (g.met.H.Hall.legal c.args.hall.now b h s))
    (λ x sx. c.in-Err.ensures.session line b x typed (taken_known (meaning hall.text) stream c.args.self.now.cutter operator fed) sx))
