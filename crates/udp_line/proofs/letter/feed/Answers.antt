use Rattle.std.proofs.Common.{◌≡◌, ◌<◌, [], ℕ, List, length, ◌∙◌, ap, subst, sym, arith}
use Rattle.std.proofs.lemmas.List.{take_all}
use Rattle.dc09_frame.specs.Frames.{bodies}
use Rattle.session_rules.specs.Inputs.{in_limit, input_limit}
use Rattle.line_session.specs.Lines.{LineValue, TookStream}
use Rattle.line_session.specs.Sessions.{ending_of}
use Rattle.udp_line.specs.Datagrams.{udp_name}
use Rattle.udp_line.proofs.Lettered.{letter_fed, letter_kept, letter_takes, cut_short}
use Rattle.udp_line.proofs.letter.feed.Goals as goal

-- a new line of the name
took : (name : List ℕ) (line : LineValue) → name ≡ udp_name → TookStream name [] line → TookStream udp_name [] line
took name line is new = subst (λ (n : List ℕ). TookStream n [] line) is new

pub returns-clause-same_mail : goal.returns-clause-same_mail
returns-clause-same_mail g c = (letter_kept g.M.Ends.seen c.args.letter.now c.take.new.port c.take.ensures.port).0

pub returns-clause-same_text : goal.returns-clause-same_text
returns-clause-same_text g c = (letter_kept g.M.Ends.seen c.args.letter.now c.take.new.port c.take.ensures.port).1

pub returns-clause-ends : goal.returns-clause-ends
returns-clause-ends g c =
    let few : length c.args.bytes.now < input_limit = omega (arith, c.requires.short) in
    cut_short c.take.result c.args.bytes.now c.take.new.self c.take.ensures.ends (c.take.ensures.taken udp_name [] (took c.udp.result c.new-line.result c.udp.ensures c.new-line.ensures)) few

pub returns-clause-takes : goal.returns-clause-takes
returns-clause-takes g c =
    letter_takes g.M.Ends.seen c.args.letter.now c.take.new.port (g.met.M.Mailbox.no_stream c.args.letter.now.mail.now) (g.met.M.Mailbox.no_stream c.take.new.port.mail.now) c.take.ensures.port

pub returns-clause-fed : goal.returns-clause-fed
returns-clause-fed g c b h s =
    let bytes = c.args.bytes.now in
    let served = c.take.ensures.served udp_name [] b h (took c.udp.result c.new-line.result c.udp.ensures c.new-line.ensures) s in
    let all : in_limit [] bytes ≡ bytes = take_all input_limit bytes (omega (arith, c.requires.short)) in
    letter_fed g.M.Ends.seen c.args.letter.now c.take.new.port (g.met.M.Mailbox.no_stream c.args.letter.now.mail.now) (g.met.M.Mailbox.no_stream c.take.new.port.mail.now)
    (ending_of c.take.result) b served.whole bytes h (g.H.Hall.seen c.args.hall.now) (g.H.Hall.seen c.take.new.hall) c.requires.blank
    (ap bodies (sym all) ∙ served.ended) served.session
