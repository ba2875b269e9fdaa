-- A hall shows the stop that ended a session over it.
use Rattle.std.proofs.Common.{ℕ, List, Err, inl, inr, sym, subst}
use Rattle.arc_io.specs.Added.{Added}
use Rattle.arc_io.specs.Seen.{PortSeen}
use Rattle.arc_serving.specs.Sessions.{Serves, ShowsEnd}
use Rattle.arc_serving.specs.declared.session.SessionEnd.{SessionEnd}
use Rattle.arc_serving.specs.declared.session.SessionEnd.TheVariants.{Stopped}
use Rattle.arc_serving.specs.declared.side.Side.{Side}
use Rattle.arc_serving.specs.declared.side.Side.TheVariants.{Lines, Desks}
use Rattle.centre_core.specs.Halls.{HallSeen}
use Rattle.centre_core.specs.declared.hall.Stop.{Stop}
use Rattle.centre_rules.specs.History.{Entry}
use Rattle.centre_rules.specs.Summary.{Summary}
use Rattle.line_session.specs.Sessions.{HasStopped, line_rules}
use Rattle.line_session.specs.Turns.{Turn, line_turns}
use Rattle.session_rules.specs.Sessions.{changed, Ending, answered, cut_off, stopped, IsEnd, IsShownFor, Way}
use Rattle.udp_line.specs.Datagrams.{udp_name, IsHalt}
use Rattle.udp_line.specs.Mails.{ServesMail, ShowsStop}
use Rattle.udp_line.specs.declared.mail_end.MailEnd.{MailEnd}
use Rattle.udp_line.specs.declared.mail_end.MailEnd.TheVariants as Mail

-- that of a line
line_shows : (name : List ℕ) (b : Summary) (hall hall' : HallSeen) (x : List Entry) (stop : Stop) (body : List ℕ) (reading : ℕ)
    → HasStopped name b hall hall' x stop body reading → IsShownFor hall' stop
line_shows name b hall hall' x stop body reading (inl memory) = inl memory.0
line_shows name b hall hall' x stop body reading (inr (event, is, of)) = inr (event, reading, of.shown)

-- of a session of either kind
pub end_shows : (side : Side) (name : List ℕ) (end : SessionEnd) (read : List ℕ) (b : Summary) (w : Way) (hall hall' : HallSeen) (p p' : PortSeen)
    → Serves side name end read b w (changed hall hall' p p') → ShowsEnd end hall'
end_shows Lines name (Stopped stop) read b w hall hall' p p' serves =
    let session = serves.session in
    line_shows name b hall hall' session.history stop session.ended.piece session.ended.reading session.ended.cause
end_shows Desks name (Stopped stop) read b w hall hall' p p' serves =
    let ended = serves.desk.session.ended in (let cause = ended.cause in inr (cause.0, ended.reading, cause.2.shown))
end_shows side name end read b w hall hall' p p' serves = tt

-- of the line of a datagram, or want of memory for its text
halt_shows : (b : Summary) (hall hall' : HallSeen) (x : List Entry) (stop : Stop) (end : Ending) (turns behind : List Turn) (line : Added)
    (left : List (List ℕ)) → IsHalt stop end → IsEnd line_turns (line_rules udp_name b hall hall') end x turns behind line left → IsShownFor hall' stop
halt_shows b hall hall' x stop answered turns behind line left halt ended = absurd halt
halt_shows b hall hall' x stop cut_off turns behind line left halt ended = inl halt
halt_shows b hall hall' x stop (stopped cause) turns behind line left halt ended =
    subst (IsShownFor hall') (sym halt) (line_shows udp_name b hall hall' x cause ended.piece ended.reading ended.cause)

-- of a session over a mailbox
pub mail_shows : (end : MailEnd) (given : List (List ℕ)) (b : Summary) (h : List Entry) (hall hall' : HallSeen) (p p' : PortSeen)
    → ServesMail end given b h hall hall' p p' → ShowsStop (Err end) hall'
mail_shows (Mail.Stopped stop) given b h hall hall' p p' serves =
    let last = serves.ended in
    halt_shows b hall hall' serves.history stop last.end last.last.turns last.behind last.line last.left last.halt last.ended
mail_shows end given b h hall hall' p p' serves = tt
