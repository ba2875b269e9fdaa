-- What answering one datagram did.
use Rattle.std.specs.Prelude.{◌≡◌, ◌≤◌, ℕ, List, [], ◌∷◌, Bool, true, false, Result, Ok, Err, codes, filter}
use Rattle.arc_doors.specs.Mails.{append_replies}
use Rattle.arc_io.specs.Seen.{PortSeen}
use Rattle.centre_core.specs.Halls.{HallSeen}
use Rattle.centre_core.specs.declared.hall.Stop.{Stop}
use Rattle.centre_core.specs.declared.hall.Stop.TheVariants.{Memory}
use Rattle.centre_rules.specs.Summary.{Summary}
use Rattle.centre_rules.specs.History.{Entry}
use Rattle.dc09_frame.specs.Frames.{bodies}
use Rattle.session_rules.specs.Sessions.{changed, Ending, answered, cut_off, stopped}
use Rattle.line_session.specs.Sessions.{IsLine}
use Rattle.udp_line.specs.declared.mail_end.MailEnd.{MailEnd}
use Rattle.udp_line.specs.declared.mail_end.MailEnd.TheVariants.{Quota, Ended, ReadFault, WriteFault, Stopped}

-- the name of the line of each datagram
abbrev pub udp_name : List ℕ
udp_name = codes "udp"

-- a text has a byte
abbrev pub has_bytes : List ℕ → Bool
has_bytes [] = false
has_bytes (x ∷ xs) = true

-- the datagrams that go back for texts: one for each, and none for one without a byte
abbrev pub sent_for : List (List ℕ) → List (List ℕ)
sent_for texts = filter has_bytes texts

-- What feeding a line may change of what the mailbox tells: readings and noise were taken.
pub record OnlyTakes (p p' : PortSeen) : Type 0 where
  pub rest : p' ≡ record p { readings = p'.readings; noise = p'.noise }

-- What sending a reply may change: replies and their count of faults.
pub record OnlySends (p p' : PortSeen) : Type 0 where
  pub rest : p' ≡ record p { replies = p'.replies; write_faults = p'.write_faults }
  pub later : p.write_faults ≤ p'.write_faults

-- What answering a datagram may change: all of these.
pub record OnlyReplies (p p' : PortSeen) : Type 0 where
  pub rest : p' ≡ record p { readings = p'.readings; noise = p'.noise; replies = p'.replies; write_faults = p'.write_faults }
  pub later : p.write_faults ≤ p'.write_faults

-- A new line was fed these bytes: a session over all their whole pieces, which wrote this text.
pub record FeedsDatagram (end : Ending) (bytes text : List ℕ) (b : Summary) (h : List Entry) (hall hall' : HallSeen) (p p' : PortSeen)
    : Type 0 where
  pub session : IsLine udp_name end b (bodies bytes) h (changed hall hall' p p')
  pub written : text ≡ session.added.text

-- a line that was not answered to its end halts a session over a mailbox: the hall stopped, or memory was wanted
abbrev pub IsHalt : Stop → Ending → Type 0
IsHalt stop answered = ⊥
IsHalt stop cut_off = stop ≡ Memory
IsHalt stop (stopped cause) = stop ≡ cause

-- What was sent of a text, by how answering its datagram ended, and how the datagram's line did.
abbrev pub SendsText : Result (Unit {0}) MailEnd → Ending → List ℕ → PortSeen → PortSeen → Type 0
SendsText (Ok done) end text p p' = (end ≡ answered) × (p'.replies ≡ append_replies p.replies (sent_for (text ∷ [])))
SendsText (Err WriteFault) end text p p' = (end ≡ answered) × (has_bytes text ≡ true) × (p'.replies ≡ p.replies)
SendsText (Err (Stopped stop)) end text p p' = IsHalt stop end × (p'.replies ≡ p.replies)
SendsText (Err Quota) end text p p' = ⊥
SendsText (Err Ended) end text p p' = ⊥
SendsText (Err ReadFault) end text p p' = ⊥

-- how answering a datagram can end
abbrev pub EndsDatagram : Result (Unit {0}) MailEnd → Type 0
EndsDatagram (Ok done) = Unit {0}
EndsDatagram (Err WriteFault) = Unit {0}
EndsDatagram (Err (Stopped stop)) = Unit {0}
EndsDatagram (Err Quota) = ⊥
EndsDatagram (Err Ended) = ⊥
EndsDatagram (Err ReadFault) = ⊥

-- A datagram of these bytes was answered: a new line was fed with them, and then its text was sent, or not.
pub record AnswersDatagram (result : Result (Unit {0}) MailEnd) (bytes : List ℕ) (b : Summary) (h : List Entry) (hall hall' : HallSeen)
    (p p' : PortSeen) : Type 0 where
  pub end : Ending
  pub fed : PortSeen
  pub session : IsLine udp_name end b (bodies bytes) h (changed hall hall' p fed)
  pub only : p' ≡ record fed { replies = p'.replies; write_faults = p'.write_faults }
  pub sends : SendsText result end session.added.text fed p'
