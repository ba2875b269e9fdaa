-- A line that was fed on a letter, as a session over the mailbox, and what came of its text.
use Rattle.std.proofs.Common.{◌≡◌, ◌<◌, ◌∷◌, ◌++◌, ℕ, List, [], length, true, Option, Some, Result, Ok, Err, refl, sym, ◌∙◌, ap, subst, inl, arith}
use Rattle.std.specs.Prelude.{IfErr, OnOk}
use Rattle.std.specs.Io.KnownBytes.{append_known}
use Rattle.arc_doors.specs.Mails.{IsNoStream, append_replies}
use Rattle.arc_io.specs.Added.{Added, Adds, Answers}
use Rattle.arc_io.specs.Causes.{Rose}
use Rattle.arc_io.specs.Seen.{PortSeen}
use Rattle.centre_core.specs.Halls.{HallSeen}
use Rattle.centre_core.specs.declared.hall.Stop.{Stop}
use Rattle.centre_rules.specs.Summary.{Summary}
use Rattle.centre_rules.specs.History.{Entry}
use Rattle.dc09_frame.specs.Frames.{bodies}
use Rattle.session_rules.specs.Inputs.{input_limit}
use Rattle.session_rules.specs.Sessions.{changed, Ending, answered, cut_off, stopped, HasShown, IsShownFor}
use Rattle.line_session.specs.Lines.{IsTaken, LineValue}
use Rattle.line_session.specs.Sessions.{IsLine, IsCutShort, ReadsNothing}
use Rattle.line_session.specs.declared.line_end.LineEnd.{LineEnd}
use Rattle.line_session.specs.declared.line_end.LineEnd.TheVariants.{InputEnded, ReadFault, WriteFault, Spent, Stopped}
use Rattle.udp_line.specs.Datagrams.{EndsDatagram, FeedsDatagram, IsHalt, OnlyTakes, SendsText, has_bytes, sent_for, udp_name}
use Rattle.udp_line.specs.declared.letter.Letter.{Letter}
use Rattle.udp_line.specs.declared.mail_end.MailEnd.{MailEnd}
use Rattle.udp_line.specs.declared.mail_end.MailEnd.TheVariants.{Quota, Ended, ReadFault as NotReceived, WriteFault as NotSent, Stopped as Halted}

-- what a letter tells, by what its mailbox does
abbrev pub letter_seen : {M : Type 0} → (M → PortSeen) → Letter M → PortSeen
letter_seen seen l = record (seen l.mail.now) {
  left = Some (l.mail.ghost_name ∷ l.text.ghost_name ∷ (seen l.mail.now).read_faults ∷ (seen l.mail.now).write_faults ∷ []);
  read_faults = l.read_faults;
  written = Some l.text.now.items;
  write_faults = l.write_faults;
}

-- texts that are told
some_same : (xs ys : List ℕ) → Some xs ≡ Some ys → xs ≡ ys
some_same xs ys e = cc

-- the four numbers in place of what is left to read
four_same : (a b c d a' b' c' d' : ℕ) → Some (a ∷ b ∷ c ∷ d ∷ []) ≡ Some (a' ∷ b' ∷ c' ∷ d' ∷ []) → (a ≡ a') × (b ≡ b') × (c ≡ c') × (d ≡ d')
four_same a b c d a' b' c' d' e = (cc, cc, cc, cc)

module _ {M : Type 0} (seen : M → PortSeen) (l l' : Letter M) where
  -- Feeding a line on a letter leaves alone which mailbox and text these are, and the mailbox's counts.
  pub letter_kept : {failed : Type 0} → Answers failed (letter_seen seen l) (letter_seen seen l')
      → (l'.mail.ghost_name ≡ l.mail.ghost_name) × (l'.text.ghost_name ≡ l.text.ghost_name) × ((seen l'.mail.now).read_faults ≡ (seen l.mail.now).read_faults)
      × ((seen l'.mail.now).write_faults ≡ (seen l.mail.now).write_faults)
  letter_kept {failed} a =
      four_same l'.mail.ghost_name l'.text.ghost_name (seen l'.mail.now).read_faults (seen l'.mail.now).write_faults l.mail.ghost_name l.text.ghost_name (seen l.mail.now).read_faults
      (seen l.mail.now).write_faults (ap (λ (x : PortSeen). x.left) a.rest)

  module _ (none : IsNoStream (seen l.mail.now)) (none' : IsNoStream (seen l'.mail.now)) where
    pub letter_takes : {failed : Type 0} → Answers failed (letter_seen seen l) (letter_seen seen l') → OnlyTakes (seen l.mail.now) (seen l'.mail.now)
    letter_takes {failed} a =
        let same = letter_kept a in
        record {
          rest = λ i. record {
            left = (none'.left ∙ sym none.left) i;
            ended = (none'.ended ∙ sym none.ended) i;
            read_faults = same.2 i;
            written = (none'.written ∙ sym none.written) i;
            write_faults = same.3 i;
            readings = (seen l'.mail.now).readings;
            noise = (seen l'.mail.now).noise;
            datagrams = ap (λ (x : PortSeen). x.datagrams) a.rest i;
            replies = ap (λ (x : PortSeen). x.replies) a.rest i;
          };
        }

    -- of a mailbox, which tells no bytes that were written, any text may be said to be added
    adds_mail : (a : Added) → Adds (letter_seen seen l) (letter_seen seen l') a → Adds (seen l.mail.now) (seen l'.mail.now) a
    adds_mail a adds = record {
      told = λ i. record {
        left = (seen l'.mail.now).left;
        ended = (seen l'.mail.now).ended;
        read_faults = (seen l'.mail.now).read_faults;
        written = (none'.written ∙ sym (ap (λ (w : Option (List ℕ)). append_known w a.text) none.written)) i;
        write_faults = (seen l'.mail.now).write_faults;
        readings = ap (λ (x : PortSeen). x.readings) adds.told i;
        noise = ap (λ (x : PortSeen). x.noise) adds.told i;
        datagrams = ap (λ (x : PortSeen). x.datagrams) adds.told i;
        replies = ap (λ (x : PortSeen). x.replies) adds.told i;
      };
    }

    -- A line that was fed whole pieces on a letter whose text was empty.
    pub letter_fed : (end : Ending) (b : Summary) (whole : List (List ℕ)) (bytes : List ℕ) (h : List Entry) (hall hall' : HallSeen) → l.text.now.items ≡ [] → bodies bytes ≡ whole
        → IsLine udp_name end b whole h (changed hall hall' (letter_seen seen l) (letter_seen seen l')) → FeedsDatagram end bytes l'.text.now.items b h hall hall' (seen l.mail.now) (seen l'.mail.now)
    letter_fed end b whole bytes h hall hall' blank is s = record {
      session = record {
        turns = s.turns;
        behind = s.behind;
        history = s.history;
        added = s.added;
        left = s.left;
        taken = is ∙ s.taken;
        each = s.each;
        holds = s.holds;
        legal = s.legal;
        own = s.own;
        disk = s.disk;
        up = s.up;
        adds = adds_mail s.added s.adds;
        ended = s.ended;
        unanswered = s.unanswered;
      };
      written =
          some_same l'.text.now.items s.added.text (ap (λ (x : PortSeen). x.written) s.adds.told ∙ ap (λ (t : List ℕ). Some (t ++ s.added.text)) blank);
    }

-- of what a line cannot come to, as few bytes were taken, nothing is left
pub cut_short : (result : Result (Unit {0}) LineEnd) (piece : List ℕ) (s : LineValue) → ReadsNothing result → IsTaken udp_name result [] piece s → length piece < input_limit → IsCutShort result
cut_short (Ok done) piece s reads taken few = tt
cut_short (Err InputEnded) piece s reads taken few = absurd reads
cut_short (Err ReadFault) piece s reads taken few = absurd reads
cut_short (Err WriteFault) piece s reads taken few = tt
cut_short (Err Spent) piece s reads taken few = absurd (omega (arith, taken, few))
cut_short (Err (Stopped stop)) piece s reads taken few = tt

-- What came of sending a text, of a line that answered all.
pub sends_by : (result : Result (Unit {0}) MailEnd) (text : List ℕ) (p p' : PortSeen) → OnOk result (p'.replies ≡ append_replies p.replies (sent_for (text ∷ [])))
    → IfErr result (λ end. (end ≡ NotSent) × (has_bytes text ≡ true) × (p'.replies ≡ p.replies) × Rose p.write_faults p'.write_faults) → SendsText result answered text p p'
sends_by (Ok done) text p p' sent fault = (refl, sent)
sends_by (Err NotSent) text p p' sent fault = (refl, fault.1, fault.2)
sends_by (Err Quota) text p p' sent fault = absurd (cc)
sends_by (Err Ended) text p p' sent fault = absurd (cc)
sends_by (Err NotReceived) text p p' sent fault = absurd (cc)
sends_by (Err (Halted stop)) text p p' sent fault = absurd (cc)

-- sending a text fails in one way
pub ends_by : (result : Result (Unit {0}) MailEnd) → IfErr result (λ end. end ≡ NotSent) → EndsDatagram result
ends_by (Ok done) is = tt
ends_by (Err NotSent) is = tt
ends_by (Err Quota) is = absurd (cc)
ends_by (Err Ended) is = absurd (cc)
ends_by (Err NotReceived) is = absurd (cc)
ends_by (Err (Halted stop)) is = absurd (cc)

-- a halt shows its cause as the line does
pub shows_halt : (hall : HallSeen) (stop : Stop) (end : Ending) → IsHalt stop end → HasShown hall end → IsShownFor hall stop
shows_halt hall stop answered halt shown = absurd halt
shows_halt hall stop cut_off halt shown = inl halt
shows_halt hall stop (stopped cause) halt shown = subst (IsShownFor hall) (sym halt) shown
