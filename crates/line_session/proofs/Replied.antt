-- Pieces that took their readings, with the replies that were sent to them.
use Rattle.std.proofs.Common.{◌≡◌, ◌<◌, ◌∷◌, ◌++◌, ℕ, List, [], map, take, length, Bool, true, false, Option, Some, None, Result, Ok, Err, is_some, refl, sym, ◌∙◌, ap, subst}
use Rattle.std.specs.List.{AllZip, AllByRecursion, flat_map}
use Rattle.std.specs.Io.KnownBytes.{append_known}
use Rattle.alarm_rules.specs.Setups.{Setup, key_of}
use Rattle.arc_data.specs.Digits.{capitals}
use Rattle.arc_io.specs.Added.{Added, Adds}
use Rattle.arc_io.specs.Seen.{PortSeen}
use Rattle.arc_io.specs.Told.{OnlyWrites, Puts, after_noise}
use Rattle.arc_io.proofs.Adding.{adds_both, noise_none, unput}
use Rattle.arc_io.proofs.KnownMore.{known_none, known_both}
use Rattle.civil_time.specs.Stamp.{stamp}
use Rattle.dc09_crypt.specs.Sealed.{sealed_ack_body}
use Rattle.dc09_frame.specs.Frames.{frame_of}
use Rattle.dc09_frame.specs.Headers.{echo_body, nak_body}
use Rattle.dc09_frame.specs.declared.header.Echo.TheVariants.{Ack as AckWord, Duh as DuhWord}
use Rattle.dc09_frame.specs.declared.header.Header.{Header}
use Rattle.dc09_message.specs.Verdicts.{verdict_of, IsKeyed}
use Rattle.dc09_message.specs.declared.outcome.Verdict.{Verdict}
use Rattle.dc09_message.specs.declared.outcome.Verdict.TheVariants as Told
use Rattle.line_session.specs.Dues.{Asked, IsDueFor, IsDueOf, IsSound, SendsDue, AreSent}
use Rattle.line_session.specs.Groups.{ReadsClock}
use Rattle.line_session.specs.Turns.{IsAckBy, IsAck}
use Rattle.line_session.specs.declared.due.Due.{Due}
use Rattle.line_session.specs.declared.line_end.LineEnd.{LineEnd}

-- a piece that took its reading, the noise of its turn, and its reply
pub record Replied : Type 0 where
  pub asked : Asked
  pub noise : List ℕ
  pub reply : List ℕ

-- the noise and the reply are those of a verdict at a reading
abbrev pub IsReplyFor : Setup → Verdict → ℕ → List ℕ → List ℕ → Type 0
IsReplyFor setup Told.Silence reading noise reply = (noise ≡ []) × (reply ≡ [])
IsReplyFor setup Told.Nak reading noise reply = (noise ≡ []) × (reply ≡ frame_of (nak_body (stamp reading)))
IsReplyFor setup (Told.Duh header why) reading noise reply = (noise ≡ []) × (reply ≡ frame_of (echo_body DuhWord header))
IsReplyFor setup (Told.Beat header account) reading noise reply = IsAck setup header reading noise reply
IsReplyFor setup (Told.Numbered header m) reading noise reply = IsAck setup header reading noise reply

abbrev pub verdict_on : Setup → Asked → Verdict
verdict_on setup a = verdict_of setup a.reading a.body

-- it is the reply of the piece's verdict, which is sound
pub record IsReplied (setup : Setup) (r : Replied) : Type 0 where
  pub reply : IsReplyFor setup (verdict_on setup r.asked) r.asked.reading r.noise r.reply
  pub sound : IsSound setup (verdict_on setup r.asked)

abbrev pub asked_in : List Replied → List Asked
asked_in rs = map (λ r. r.asked) rs

abbrev pub replies_in : List Replied → List ℕ
replies_in rs = flat_map (λ r. r.reply) rs

abbrev pub noise_in : List Replied → List ℕ
noise_in rs = flat_map (λ r. r.noise) rs

-- text that is written, and noise
abbrev pub written_with : List ℕ → List ℕ → Added
written_with text noise = record { text = text; readings = []; noise = noise }

-- member by member
pub adds_by : (p q : PortSeen) (a : Added) → q.written ≡ append_known p.written a.text → q.readings ≡ append_known p.readings a.readings → q.noise ≡ append_known p.noise a.noise
    → q.datagrams ≡ p.datagrams → q.replies ≡ p.replies → Adds p q a
adds_by p q a w r n d m = record {
  told = λ i. record {
    left = q.left;
    ended = q.ended;
    read_faults = q.read_faults;
    written = w i;
    write_faults = q.write_faults;
    readings = r i;
    noise = n i;
    datagrams = d i;
    replies = m i;
  };
}

adds_written : (p q : PortSeen) (noise text : List ℕ) → q.written ≡ append_known p.written text → OnlyWrites (after_noise noise p) q → Adds p q (written_with text noise)
adds_written p q noise text written only =
    adds_by p q _ written (ap (λ (x : PortSeen). x.readings) only.rest ∙ sym (known_none p.readings)) (ap (λ (x : PortSeen). x.noise) only.rest)
    (ap (λ (x : PortSeen). x.datagrams) only.rest) (ap (λ (x : PortSeen). x.replies) only.rest)

-- the reply of a piece was put whole, or not
pub record Sending (end : Result (Unit {0}) LineEnd) (setup : Setup) (a : Asked) (p p' : PortSeen) : Type 0 where
  pub noise : List ℕ
  pub reply : List ℕ
  pub fits : IsReplyFor setup (verdict_on setup a) a.reading noise reply
  pub put : Puts (after_noise noise p) p' end reply

module _ (end : Result (Unit {0}) LineEnd) (setup : Setup) (a : Asked) (p p' : PortSeen) where
  sending_plain : (reply : List ℕ) → IsReplyFor setup (verdict_on setup a) a.reading [] reply → Puts p p' end reply → Sending end setup a p p'
  sending_plain reply fits put = record {
    noise = [];
    reply = reply;
    fits = fits;
    put = subst (λ (q : PortSeen). Puts q p' end reply) (sym (noise_none p)) put;
  }

  by_verdict : (v : Verdict) (due : Due) → verdict_on setup a ≡ v → IsDueFor v a.reading due → SendsDue end setup due p p' → Sending end setup a p p'
  by_verdict Told.Silence due is fits sent =
      let s = subst (λ (d : Due). SendsDue end setup d p p') fits sent in
      sending_plain [] (subst (λ (v : Verdict). IsReplyFor setup v a.reading [] []) (sym is) (refl, refl))
      (subst (λ e. Puts p p' e []) (sym s.0) (subst (λ (q : PortSeen). Puts {T = Unit {0}} {E = LineEnd} p q (Ok tt) []) (sym s.1) (unput p)))
  by_verdict Told.Nak due is fits sent =
      let s = subst (λ (d : Due). SendsDue end setup d p p') fits.1 sent in
      sending_plain (frame_of (nak_body (stamp a.reading)))
      (subst (λ (v : Verdict). IsReplyFor setup v a.reading [] (frame_of (nak_body (stamp a.reading)))) (sym is) (refl, refl)) s
  by_verdict (Told.Duh header why) due is fits sent =
      let s = subst (λ (d : Due). SendsDue end setup d p p') fits sent in
      sending_plain (frame_of (echo_body DuhWord header))
      (subst (λ (v : Verdict). IsReplyFor setup v a.reading [] (frame_of (echo_body DuhWord header))) (sym is) (refl, refl)) s
  by_verdict (Told.Beat header account) due is fits sent =
      let s = subst (λ (d : Due). SendsDue end setup d p p') fits sent in
      record {
        noise = s.taken;
        reply = s.reply;
        fits = subst (λ (v : Verdict). IsReplyFor setup v a.reading s.taken s.reply) (sym is) s.ack;
        put = s.put;
      }
  by_verdict (Told.Numbered header m) due is fits sent =
      let s = subst (λ (d : Due). SendsDue end setup d p p') fits sent in
      record {
        noise = s.taken;
        reply = s.reply;
        fits = subst (λ (v : Verdict). IsReplyFor setup v a.reading s.taken s.reply) (sym is) s.ack;
        put = s.put;
      }

  -- what is due for a piece was sent, or not
  pub sending : (due : Due) → IsDueOf setup a due → SendsDue end setup due p p' → Sending end setup a p p'
  sending due of sent = by_verdict (verdict_on setup a) due refl of.0 sent

-- what was due for these pieces was sent
pub record SentAll (setup : Setup) (asked : List Asked) (p p' : PortSeen) : Type 0 where
  pub replied : List Replied
  pub are : asked_in replied ≡ asked
  pub each : AllByRecursion (IsReplied setup) replied
  pub adds : Adds p p' (written_with (replies_in replied) (noise_in replied))

pub sent_all : (setup : Setup) (asked : List Asked) (dues : List Due) (p p' : PortSeen) → AllZip (IsDueOf setup) asked dues → AreSent setup dues p p' → SentAll setup asked p p'
sent_all setup [] [] p p' zip sent = record {
  replied = [];
  are = refl;
  each = tt;
  adds = subst (λ (q : PortSeen). Adds p q (written_with [] [])) (sym sent)
      (adds_by p p _ (sym (known_none p.written)) (sym (known_none p.readings)) (sym (known_none p.noise)) refl refl);
}
sent_all setup [] (due ∷ dues) p p' zip sent = absurd zip
sent_all setup (a ∷ asked) [] p p' zip sent = absurd zip
sent_all setup (a ∷ asked) (due ∷ dues) p p' zip sent =
    let first = sending (Ok tt) setup a p sent.0 due zip.0 sent.1 in
    let rest = sent_all setup asked dues sent.0 p' zip.1 sent.2 in
    record {
      replied = record { asked = a; noise = first.noise; reply = first.reply } ∷ rest.replied;
      are = ap (λ (l : List Asked). a ∷ l) rest.are;
      each = (record { reply = first.fits; sound = zip.0.1 }, rest.each);
      adds = adds_both (adds_written p sent.0 first.noise first.reply first.put.taken first.put.others) rest.adds;
    }

-- The reply of one piece was cut off: a front of it was written.
pub record SentFront (setup : Setup) (a : Asked) (p p' : PortSeen) : Type 0 where
  pub noise : List ℕ
  pub reply : List ℕ
  pub fits : IsReplyFor setup (verdict_on setup a) a.reading noise reply
  pub count : ℕ
  pub short : count < length reply
  pub adds : Adds p p' (written_with (take count reply) noise)

pub sent_front : (setup : Setup) (a : Asked) (due : Due) (p p' : PortSeen) (end : LineEnd) → IsDueOf setup a due → SendsDue (Err end) setup due p p' → SentFront setup a p p'
sent_front setup a due p p' end of sent =
    let s = sending (Err end) setup a p p' due of sent in
    record {
      noise = s.noise;
      reply = s.reply;
      fits = s.fits;
      count = s.put.taken.0;
      short = s.put.taken.1;
      adds = adds_written p p' s.noise (take s.put.taken.0 s.reply) s.put.taken.2 s.put.others;
    }

-- Replies that nobody was sent.

ten : List ℕ
ten = 0 ∷ 0 ∷ 0 ∷ 0 ∷ 0 ∷ 0 ∷ 0 ∷ 0 ∷ 0 ∷ 0 ∷ []

ten_long : length ten ≡ 10
unfolding ten
ten_long = refl

ack_made : (sealed : Bool) (key : Option (List ℕ)) (h : Header) (reading : ℕ) → sealed ≡ is_some key → (noise : List ℕ) × (reply : List ℕ) × IsAckBy sealed key h reading noise reply
ack_made false key h reading is = ([], frame_of (echo_body AckWord h), (refl, refl))
ack_made true (Some k) h reading is = (ten, frame_of (sealed_ack_body k h (stamp reading) ten), (k, refl, ten_long, refl))
ack_made true None h reading is = absurd (cc)

made_by : (setup : Setup) (v : Verdict) (reading : ℕ) → IsKeyed setup v → (noise : List ℕ) × (reply : List ℕ) × IsReplyFor setup v reading noise reply
made_by setup Told.Silence reading keyed = ([], [], (refl, refl))
made_by setup Told.Nak reading keyed = ([], frame_of (nak_body (stamp reading)), (refl, refl))
made_by setup (Told.Duh header why) reading keyed = ([], frame_of (echo_body DuhWord header), (refl, refl))
made_by setup (Told.Beat header account) reading keyed = ack_made header.sealed (key_of setup (capitals header.account)) header reading keyed
made_by setup (Told.Numbered header m) reading keyed = ack_made header.sealed (key_of setup (capitals header.account)) header reading keyed

-- the verdicts on these pieces are sound
abbrev pub AreSound : Setup → List Asked → Type 0
AreSound setup asked = AllByRecursion (λ a. IsSound setup (verdict_on setup a)) asked

pub sound_all : (setup : Setup) (asked : List Asked) (dues : List Due) → AllZip (IsDueOf setup) asked dues → AreSound setup asked
sound_all setup [] [] zip = tt
sound_all setup [] (due ∷ dues) zip = absurd zip
sound_all setup (a ∷ asked) [] zip = absurd zip
sound_all setup (a ∷ asked) (due ∷ dues) zip = (zip.0.1, sound_all setup asked dues zip.1)

pub sound_front : (setup : Setup) (front back : List Asked) → AreSound setup (front ++ back) → AreSound setup front
sound_front setup [] back sound = tt
sound_front setup (a ∷ front) back sound = (sound.0, sound_front setup front back sound.1)

-- replies to pieces that wait
pub unsent_all : (setup : Setup) (asked : List Asked) → AreSound setup asked → (replied : List Replied) × (asked_in replied ≡ asked) × AllByRecursion (IsReplied setup) replied
unsent_all setup [] sound = ([], refl, tt)
unsent_all setup (a ∷ asked) sound =
    let made = made_by setup (verdict_on setup a) a.reading sound.0.keyed in
    let rest = unsent_all setup asked sound.1 in (
      record { asked = a; noise = made.0; reply = made.1 } ∷ rest.0,
      ap (λ (l : List Asked). a ∷ l) rest.1,
      (record { reply = made.2; sound = sound.0 }, rest.2),
    )

-- The port as it would be without the readings of those that wait.
pub record Met (met p' : PortSeen) (text noise now later : List ℕ) : Type 0 where
  pub port : PortSeen
  pub adds : Adds met port (record { text = text; readings = now; noise = noise })
  pub ahead : ReadsClock later port p'

pub met_at : (met p p' : PortSeen) (text noise all now later : List ℕ) → all ≡ now ++ later → ReadsClock all met p → Adds p p' (written_with text noise) → Met met p' text noise now later
met_at met p p' text noise all now later is ahead adds =
    let port : PortSeen = record p' { readings = append_known met.readings now } in
    record {
      port = port;
      adds = adds_by met port _
          (ap (λ (x : PortSeen). x.written) adds.told ∙ ap (λ (x : PortSeen). append_known x.written text) ahead.told ∙ ap (λ l. append_known l text) (known_none met.written))
          refl
          (ap (λ (x : PortSeen). x.noise) adds.told ∙ ap (λ (x : PortSeen). append_known x.noise noise) ahead.told ∙ ap (λ l. append_known l noise) (known_none met.noise))
          (ap (λ (x : PortSeen). x.datagrams) adds.told ∙ ap (λ (x : PortSeen). x.datagrams) ahead.told)
          (ap (λ (x : PortSeen). x.replies) adds.told ∙ ap (λ (x : PortSeen). x.replies) ahead.told);
      ahead = adds_by port p' _
          (sym (known_none p'.written))
          (ap (λ (x : PortSeen). x.readings) adds.told ∙ known_none p.readings ∙ ap (λ (x : PortSeen). x.readings) ahead.told ∙ ap (append_known met.readings) is ∙ sym (known_both met.readings now later))
          (sym (known_none p'.noise)) refl refl;
    }
