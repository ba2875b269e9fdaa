-- Line sessions over one whole piece.
use Rattle.std.proofs.Common.{◌≡◌, ◌∷◌, ◌++◌, ℕ, List, [], Bool, true, false, Option, Some, None, Result, Ok, Err, refl, sym, ◌∙◌, ap, subst, inl, inr}
use Rattle.std.specs.Prelude.{reverse, IfErr}
use Rattle.alarm_rules.specs.Setups.{Setup, meaning}
use Rattle.arc_io.specs.Seen.{PortSeen}
use Rattle.arc_io.specs.Told.{Puts, after_reading, after_noise}
use Rattle.arc_io.proofs.Adding.{adds_put, adds_front, noise_none}
use Rattle.centre_core.proofs.OnDisk.{disk_stays}
use Rattle.centre_core.specs.Halls.{HallSeen, DiskGoesOn, LeftEvent}
use Rattle.centre_core.specs.declared.hall.Stop.{Stop}
use Rattle.centre_core.specs.declared.hall.Stop.TheVariants.{Memory}
use Rattle.centre_rules.specs.Summary.{Summary}
use Rattle.centre_rules.specs.History.{Entry}
use Rattle.centre_rules.specs.Answers.{IsLegal}
use Rattle.dc09_frame.specs.Frames.{frame_of}
use Rattle.dc09_frame.specs.Headers.{echo_body}
use Rattle.dc09_frame.specs.declared.header.Echo.TheVariants.{Ack}
use Rattle.dc09_frame.specs.declared.header.Header.{Header}
use Rattle.dc09_message.specs.Verdicts.{verdict_of, TakesMemory}
use Rattle.dc09_message.specs.declared.outcome.Verdict.{Verdict}
use Rattle.session_rules.specs.Sessions.{changed, stopped}
use Rattle.session_rules.specs.Turns.{entries_of}
use Rattle.session_rules.proofs.Made.{session_sent, session_cut, session_stopped}
use Rattle.line_session.specs.Turns.{Turn, line_turns, IsAckBy, IsAnswered, TakesEntry, event_of}
use Rattle.line_session.specs.Sessions.{IsLine, ending_of, line_rules}
use Rattle.line_session.specs.Replies.{Reported, Reports}
use Rattle.line_session.specs.declared.line_end.LineEnd.{LineEnd}
use Rattle.line_session.specs.declared.line_end.LineEnd.TheVariants.{InputEnded, ReadFault, WriteFault, Spent, Stopped}
use Rattle.line_session.specs.declared.report.Report.{Report}

-- a plain acknowledgement
pub plain_ack : (sealed : Bool) (key : Option (List ℕ)) (h : Header) (reading : ℕ) → sealed ≡ false → IsAckBy sealed key h reading [] (frame_of (echo_body Ack h))
plain_ack false key h reading is = (refl, refl)
plain_ack true key h reading is = absurd (cc)

-- a sealed one
pub sealed_ack : (sealed : Bool) (key : Option (List ℕ)) (h : Header) (reading : ℕ) (noise reply : List ℕ) → sealed ≡ true → IsAckBy true key h reading noise reply → IsAckBy sealed key h reading noise reply
sealed_ack true key h reading noise reply is a = a
sealed_ack false key h reading noise reply is a = absurd (cc)

-- the turn of a verdict that is known
pub turn_is : (name : List ℕ) (b : Summary) (setup : Setup) (caller : ℕ) (h x : List Entry) (v : Verdict) (t : Turn) → verdict_of setup t.reading t.body ≡ v → IsAnswered name b setup caller h x t v → IsAnswered name b setup caller h x t (verdict_of setup t.reading t.body)
turn_is name b setup caller h x v t is a = subst (IsAnswered name b setup caller h x t) (sym is) a

-- the verdict under the setup of this text
pub verdict_is : (text kept body : List ℕ) (reading : ℕ) (told v : Verdict) → kept ≡ text → told ≡ verdict_of (meaning kept) reading body → told ≡ v → verdict_of (meaning text) reading body ≡ v
verdict_is text kept body reading told v same exact is = ap (λ (t : List ℕ). verdict_of (meaning t) reading body) (sym same) ∙ sym exact ∙ is

module _ (name : List ℕ) (b : Summary) (h : List Entry) (hall hall' : HallSeen) (p p' : PortSeen) where
  -- A session over one whole piece, whose reply was sent or cut off.
  session_turn : (end : Result (Unit {0}) LineEnd) (x : List Entry) (t : Turn) → IsAnswered name b (meaning hall.text) hall.caller h x t (verdict_of (meaning hall.text) t.reading t.body) → hall'.stands b x → IsLegal b x
      → hall'.own x ≡ reverse (entries_of line_turns (t ∷ [])) ++ hall.own h → DiskGoesOn b hall hall' h x → (hall.up → hall'.up) → Puts (after_noise t.noise (after_reading t.reading p)) p' end t.reply → IfErr end (λ e. e ≡ WriteFault)
      → IsLine name (ending_of end) b (t.body ∷ []) h (changed hall hall' p p')
  session_turn (Ok tt) x t turn s legal own disk up put ends =
      session_sent line_turns (line_rules name b hall hall') b h refl x t (x, turn, ([], refl)) s legal own disk up (adds_put p p' t.reading t.noise t.reply tt put)
  session_turn (Err WriteFault) x t turn s legal own disk up put ends =
      let cut = adds_front p p' t.reading t.noise t.reply WriteFault put in
      session_cut line_turns (line_rules name b hall hall') b h refl x t cut.count (x, turn, ([], refl)) s legal own disk up cut.short cut.adds
  session_turn (Err InputEnded) x t turn s legal own disk up put ends = absurd (cc)
  session_turn (Err ReadFault) x t turn s legal own disk up put ends = absurd (cc)
  session_turn (Err Spent) x t turn s legal own disk up put ends = absurd (cc)
  session_turn (Err (Stopped stop)) x t turn s legal own disk up put ends = absurd (cc)

  module _ (r : Report) (body : List ℕ) (v : Verdict) (is : verdict_of (meaning hall.text) r.reading body ≡ v)
      (turn : (x : List Entry) (t : Turn) → TakesEntry b (meaning hall.text) hall.caller h x t r.header r.event → IsAnswered name b (meaning hall.text) hall.caller h x t v) where
    took : (end : Result (Unit {0}) LineEnd) → Reported end b h hall hall' r (after_reading r.reading p) p' → IfErr end (λ e. e ≡ WriteFault) → IsLine name (ending_of end) b (body ∷ []) h (changed hall hall' p p')
    took end told ends =
        let goes = told.took.goes in
        let entry = told.took.entry in
        let x : List Entry = entry ∷ goes.before in
        let t : Turn = record { body = body; reading = r.reading; noise = told.sends.taken; entry = Some entry; reply = told.sends.reply } in
        session_turn end x t
        (turn_is name b (meaning hall.text) hall.caller h x v t is
        (turn x t (record { before = goes.before; entry = entry; extends = goes.extends; is = refl; taken = refl; by = told.took.by; of = told.took.of; at = goes.at; known = told.known; reply = told.sends.ack })))
        goes.holds goes.legal goes.own goes.disk (λ _. goes.up) told.sends.put ends

    left_it : (stop : Stop) → event_of name v ≡ Some r.event → LeftEvent stop b hall hall' h r.event r.reading → p' ≡ after_reading r.reading p → IsLine name (stopped stop) b (body ∷ []) h (changed hall hall' p p')
    left_it stop brings told unsent =
        subst (λ (q : PortSeen). IsLine name (stopped stop) b (body ∷ []) h (changed hall hall' p q)) (sym unsent)
        (session_stopped line_turns (line_rules name b hall hall') b h refl p stop body r.reading told.waits told.waits.extends (inr (r.event, ap (event_of name) is ∙ brings, told.cause)))

    -- A session over one whole piece whose event was reported.
    pub session_reported : (end : Result (Unit {0}) LineEnd) → event_of name v ≡ Some r.event → {q : PortSeen} → q ≡ after_reading r.reading p → Reports end b h hall hall' r q p' → IsLine name (ending_of end) b (body ∷ []) h (changed hall hall' p p')
    session_reported end brings {q} read told = by end (subst (λ (x : PortSeen). Reports end b h hall hall' r x p') read told) where
      by : (end : Result (Unit {0}) LineEnd) → Reports end b h hall hall' r (after_reading r.reading p) p' → IsLine name (ending_of end) b (body ∷ []) h (changed hall hall' p p')
      by (Ok tt) told = took (Ok tt) told tt
      by (Err WriteFault) told = took (Err WriteFault) told refl
      by (Err (Stopped stop)) told = left_it stop brings told.0 told.1
      by (Err InputEnded) told = absurd told
      by (Err ReadFault) told = absurd told
      by (Err Spent) told = absurd told

module _ (name : List ℕ) (b : Summary) (h : List Entry) (hall : HallSeen) (p p' : PortSeen) (body : List ℕ) (reading : ℕ) where
  -- A session over one whole piece that brings no event.
  pub session_quiet : (end : Result (Unit {0}) LineEnd) (reply : List ℕ) (v : Verdict) → verdict_of (meaning hall.text) reading body ≡ v
      → IsAnswered name b (meaning hall.text) hall.caller h h (record { body = body; reading = reading; noise = []; entry = None; reply = reply }) v → hall.stands b h → IsLegal b h
      → {q : PortSeen} → q ≡ after_reading reading p → Puts q p' end reply → IfErr end (λ e. e ≡ WriteFault) → IsLine name (ending_of end) b (body ∷ []) h (changed hall hall p p')
  session_quiet end reply v is turn s legal {q} read put ends =
      let t : Turn = record { body = body; reading = reading; noise = []; entry = None; reply = reply } in
      session_turn name b h hall hall p p' end h t (turn_is name b (meaning hall.text) hall.caller h h v t is turn) s legal refl disk_stays (λ u. u)
      (subst (λ (x : PortSeen). Puts x p' end reply) (read ∙ sym (noise_none (after_reading reading p))) put) ends

  -- A session over one whole piece whose message wants memory.
  pub session_wanting : TakesMemory (verdict_of (meaning hall.text) reading body) → hall.stands b h → IsLegal b h → p' ≡ after_reading reading p → IsLine name (stopped Memory) b (body ∷ []) h (changed hall hall p p')
  session_wanting wanted s legal read =
      subst (λ (q : PortSeen). IsLine name (stopped Memory) b (body ∷ []) h (changed hall hall p q)) (sym read)
      (session_stopped line_turns (line_rules name b hall hall) b h refl p Memory body reading (record { now = h; extends = ([], refl); holds = s; legal = legal; own = refl; disk = disk_stays }) ([], refl) (inl (refl, wanted)))
