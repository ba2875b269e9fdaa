-- Frames that wait: one more of them, and one that is answered alone.
use Rattle.std.proofs.Common.{◌≡◌, ◌∷◌, ◌++◌, ℕ, List, [], length, Option, Some, None, Result, Ok, Err, refl, sym, ◌∙◌, ap, subst, append_assoc, append-nil}
use Rattle.std.specs.Prelude.{IfSome, IfErr}
use Rattle.arc_data.specs.declared.event.Event.TheVariants.{Message as Sent, Beat as Heartbeat}
use Rattle.alarm_rules.specs.Setups.{Setup}
use Rattle.arc_io.specs.Told.{Puts}
use Rattle.arc_io.proofs.Adding.{unput}
use Rattle.centre_core.specs.Batches.{MayBeSubmitted}
use Rattle.centre_rules.specs.Answers.{IsLegal}
use Rattle.civil_time.specs.Stamp.{stamp}
use Rattle.dc09_frame.specs.Frames.{frame_of}
use Rattle.dc09_frame.specs.Headers.{echo_body, nak_body}
use Rattle.dc09_frame.specs.declared.header.Echo.TheVariants.{Duh as DuhWord}
use Rattle.dc09_frame.specs.declared.header.Header.{Header}
use Rattle.dc09_message.specs.Verdicts.{verdict_of}
use Rattle.dc09_message.specs.declared.outcome.Verdict.{Verdict}
use Rattle.dc09_message.specs.declared.outcome.Verdict.TheVariants as Told
use Rattle.line_session.specs.Dues.{IsDueFor, IsDueUnder, IsAckDue, MayBePut, SendsDue}
use Rattle.line_session.specs.Replies.{IsKnownEvent, IsReport, Reports}
use Rattle.line_session.specs.Turns.{Turn, TakesEntry, IsAnswered, event_of}
use Rattle.line_session.specs.declared.due.Due.TheVariants.{Ack}
use Rattle.line_session.specs.declared.line_end.LineEnd.TheVariants.{WriteFault}
use Rattle.line_session.proofs.Turned.{session_reported, session_quiet}
use Rattle.std.specs.List.{AllZip}
use Rattle.arc_data.specs.declared.event.Event.{Event}
use Rattle.alarm_rules.specs.Setups.{meaning}
use Rattle.arc_io.specs.Seen.{PortSeen}
use Rattle.arc_io.specs.Told.{after_reading}
use Rattle.arc_io.proofs.Adding.{adds_both, adds_reading}
use Rattle.arc_io.proofs.KnownMore.{known_none}
use Rattle.centre_core.specs.Halls.{HallSeen, IsKept}
use Rattle.centre_core.specs.declared.batch.Submission.{Submission}
use Rattle.centre_rules.specs.Summary.{Summary}
use Rattle.centre_rules.specs.History.{Entry}
use Rattle.session_rules.specs.Sessions.{Change, changed}
use Rattle.session_rules.proofs.Keeping.{kept_more}
use Rattle.line_session.specs.Dues.{Asked, IsJudged, IsDueOf, HasPut, IsReached, bodies_in, readings_in}
use Rattle.line_session.specs.Groups.{IsHeld, IsHeldOrEnded, IsAnsweredOrEnded, ReadsClock}
use Rattle.line_session.specs.Sessions.{IsLine, ending_of}
use Rattle.line_session.specs.declared.due.Due.{Due}
use Rattle.line_session.specs.declared.due.Judged.{Judged}
use Rattle.line_session.specs.declared.line_end.LineEnd.{LineEnd}
use Rattle.line_session.specs.declared.waiting.Waiting.{Waiting}
use Rattle.line_session.proofs.Answered.{bodies-append, readings-append, waiting_under}
use Rattle.line_session.proofs.Apart.{zip_last, calls-append, calls_on, call_list, none_waits}
use Rattle.line_session.proofs.Grouped.{group_of_line, group_still, group_then, group_line_of_line, group_line_then, group_line_same, reads_none}
use Rattle.line_session.proofs.Replied.{adds_by}

module _ (name : List ℕ) (b : Summary) (h : List Entry) (later : List Asked) (w : Waiting) (c : Change) where
  -- other words for the same pieces
  pub held_same : (end : Result (Unit {0}) LineEnd) {all all' : List (List ℕ)} → all' ≡ all → IsHeldOrEnded end name b h all later w c → IsHeldOrEnded end name b h all' later w c
  held_same (Ok done) same s = (s.0, s.1, same ∙ s.2, s.3)
  held_same (Err end) same s = group_line_same same s

  pub answered_same : (end : Result (Unit {0}) LineEnd) {all all' : List (List ℕ)} → all' ≡ all → IsAnsweredOrEnded end name b h all later w c → IsAnsweredOrEnded end name b h all' later w c
  answered_same (Ok done) same s = (s.0, same ∙ s.1, s.2)
  answered_same (Err end) same s = group_line_same same s

-- one piece more
pub one_more : (bodies : List (List ℕ)) (asked : List Asked) (a : Asked) → bodies ++ bodies_in asked ++ a.body ∷ [] ≡ bodies ++ bodies_in (asked ++ a ∷ [])
one_more bodies asked a = append_assoc bodies (bodies_in asked) (a.body ∷ []) ∙ ap (λ (l : List (List ℕ)). bodies ++ l) (sym (bodies-append asked (a ∷ [])))

module _ (name : List ℕ) (b : Summary) (h : List Entry) (bodies : List (List ℕ)) (first hall : HallSeen) (from p : PortSeen) where
  -- the same frames wait
  pub held_as : {asked later : List Asked} {w w' : Waiting} → w'.batch ≡ w.batch → w'.dues.items ≡ w.dues.items → IsHeld name b h bodies asked later w (changed first hall from p)
      → IsHeld name b h bodies asked later w' (changed first hall from p)
  held_as {asked} {later} {w} {w'} calls dues held = record {
    kept = held.kept;
    waiting = record {
      dues = subst (AllZip (IsDueOf (meaning hall.text)) asked) (sym dues) held.waiting.dues;
      calls = calls ∙ held.waiting.calls;
    };
    met = held.met;
    session = held.session;
    reads_ahead = held.reads_ahead;
  }

  -- a piece took its reading
  pub held_read : {asked : List Asked} {w : Waiting} {p' : PortSeen} (a : Asked) → p' ≡ after_reading a.reading p → IsHeld name b h bodies asked [] w (changed first hall from p)
      → IsHeld name b h bodies asked (a ∷ []) w (changed first hall from p')
  held_read {asked} {w} {p'} a read held = record {
    kept = held.kept;
    waiting = held.waiting;
    met = held.met;
    session = held.session;
    reads_ahead =
        subst (λ (l : List ℕ). ReadsClock l held.met p')
        (ap (λ (l : List Asked). readings_in l ++ a.reading ∷ []) (append-nil asked) ∙ sym (readings-append asked (a ∷ [])))
        (subst (λ (q : PortSeen). ReadsClock (readings_in (asked ++ []) ++ a.reading ∷ []) held.met q) (sym read) (adds_both held.reads_ahead (adds_reading p a.reading)));
  }

  -- a piece waits behind the others
  pub held_put : {asked : List Asked} {w w' : Waiting} (a : Asked) (j : Judged) → IsJudged name (meaning hall.text) a.body a.reading j → HasPut w w' j
      → IsHeld name b h bodies asked (a ∷ []) w (changed first hall from p) → IsHeld name b h bodies (asked ++ a ∷ []) [] w' (changed first hall from p)
  held_put {asked} {w} {w'} a j judged put held = record {
    kept = held.kept;
    waiting = record {
      dues = subst (AllZip (IsDueOf (meaning hall.text)) (asked ++ a ∷ [])) (sym put.dues) (zip_last (IsDueOf (meaning hall.text)) asked w.dues.items a j.due held.waiting.dues judged.due);
      calls =
          put.calls ∙ ap (λ (l : List Submission). l ++ call_list j.reading j.event) held.waiting.calls
          ∙ ap (λ (l : List Submission). calls_on name (meaning hall.text) asked ++ l)
          (ap (λ n. call_list n j.event) judged.at ∙ ap (call_list a.reading) judged.event ∙ sym (append-nil (call_list a.reading _)))
          ∙ sym (calls-append name (meaning hall.text) asked (a ∷ []));
    };
    met = held.met;
    session = held.session;
    reads_ahead = subst (λ (l : List Asked). ReadsClock (readings_in l) held.met p) (sym (append-nil (asked ++ a ∷ []))) held.reads_ahead;
  }

  -- no event waits, and so nothing does
  pub held_none : {asked later : List Asked} {w : Waiting} → w.batch ≡ [] → IsReached 0 w.dues.items → IsHeld name b h bodies asked later w (changed first hall from p)
      → IsHeld name b h bodies [] later w (changed first hall from p) × (asked ≡ [])
  held_none {asked} {later} {w} none reached held =
      let is : asked ≡ [] = none_waits name (meaning hall.text) asked w.dues.items held.waiting.dues reached (ap length (sym held.waiting.calls ∙ none)) in
      (subst (λ (l : List Asked). IsHeld name b h bodies l later w (changed first hall from p)) is held, is)

  module _ (hall' : HallSeen) (p' : PortSeen) (kept : IsKept hall hall') (a : Asked) (w : Waiting) (held : IsHeld name b h bodies [] (a ∷ []) w (changed first hall from p)) where
    at : PortSeen
    at = record p { readings = held.met.readings }

    unread : ReadsClock [] held.met at
    unfolding at
    unread =
        adds_by held.met at _ (ap (λ (x : PortSeen). x.written) held.reads_ahead.told) (sym (known_none held.met.readings)) (ap (λ (x : PortSeen). x.noise) held.reads_ahead.told)
        (ap (λ (x : PortSeen). x.datagrams) held.reads_ahead.told) (ap (λ (x : PortSeen). x.replies) held.reads_ahead.told)

    read : p ≡ after_reading a.reading at
    unfolding at
    read = λ i. record p { readings = ap (λ (x : PortSeen). x.readings) held.reads_ahead.told i }

    -- A piece that waits for no other is answered alone.
    pub alone : (end : Result (Unit {0}) LineEnd) → ((q : PortSeen) → p ≡ after_reading a.reading q → IsLine name (ending_of end) b (a.body ∷ []) held.session.history (changed hall hall' q p'))
        → IsHeldOrEnded end name b h (bodies ++ a.body ∷ []) [] w (changed first hall' from p')
    unfolding group_still
    alone (Ok done) line = (
      bodies ++ a.body ∷ [],
      [],
      sym (append-nil (bodies ++ a.body ∷ [])),
      record {
        kept = kept_more held.kept kept;
        waiting = waiting_under kept.text held.waiting;
        met = p';
        session = group_then name b held.kept (group_still name unread held.session) (group_of_line name (line at read));
        reads_ahead = reads_none p';
      },
    )
    alone (Err end) line = group_line_then name b held.kept (group_still name unread held.session) (group_line_of_line name (line at read))

-- A frame that is answered alone: its header and its event.

abbrev header_of : Header → Due → Header
header_of other (Ack header reading) = header
header_of other due = other

abbrev event_or : Event → Option Event → Event
event_or other (Some event) = event
event_or other None = other

module _ (name : List ℕ) (b : Summary) (g : List Entry) (setup : Setup) (caller : ℕ) (x : List Entry) (t : Turn) (header : Header) (event : Event) (reading moment : ℕ) where
  alone_turn : (v : Verdict) (due : Due) (brought : Option Event) → IsDueFor v reading due → due ≡ Ack header moment → brought ≡ event_of name v → brought ≡ Some event
      → TakesEntry b setup caller g x t header event → IsAnswered name b setup caller g x t v
  alone_turn Told.Silence due brought fits ack is some takes = let e : None ≡ Some event = sym is ∙ some in absurd (cc)
  alone_turn Told.Nak due brought fits ack is some takes = let e : None ≡ Some event = sym is ∙ some in absurd (cc)
  alone_turn (Told.Duh other why) due brought fits ack is some takes = let e : None ≡ Some event = sym is ∙ some in absurd (cc)
  alone_turn (Told.Beat other account) due brought fits ack is some takes =
      let headers : header ≡ other = ap (header_of header) (sym ack ∙ fits) in
      let events : event ≡ Heartbeat account = ap (event_or event) (sym some ∙ is) in
      subst (λ (o : Header). TakesEntry b setup caller g x t o (Heartbeat account)) headers (subst (λ (o : Event). TakesEntry b setup caller g x t header o) events takes)
  alone_turn (Told.Numbered other m) due brought fits ack is some takes =
      let headers : header ≡ other = ap (header_of header) (sym ack ∙ fits) in
      let events : event ≡ Sent m name = ap (event_or event) (sym some ∙ is) in
      subst (λ (o : Header). TakesEntry b setup caller g x t o (Sent m name)) headers (subst (λ (o : Event). TakesEntry b setup caller g x t header o) events takes)

-- an event was reported
pub reported_line : (name : List ℕ) (b : Summary) (g : List Entry) (hall hall' : HallSeen) (q p p' : PortSeen) (a : Asked) (j : Judged) (event : Event) (header : Header) (moment : ℕ)
    → IsJudged name (meaning hall.text) a.body a.reading j → j.event ≡ Some event → j.due ≡ Ack header moment → p ≡ after_reading a.reading q → (end : Result (Unit {0}) LineEnd)
    → Reports end b g hall hall' (record { event = event; header = header; reading = j.reading }) p p' → IsLine name (ending_of end) b (a.body ∷ []) g (changed hall hall' q p')
reported_line name b g hall hall' q p p' a j event header moment judged some ack read end told =
    let v : Verdict = verdict_of (meaning hall.text) a.reading a.body in
    session_reported name b g hall hall' q p' (record { event = event; header = header; reading = j.reading }) a.body v (ap (λ (n : ℕ). verdict_of (meaning hall.text) n a.body) judged.at)
    (λ x t takes. alone_turn name b g (meaning hall.text) hall.caller x t header event a.reading moment v j.due j.event judged.due.0 ack judged.event some takes)
    end (sym judged.event ∙ some) (read ∙ ap (λ (n : ℕ). after_reading n q) (sym judged.at)) told

-- none was
pub quiet_line : (name : List ℕ) (b : Summary) (g : List Entry) (hall : HallSeen) (q p p' : PortSeen) (a : Asked) (j : Judged) → IsJudged name (meaning hall.text) a.body a.reading j → j.event ≡ None
    → p ≡ after_reading a.reading q → hall.stands b g → IsLegal b g → (end : Result (Unit {0}) LineEnd) → SendsDue end (meaning hall.text) j.due p p' → IfErr end (λ e. e ≡ WriteFault)
    → IsLine name (ending_of end) b (a.body ∷ []) g (changed hall hall q p')
quiet_line name b g hall q p p' a j judged none read stands legal end sent ends = by (verdict_of (meaning hall.text) a.reading a.body) refl j.due judged.due.0 (sym judged.event ∙ none) sent where
  by : (v : Verdict) → verdict_of (meaning hall.text) a.reading a.body ≡ v → (due : Due) → IsDueFor v a.reading due → event_of name v ≡ None → SendsDue end (meaning hall.text) due p p'
      → IsLine name (ending_of end) b (a.body ∷ []) g (changed hall hall q p')
  by Told.Silence is due fits none sent =
      let s = subst (λ (d : Due). SendsDue end (meaning hall.text) d p p') fits sent in
      session_quiet name b g hall q p' a.body a.reading end [] Told.Silence is (record { extends = ([], refl); entry = refl; noise = refl; reply = refl }) stands legal read
      (subst (λ e. Puts p p' e []) (sym s.0) (subst (λ (o : PortSeen). Puts {T = Unit {0}} {E = LineEnd} p o (Ok tt) []) (sym s.1) (unput p))) ends
  by Told.Nak is due fits none sent =
      session_quiet name b g hall q p' a.body a.reading end (frame_of (nak_body (stamp a.reading))) Told.Nak is (record { extends = ([], refl); entry = refl; noise = refl; reply = refl }) stands legal read
      (subst (λ (d : Due). SendsDue end (meaning hall.text) d p p') fits.1 sent) ends
  by (Told.Duh header why) is due fits none sent =
      session_quiet name b g hall q p' a.body a.reading end (frame_of (echo_body DuhWord header)) (Told.Duh header why) is (record { extends = ([], refl); entry = refl; noise = refl; reply = refl }) stands legal read
      (subst (λ (d : Due). SendsDue end (meaning hall.text) d p p') fits sent) ends
  by (Told.Beat header account) is due fits none sent = absurd (cc)
  by (Told.Numbered header m) is due fits none sent = absurd (cc)

-- what may be reported
pub report_of : (setup : Setup) (j : Judged) (event : Event) (header : Header) (moment : ℕ) → MayBePut setup j → j.event ≡ Some event → j.due ≡ Ack header moment
    → IsReport setup (record { event = event; header = header; reading = j.reading })
report_of setup j event header moment may some ack =
    let e = subst (λ (o : Option Event). IfSome o (λ event. MayBeSubmitted (record { event = event; clock = j.reading }) × IsKnownEvent setup event × IsAckDue j.due)) some may.event in
    let d = subst (IsDueUnder setup) ack may.due in
    record { submitted = e.0.submitted; formed = e.0.formed; known = e.1; header = d.0; reading = e.0.clock; keyed = d.2 }
