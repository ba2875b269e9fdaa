-- Line sessions over a port, read piece by piece.
use Rattle.std.proofs.Common.{◌≡◌, ◌≢◌, ◌<◌, ◌≤◌, ◌↔◌, ◌-◌, ◌++◌, ℕ, List, length, take, Bool, true, false, Result, Ok, Err, refl, sym, ◌∙◌, ap, length-append, arith}
use Rattle.std.specs.Io.KnownBytes.{prepend_known}
use Rattle.alarm_rules.specs.Setups.{meaning}
use Rattle.arc_io.specs.Causes.{Rose}
use Rattle.arc_io.specs.Seen.{PortSeen}
use Rattle.arc_io.specs.Added.{Answers}
use Rattle.arc_io.specs.Told.{OnlyReads, Reads}
use Rattle.arc_io.proofs.KnownMore.{prepend_none}
use Rattle.centre_core.specs.Halls.{HallSeen, IsKept}
use Rattle.centre_rules.specs.Summary.{Summary}
use Rattle.centre_rules.specs.History.{Entry}
use Rattle.dc09_frame.specs.Frames.{bodies}
use Rattle.session_rules.specs.Sessions.{answered, changed, Goes}
use Rattle.session_rules.proofs.Ahead.{all_complete, completes}
use Rattle.session_rules.proofs.Inputs.{ReadSoFar, read_on, write_rose}
use Rattle.session_rules.proofs.Joined.{session_read, session_then, all_pieces}
use Rattle.session_rules.proofs.Ports.{rose_since}
pub use Rattle.session_rules.proofs.Inputs.{all_in_limit}
use Rattle.session_rules.specs.Inputs.{input_limit}
use Rattle.session_rules.specs.Turns.{entries_of}
use Rattle.line_session.specs.Lines.{ServesBytes, ServesLine, IsTaken, HasEnded, LineValue, ReadsLine}
use Rattle.line_session.specs.Sessions.{IsLine, ending_of, line_rules}
use Rattle.line_session.specs.Turns.{line_turns}
use Rattle.line_session.specs.declared.line_end.LineEnd.{LineEnd}
use Rattle.line_session.specs.declared.line_end.LineEnd.TheVariants.{InputEnded, ReadFault, WriteFault, Spent, Stopped}
use Rattle.line_session.proofs.Completed.{acknowledged}
use Rattle.line_session.proofs.Followed.{line_follows}

-- an end at which nothing more was read
abbrev pub IsAtRest : LineEnd → Type 0
IsAtRest InputEnded = Unit {0}
IsAtRest ReadFault = Unit {0}
IsAtRest Spent = ⊥
IsAtRest WriteFault = ⊥
IsAtRest (Stopped stop) = ⊥

module _ (name : List ℕ) (b : Summary) (h : List Entry) where
  answered_line : (end : LineEnd) (read : List ℕ) {hall hall' : HallSeen} {p p' : PortSeen} → IsAtRest end → IsLine name answered b (bodies read) h (changed hall hall' p p') → Goes h (λ w. ServesLine name end read b w (changed hall hall' p p'))
  answered_line InputEnded read {hall} {hall'} {p} {p'} rest s = (
    s.history,
    entries_of line_turns s.turns,
    record { session = s; to = refl; made = refl; complete = all_complete line_turns bodies read s; acknowledged = acknowledged name b (meaning hall.text) hall.caller h s.history s.turns s.each },
  )
  answered_line ReadFault read {hall} {hall'} {p} {p'} rest s = (
    s.history,
    entries_of line_turns s.turns,
    record { session = s; to = refl; made = refl; complete = all_complete line_turns bodies read s; acknowledged = acknowledged name b (meaning hall.text) hall.caller h s.history s.turns s.each },
  )
  answered_line Spent read rest s = absurd rest
  answered_line WriteFault read rest s = absurd rest
  answered_line (Stopped stop) read rest s = absurd rest

  -- A session ends with what it read.
  pub line_rests : (end : LineEnd) (read : List ℕ) {hall hall' : HallSeen} {p q r : PortSeen} → IsAtRest end → OnlyReads q r → IsLine name answered b (bodies read) h (changed hall hall' p q) → Goes h (λ w. ServesLine name end read b w (changed hall hall' p r))
  line_rests end read rest only s = answered_line end read rest (session_read line_turns refl only s)

  module _ (stream piece : List ℕ) {hall mid hall' : HallSeen} {p q q' r : PortSeen} (kept : IsKept hall mid) (only : OnlyReads q q') (first : IsLine name answered b (bodies stream) h (changed hall mid p q)) where
    -- A session goes on behind a piece.
    pub line_goes : ((x : List Entry) → mid.stands b x → ServesBytes name (Ok tt) stream piece b x (changed mid hall' q' r)) → IsLine name answered b (bodies (stream ++ piece)) h (changed hall hall' p r)
    unfolding session_read
    line_goes next =
        let n = next first.history first.holds in
        session_read line_turns n.ended (record { rest = refl }) (session_then line_turns (line_follows name b kept (first.up tt) hall' h) (session_read line_turns refl only first) n.session)

    -- A session ends within its last piece.
    pub line_ends : (end : LineEnd) → length piece ≤ 4096 → ((x : List Entry) → mid.stands b x → ServesBytes name (Err end) stream piece b x (changed mid hall' q' r)) → Goes h (λ w. ServesLine name end (stream ++ piece) b w (changed hall hall' p r))
    unfolding session_read session_then
    line_ends end short next =
        let n = next first.history first.holds in
        let session = session_read line_turns n.ended (record { rest = refl }) (session_then line_turns (line_follows name b kept (first.up tt) hall' h) (session_read line_turns refl only first) n.session) in (
          session.history,
          entries_of line_turns session.turns,
          record {
            session = session;
            to = refl;
            made = refl;
            complete = completes line_turns bodies stream piece first.turns short (all_pieces line_turns first) (line_rules name b mid hall') (ending_of (Err end)) n.session.history (bodies (stream ++ piece)) n.session.turns n.session.behind n.session.added n.session.left n.session.ended session.taken;
            acknowledged = acknowledged name b (meaning hall.text) hall.caller h session.history session.turns session.each;
          },
        )

-- no read has met the input's end, and that is not the cause
pub not_out : (ended : Bool) (end : LineEnd) → ended ≡ false → (end ≡ InputEnded → ⊥) → (ended ≡ true) ↔ (end ≡ InputEnded)
not_out ended end more other = (λ out. absurd (cc), λ is. absurd (other is))

-- why a session ended within its last piece
pub ended_by : (name : List ℕ) (end : LineEnd) (stream piece : List ℕ) (s : LineValue) (p p' : PortSeen) → IsTaken name (Err end) stream piece s → length stream < input_limit → length piece ≤ input_limit - length stream
    → (end ≡ WriteFault → Rose p.write_faults p'.write_faults) → HasEnded end (stream ++ piece) p p'
ended_by name InputEnded stream piece s p p' taken short fits rose = absurd taken
ended_by name ReadFault stream piece s p p' taken short fits rose = absurd taken
ended_by name WriteFault stream piece s p p' taken short fits rose = (rose refl, omega (arith, length-append stream piece, short, fits))
ended_by name Spent stream piece s p p' taken short fits rose = omega (arith, length-append stream piece, short, fits, taken)
ended_by name (Stopped stop) stream piece s p p' taken short fits rose = omega (arith, length-append stream piece, short, fits)

-- bytes that are handed in meet no input's end
pub taken_not_out : (name : List ℕ) (end : LineEnd) (stream piece : List ℕ) (s : LineValue) → IsTaken name (Err end) stream piece s → end ≡ InputEnded → ⊥
taken_not_out name InputEnded stream piece s taken is = taken
taken_not_out name ReadFault stream piece s taken is = taken
taken_not_out name WriteFault stream piece s taken is = cc
taken_not_out name Spent stream piece s taken is = cc
taken_not_out name (Stopped stop) stream piece s taken is = cc

-- What a session read that a failed read ended.
pub reads_failed : {stream buffer : List ℕ} {p q r : PortSeen} {E : Type 0} {e : E} → ReadSoFar stream p q → Reads q r (Err e) buffer → length stream < input_limit → ReadsLine ReadFault stream p r
reads_failed {stream} {buffer} {p} {q} {r} input told short = record {
  taken = input.taken ∙ ap (prepend_known stream) (sym told.bytes);
  out = not_out r.ended ReadFault (told.end ∙ input.not_ended) (λ is. cc);
  cause = (rose_since _ _ _ input.reads told.cause.failed, short);
}

-- What a session read that the input's end ended.
pub reads_out : {stream buffer : List ℕ} {count : ℕ} {p q r : PortSeen} {E : Type 0} → ReadSoFar stream p q → Reads {E = E} q r (Ok count) buffer → count ≡ 0 → 0 < length buffer → length stream < input_limit
    → ReadsLine InputEnded stream p r
reads_out {stream} {buffer} {count} {p} {q} {r} input told none room short =
    let nothing = ap (λ n. prepend_known (take n buffer) r.left) none in
    record {
      taken = input.taken ∙ ap (prepend_known stream) (told.bytes.0 ∙ nothing ∙ sym (prepend_none r.left));
      out = (λ out. refl, λ is. told.end.0 none room);
      cause = (told.bytes.1 none room, short);
    }

-- What a session read that ended within its last piece.
pub reads_last : (name : List ℕ) {stream buffer : List ℕ} {count : ℕ} {end : LineEnd} (s : LineValue) {p q q' r : PortSeen} {E : Type 0} → ReadSoFar stream p q → Reads {E = E} q q' (Ok count) buffer → count ≢ 0
    → Answers (◌≡◌ {A = Result (Unit {0}) LineEnd} (Err end) (Err WriteFault)) q' r → IsTaken name (Err end) (stream) (take count buffer) s → length stream < input_limit
    → length (take count buffer) ≤ input_limit - length stream → ReadsLine end (stream ++ take count buffer) p r
reads_last name {stream} {buffer} {count} {end} s {p} {q} {q'} {r} input told some port taken short fits =
    let piece : List ℕ = take count buffer in
    let read = read_on input told port some in
    record {
      taken = read.taken;
      out = not_out r.ended end read.not_ended (taken_not_out name end stream piece s taken);
      cause = ended_by name end stream piece s p r taken short fits (λ is. write_rose input told port (ap Err is));
    }
