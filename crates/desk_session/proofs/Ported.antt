-- Desk sessions over a port, read piece by piece.
use Rattle.std.proofs.Common.{◌≡◌, ◌<◌, ◌≤◌, ◌-◌, ◌++◌, ℕ, List, [], length, Bool, true, false, Option, None, Ok, Err, Result, refl, sym, ◌∙◌, ap, subst, append-nil, length-append, arith}
use Rattle.std.specs.Io.KnownBytes.{prepend_known}
use Rattle.std.specs.Str.Lines.{lines}
use Rattle.std.proofs.lemmas.List.{take_all}
use Rattle.alarm_rules.specs.Setups.{Setup, meaning}
use Rattle.arc_io.specs.Causes.{Rose}
use Rattle.arc_io.specs.Seen.{PortSeen}
use Rattle.arc_io.specs.Told.{OnlyReads}
use Rattle.arc_io.proofs.KnownMore.{known_taken}
use Rattle.arc_text.specs.Lines.{ended_lines}
use Rattle.centre_core.specs.Halls.{HallSeen, IsKept}
use Rattle.centre_rules.specs.Summary.{Summary}
use Rattle.centre_rules.specs.History.{Entry}
use Rattle.session_rules.specs.Inputs.{input_limit, in_limit}
use Rattle.session_rules.specs.Sessions.{changed, answered, IsComplete, Goes}
use Rattle.session_rules.proofs.Ahead.{all_complete, completes}
use Rattle.session_rules.proofs.Joined.{all_pieces, session_read, session_then}
use Rattle.session_rules.specs.Turns.{entries_of, text_of}
use Rattle.session_rules.specs.Reading.{lines_read}
use Rattle.desk_session.specs.Desks.{typed_lines, ServesBytes, ServesLines, ServesDesk, IsTaken, IsFinished, HasEnded, DeskValue}
use Rattle.desk_session.specs.Events.{acts_over, quits, up_to_quit}
use Rattle.desk_session.specs.Sessions.{IsDesk, ending_of, desk_rules}
use Rattle.desk_session.specs.Turns.{desk_turns}
use Rattle.desk_session.specs.declared.desk_end.DeskEnd.{DeskEnd}
use Rattle.desk_session.specs.declared.desk_end.DeskEnd.TheVariants.{Quit, InputEnded, ReadFault, WriteFault, Spent, Stopped}
use Rattle.desk_session.proofs.Followed.{desk_then}
use Rattle.desk_session.proofs.Quitting.{up_all}
use Rattle.desk_session.proofs.Served.{desk_read}

pub read_lines : (ended : Bool) (read : List ℕ) → ended ≡ false → lines_read ended read ≡ ended_lines read
read_lines ended read not_ended = ap (λ (t : Bool). lines_read t read) not_ended

pub read_all_lines : (ended : Bool) (read : List ℕ) → ended ≡ true → lines_read ended read ≡ lines read
read_all_lines ended read out = ap (λ (t : Bool). lines_read t read) out

module _ (b : Summary) (h : List Entry) where
  -- A session ends with what it read, by a failed read.
  pub desk_rests : (read : List ℕ) {hall hall' : HallSeen} {p q r : PortSeen} → quits (ended_lines read) ≡ false → r.ended ≡ false → OnlyReads q r → IsDesk answered b None (ended_lines read) h (changed hall hall' p q)
      → Goes h (λ w. ServesDesk ReadFault read b w hall hall' p r)
  desk_rests read {hall} {hall'} {p} {q} {r} goes_on not_ended only d =
      let same : up_to_quit (lines_read r.ended read) ≡ ended_lines read = ap up_to_quit (read_lines r.ended read not_ended) ∙ up_all (ended_lines read) goes_on in
      let all = desk_read same only d in
      (all.session.history, entries_of desk_turns all.session.turns, record { desk = all; to = refl; made = refl; complete = all_complete desk_turns typed_lines read all.session })

  module _ (stream : List ℕ) (goes_on : quits (ended_lines stream) ≡ false) {hall mid : HallSeen} {p q q' : PortSeen} (kept : IsKept hall mid) (only : OnlyReads q q')
      (first : IsDesk answered b None (ended_lines stream) h (changed hall mid p q)) where
    acts : acts_over (meaning mid.text) None (ended_lines stream) ≡ acts_over (meaning hall.text) None (ended_lines stream)
    acts = ap (λ (t : List ℕ). acts_over (meaning t) None (ended_lines stream)) kept.text

    came : {hall' : HallSeen} {r : PortSeen} (end : Result (Unit {0}) DeskEnd) (after : List (List ℕ)) (x : List Entry) (n : ServesLines end (ended_lines stream) after b x mid hall' q' r) → up_to_quit after ≡ ended_lines stream ++ n.more
    came {hall'} {r} end after x n = n.came ∙ ap (λ (l : List (List ℕ)). l ++ n.more) (up_all (ended_lines stream) goes_on)

    -- A session goes on behind a piece.
    pub desk_goes : {hall' : HallSeen} {r : PortSeen} (after : List (List ℕ)) → quits after ≡ false → ((x : List Entry) → mid.stands b x → ServesLines (Ok tt) (ended_lines stream) after b x mid hall' q' r)
        → IsDesk answered b None after h (changed hall hall' p r)
    unfolding desk_read session_read
    desk_goes {hall'} {r} after still next =
        let d : IsDesk answered b None (ended_lines stream) h (changed hall mid p q') = desk_read refl only first in
        let n = next first.session.history first.session.holds in
        desk_read (sym (up_all after still) ∙ came (Ok tt) after first.session.history n) (record { rest = refl }) (desk_then kept acts d n.desk)

    -- A session ends within its last piece, or at the input's end.
    pub desk_ends : {hall' : HallSeen} {r : PortSeen} (read piece : List ℕ) (end : DeskEnd) (after : List (List ℕ)) → read ≡ stream ++ piece → length piece ≤ 4096 → lines_read r.ended read ≡ after
        → ((x : List Entry) → mid.stands b x → ServesLines (Err end) (ended_lines stream) after b x mid hall' q' r) → Goes h (λ w. ServesDesk end read b w hall hall' p r)
    unfolding desk_read desk_then session_read session_then
    desk_ends {hall'} {r} read piece end after parts short is next =
        let n = next first.session.history first.session.holds in
        let d : IsDesk answered b None (ended_lines stream) h (changed hall mid p q') = desk_read refl only first in
        let all : IsDesk (ending_of (Err end)) b None (up_to_quit (lines_read r.ended read)) h (changed hall hall' p r) =
        desk_read (ap up_to_quit is ∙ came (Err end) after first.session.history n) (record { rest = refl }) (desk_then kept acts d n.desk) in (
          all.session.history,
          entries_of desk_turns all.session.turns,
          record {
            desk = all;
            to = refl;
            made = refl;
            complete = subst (λ (l : List ℕ). IsComplete desk_turns typed_lines (ending_of (Err end)) l (up_to_quit (lines_read r.ended read)) (first.session.turns ++ n.desk.session.turns) n.desk.session.behind (text_of desk_turns first.session.turns ++ n.desk.session.added.text)) (sym parts)
                (completes desk_turns typed_lines stream piece first.session.turns short (up_all (ended_lines stream) goes_on ∙ all_pieces desk_turns first.session)
                (desk_rules b mid hall' (acts_over (meaning mid.text) None (ended_lines stream)) n.desk.last) (ending_of (Err end)) n.desk.session.history (up_to_quit (lines_read r.ended read)) n.desk.session.turns n.desk.session.behind n.desk.session.added n.desk.session.left n.desk.session.ended all.session.taken);
          },
        )

-- a count that rose from a later value on
pub rose_earlier : (first before now : ℕ) → first ≤ before → Rose before now → Rose first now
rose_earlier first before now le rose = omega (arith, le, rose)

-- why a session ended within its last piece
pub ended_by : (end : DeskEnd) (stream piece : List ℕ) (s : DeskValue) (setup : Setup) (p p' : PortSeen) → IsTaken (Err end) setup stream piece s → in_limit stream piece ≡ piece
    → quits (ended_lines stream) ≡ false → p'.ended ≡ false → length piece ≤ 4096 → length stream < input_limit → length piece ≤ input_limit - length stream
    → (end ≡ WriteFault → Rose p.write_faults p'.write_faults) → HasEnded end (stream ++ piece) p p'
ended_by Quit stream piece s setup p p' taken all goes_on out short room fits rose = (
  ap quits (read_lines p'.ended (stream ++ piece) out) ∙ ap (λ (l : List ℕ). quits (ended_lines (stream ++ l))) (sym all) ∙ taken,
  record { front = stream; last = piece; parts = refl; short = short; before = goes_on },
  omega (arith, length-append stream piece, room, fits),
)
ended_by InputEnded stream piece s setup p p' taken all goes_on out short room fits rose = absurd taken
ended_by ReadFault stream piece s setup p p' taken all goes_on out short room fits rose = absurd taken
ended_by WriteFault stream piece s setup p p' taken all goes_on out short room fits rose = (rose refl, omega (arith, length-append stream piece, room, fits))
ended_by Spent stream piece s setup p p' taken all goes_on out short room fits rose = (
  out,
  ap (λ (l : List ℕ). quits (ended_lines (stream ++ l))) (sym all) ∙ taken.1,
  omega (arith, length-append stream piece, room, fits, taken.0),
)
ended_by (Stopped stop) stream piece s setup p p' taken all goes_on out short room fits rose = omega (arith, length-append stream piece, room, fits)

-- and at the input's end
pub finished_by : (end : DeskEnd) (stream : List ℕ) (p p' : PortSeen) → IsFinished end stream → quits (ended_lines stream) ≡ false → p'.ended ≡ true → length stream < input_limit
    → (end ≡ WriteFault → Rose p.write_faults p'.write_faults) → HasEnded end stream p p'
finished_by Quit stream p p' finished goes_on out room rose = (
  ap quits (read_all_lines p'.ended stream out) ∙ finished,
  record { front = stream; last = []; parts = sym (append-nil stream); short = omega arith; before = goes_on },
  omega arith,
)
finished_by InputEnded stream p p' finished goes_on out room rose = (out, finished, room)
finished_by ReadFault stream p p' finished goes_on out room rose = absurd finished
finished_by WriteFault stream p p' finished goes_on out room rose = (rose refl, omega arith)
finished_by Spent stream p p' finished goes_on out room rose = absurd finished
finished_by (Stopped stop) stream p p' finished goes_on out room rose = omega arith

-- a piece that the limit leaves room for is taken whole
pub all_in_limit : (stream piece : List ℕ) → length piece ≤ input_limit - length stream → in_limit stream piece ≡ piece
all_in_limit stream piece fits = take_all (input_limit - length stream) piece fits

-- two bytes that were read, one behind the other
pub read_more : (known mid left : Option (List ℕ)) (xs ys : List ℕ) → known ≡ prepend_known xs mid → mid ≡ prepend_known ys left → known ≡ prepend_known (xs ++ ys) left
read_more known mid left xs ys first next = first ∙ ap (prepend_known xs) next ∙ known_taken left xs ys

-- a piece that was taken whole was served whole
pub served_all : (end : Result (Unit {0}) DeskEnd) (stream piece : List ℕ) {b : Summary} {h : List Entry} {hall hall' : HallSeen} {p p' : PortSeen} → in_limit stream piece ≡ piece
    → ServesBytes end stream (in_limit stream piece) b h hall hall' p p' → ServesBytes end stream piece b h hall hall' p p'
served_all end stream piece {b} {h} {hall} {hall'} {p} {p'} all s = subst (λ (l : List ℕ). ServesBytes end stream l b h hall hall' p p') all s
