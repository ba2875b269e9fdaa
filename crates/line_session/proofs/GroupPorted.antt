-- Line sessions over a port whose frames are taken together, read piece by piece.
use Rattle.std.proofs.Common.{◌≤◌, ◌++◌, ℕ, List, [], length, Ok, Err, refl, inr, arith}
use Rattle.arc_io.specs.Seen.{PortSeen}
use Rattle.arc_io.specs.Told.{OnlyReads}
use Rattle.alarm_rules.specs.Setups.{meaning}
use Rattle.centre_core.specs.Halls.{HallSeen, IsKept}
use Rattle.centre_rules.specs.Summary.{Summary}
use Rattle.centre_rules.specs.History.{Entry}
use Rattle.dc09_frame.specs.Frames.{bodies}
use Rattle.session_rules.specs.Sessions.{answered, changed, Goes}
use Rattle.session_rules.proofs.Ahead.{all_complete, completes}
use Rattle.session_rules.proofs.Joined.{session_read, session_then, all_pieces}
use Rattle.session_rules.specs.Turns.{entries_of}
use Rattle.line_session.specs.Groups.{group_rules, ServesGroupBytes, ServesGroup}
use Rattle.line_session.specs.Sessions.{ending_of}
use Rattle.line_session.specs.Turns.{line_turns}
use Rattle.line_session.specs.declared.line_end.LineEnd.{LineEnd}
use Rattle.line_session.specs.declared.line_end.LineEnd.TheVariants.{InputEnded, ReadFault, WriteFault, Spent, Stopped}
use Rattle.line_session.proofs.Completed.{acknowledged}
use Rattle.line_session.proofs.Grouped.{IsGroup, group_follows, group_of_answered, reads_none}
use Rattle.line_session.proofs.Ported.{IsAtRest}

module _ (name : List ℕ) (b : Summary) (h : List Entry) where
  answered_group : (end : LineEnd) (read : List ℕ) {hall hall' : HallSeen} {p p' : PortSeen} → IsAtRest end → IsGroup name answered b (bodies read) h (changed hall hall' p p') → Goes h (λ w. ServesGroup name end read b w (changed hall hall' p p'))
  answered_group InputEnded read {hall} {hall'} {p} {p'} rest s = (
    s.history,
    entries_of line_turns s.turns,
    record {
      line = record { met = p'; session = s; sent = inr s.ended.none_behind; ahead = []; few = omega arith; reads_ahead = reads_none p' };
      to = refl;
      made = refl;
      complete = all_complete line_turns bodies read s;
      acknowledged = acknowledged name b (meaning hall.text) hall.caller h s.history s.turns s.each;
    },
  )
  answered_group ReadFault read {hall} {hall'} {p} {p'} rest s = (
    s.history,
    entries_of line_turns s.turns,
    record {
      line = record { met = p'; session = s; sent = inr s.ended.none_behind; ahead = []; few = omega arith; reads_ahead = reads_none p' };
      to = refl;
      made = refl;
      complete = all_complete line_turns bodies read s;
      acknowledged = acknowledged name b (meaning hall.text) hall.caller h s.history s.turns s.each;
    },
  )
  answered_group Spent read rest s = absurd rest
  answered_group WriteFault read rest s = absurd rest
  answered_group (Stopped stop) read rest s = absurd rest

  -- A session ends with what it read.
  pub group_rests : (end : LineEnd) (read : List ℕ) {hall hall' : HallSeen} {p q r : PortSeen} → IsAtRest end → OnlyReads q r → IsGroup name answered b (bodies read) h (changed hall hall' p q)
      → Goes h (λ w. ServesGroup name end read b w (changed hall hall' p r))
  group_rests end read rest only s = answered_group end read rest (session_read line_turns refl only s)

  module _ (stream piece : List ℕ) {hall mid hall' : HallSeen} {p q q' r : PortSeen} (kept : IsKept hall mid) (only : OnlyReads q q') (first : IsGroup name answered b (bodies stream) h (changed hall mid p q)) where
    -- A session goes on behind a piece.
    pub group_goes : ((x : List Entry) → mid.stands b x → ServesGroupBytes name (Ok tt) stream piece b x (changed mid hall' q' r)) → IsGroup name answered b (bodies (stream ++ piece)) h (changed hall hall' p r)
    unfolding session_read
    group_goes next =
        let n = next first.history first.holds in
        session_read line_turns n.ended (record { rest = refl }) (session_then line_turns (group_follows name b kept (first.up tt) hall' h) (session_read line_turns refl only first) (group_of_answered n.session))

    -- A session ends within its last piece.
    pub group_ends : (end : LineEnd) → length piece ≤ 4096 → ((x : List Entry) → mid.stands b x → ServesGroupBytes name (Err end) stream piece b x (changed mid hall' q' r)) → Goes h (λ w. ServesGroup name end (stream ++ piece) b w (changed hall hall' p r))
    unfolding session_read session_then
    group_ends end short next =
        let n = next first.history first.holds in
        let line = n.session in
        let session = session_read line_turns n.ended (record { rest = refl }) (session_then line_turns (group_follows name b kept (first.up tt) hall' h) (session_read line_turns refl only first) line.session) in (
          session.history,
          entries_of line_turns session.turns,
          record {
            line = record { met = line.met; session = session; sent = line.sent; ahead = line.ahead; few = line.few; reads_ahead = line.reads_ahead };
            to = refl;
            made = refl;
            complete = completes line_turns bodies stream piece first.turns short (all_pieces line_turns first) (group_rules name b mid hall') (ending_of (Err end)) line.session.history (bodies (stream ++ piece)) line.session.turns line.session.behind line.session.added line.session.left line.session.ended session.taken;
            acknowledged = acknowledged name b (meaning hall.text) hall.caller h session.history session.turns session.each;
          },
        )
