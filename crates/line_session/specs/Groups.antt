-- What a line session did whose frames are taken together, by its end.
use Rattle.std.specs.Prelude.{◌≡◌, ◌≤◌, ◌⊎◌, ◌+◌, ◌++◌, ℕ, List, [], Result, Ok, Err, length}
use Rattle.alarm_rules.specs.Setups.{meaning}
use Rattle.arc_io.specs.Added.{Adds}
use Rattle.arc_io.specs.Seen.{PortSeen}
use Rattle.centre_core.specs.Halls.{HallSeen, IsKept}
use Rattle.centre_rules.specs.Summary.{Summary}
use Rattle.centre_rules.specs.History.{Entry}
use Rattle.dc09_frame.specs.Frames.{bodies}
use Rattle.session_rules.specs.Sessions.{Change, Ending, answered, cut_off, stopped, IsComplete, IsSession, Way, changed}
use Rattle.session_rules.specs.Turns.{Rules, entries_of}
use Rattle.line_session.specs.Completeness.{AreAcknowledged}
use Rattle.line_session.specs.Dues.{Asked, AreWaiting, bodies_in, readings_in}
use Rattle.line_session.specs.Sessions.{line_rules, ending_of}
use Rattle.line_session.specs.Turns.{Turn, line_turns}
use Rattle.line_session.specs.declared.line_end.LineEnd.{LineEnd}
use Rattle.line_session.specs.declared.waiting.Waiting.{Waiting}

-- the rules of a line's session, but for one thing: turns of one batch may stand recorded behind one whose reply was cut off
abbrev pub group_rules : List ℕ → Summary → HallSeen → HallSeen → Rules Turn
group_rules name b hall hall' =
    record (line_rules name b hall hall') { may_be_behind = λ behind. length (entries_of line_turns behind) ≤ 64 }

-- only these readings were taken
abbrev pub ReadsClock : List ℕ → PortSeen → PortSeen → Type 0
ReadsClock readings p p' = Adds p p' (record { text = []; readings = readings; noise = [] })

-- how many readings an end itself tells: that of the piece at which the hall stopped, which has no turn
abbrev pub readings_at : Ending → ℕ
readings_at (stopped stop) = 1
readings_at end = 0

-- A session of a line of this name over whole pieces of these bodies, from a history on, as `IsLine` has it, but that the port is as it
-- then is but for readings of the clock: pieces that have no turn took theirs already, at most one each. So where all is answered there
-- are none. Only behind a reply that was cut off may turns stand recorded without theirs.
pub record IsGroupLine (name : List ℕ) (end : Ending) (b : Summary) (bodies : List (List ℕ)) (h : List Entry) (c : Change) : Type 0 where
  pub met : PortSeen
  pub session : IsSession line_turns (group_rules name b c.hall c.hall') end b bodies h (changed c.hall c.hall' c.port met)
  pub sent : (end ≡ cut_off) ⊎ (session.behind ≡ [])
  pub ahead : List ℕ
  pub few : readings_at end + length ahead ≤ length session.left
  pub reads_ahead : ReadsClock ahead met c.port'

-- such a session of a line of this name over the whole pieces that these bytes end behind a stream
pub record ServesGroupBytes (name : List ℕ) (end : Result (Unit {0}) LineEnd) (stream bytes : List ℕ) (b : Summary) (h : List Entry)
    (c : Change) : Type 0 where
  pub whole : List (List ℕ)
  pub ended : bodies (stream ++ bytes) ≡ bodies stream ++ whole
  pub session : IsGroupLine name (ending_of end) b whole h c

-- and over a port that read these bytes, on this way: a session over all their whole pieces
pub record ServesGroup (name : List ℕ) (end : LineEnd) (read : List ℕ) (b : Summary) (w : Way) (c : Change) : Type 0 where
  pub line : IsGroupLine name (ending_of (Err end)) b (bodies read) w.from c
  pub to : w.to ≡ line.session.history
  pub made : w.made ≡ entries_of line_turns line.session.turns
  pub complete : IsComplete line_turns bodies (ending_of (Err end)) read (bodies read)
      line.session.turns line.session.behind line.session.added.text
  pub acknowledged : AreAcknowledged (meaning c.hall.text) line.session.turns

-- Within one piece of bytes: those of some first bodies are answered, these wait for their answers, and later ones took their readings too.
pub record IsHeld (name : List ℕ) (b : Summary) (h : List Entry) (bodies : List (List ℕ)) (asked later : List Asked) (w : Waiting)
    (c : Change) : Type 0 where
  pub kept : IsKept c.hall c.hall'
  pub waiting : AreWaiting name (meaning c.hall'.text) asked w
  pub met : PortSeen
  pub session : IsSession line_turns (group_rules name b c.hall c.hall') answered b bodies h (changed c.hall c.hall' c.port met)
  pub reads_ahead : ReadsClock (readings_in (asked ++ later)) met c.port'

-- What a step within a piece leaves, by its end, of all bodies so far: some are answered, and the others wait, or are later ones; or the
-- session ended.
abbrev pub IsHeldOrEnded : Result (Unit {0}) LineEnd
    → List ℕ → Summary → List Entry → List (List ℕ) → List Asked → Waiting → Change → Type 0
IsHeldOrEnded (Ok done) name b h all later w c =
    (some : List (List ℕ)) × (asked : List Asked) × (all ≡ some ++ bodies_in (asked ++ later)) × IsHeld name b h some asked later w c
IsHeldOrEnded (Err end) name b h all later w c = IsGroupLine name (ending_of (Err end)) b all h c

-- What is left once all that waited were answered: later ones at most, or the session ended.
abbrev pub IsAnsweredOrEnded : Result (Unit {0}) LineEnd
    → List ℕ → Summary → List Entry → List (List ℕ) → List Asked → Waiting → Change → Type 0
IsAnsweredOrEnded (Ok done) name b h all later w c =
    (some : List (List ℕ)) × (all ≡ some ++ bodies_in later) × IsHeld name b h some [] later w c
IsAnsweredOrEnded (Err end) name b h all later w c = IsGroupLine name (ending_of (Err end)) b all h c
