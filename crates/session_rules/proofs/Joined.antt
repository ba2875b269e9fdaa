-- Sessions behind one another.
use Rattle.std.proofs.Common.{◌≡◌, ◌++◌, ℕ, List, sym, ◌∙◌, ap, subst, append_assoc, append-nil}
use Rattle.std.specs.Prelude.{reverse}
use Rattle.arc_io.specs.Added.{Added, Adds, both}
use Rattle.arc_io.specs.Seen.{PortSeen}
use Rattle.arc_io.specs.Told.{OnlyReads}
use Rattle.arc_io.proofs.Adding.{adds_both, adds_read}
use Rattle.centre_core.proofs.OnDisk.{disk_then}
use Rattle.centre_core.specs.Halls.{HallSeen}
use Rattle.centre_core.specs.declared.hall.Stop.{Stop}
use Rattle.centre_rules.specs.Summary.{Summary}
use Rattle.centre_rules.specs.History.{Entry}
use Rattle.session_rules.specs.Turns.{Kind, Rules, pieces_of, entries_of, added_by}
use Rattle.session_rules.specs.Sessions.{changed, Ending, answered, cut_off, stopped, IsEnd, IsSession}
use Rattle.session_rules.proofs.Appended.{pieces-append, ends_more, own_more}

-- What holds of some turns, and then of others behind them, holds of all.
pub record Follows {T : Type 0} (first next all : Rules T) (h : List Entry) : Type 0 where
  pub turns : (x y : List Entry) (ts us : List T) → first.are_turns h x ts → next.are_turns x y us → all.are_turns h y (ts ++ us)
  pub cause : (x : List Entry) (stop : Stop) (piece : List ℕ) (reading : ℕ) → next.is_cause x stop piece reading → all.is_cause x stop piece reading
  pub behind : (us : List T) → next.may_be_behind us → all.may_be_behind us

-- an end that leaves pieces
abbrev pub IsEarly : Ending → Type 0
IsEarly answered = ⊥
IsEarly cut_off = Unit {0}
IsEarly (stopped stop) = Unit {0}

module _ {T : Type 0} (kind : Kind T) where
  pub ends_under : (next all : Rules T) (end : Ending) (x : List Entry) (turns behind : List T) (a : Added) (rest : List (List ℕ)) → ((stop : Stop) (piece : List ℕ) (reading : ℕ) → next.is_cause x stop piece reading → all.is_cause x stop piece reading)
      → IsEnd kind next end x turns behind a rest → IsEnd kind all end x turns behind a rest
  ends_under next all answered x turns behind a rest cause e = e
  ends_under next all cut_off x turns behind a rest cause e = e
  ends_under next all (stopped stop) x turns behind a rest cause e = record {
    front = e.front;
    piece = e.piece;
    more = e.more;
    reading = e.reading;
    split = e.split;
    next = e.next;
    added = e.added;
    cause = cause stop e.piece e.reading e.cause;
  }

  -- the pieces of a session that answered all
  pub all_pieces : {rules : Rules T} {b : Summary} {xs : List (List ℕ)} {h : List Entry} {hall hall' : HallSeen} {p p' : PortSeen} (s : IsSession kind rules answered b xs h (changed hall hall' p p')) → xs ≡ pieces_of kind s.turns
  all_pieces {rules} {b} {xs} {h} {hall} {hall'} {p} {p'} s = s.taken ∙ ap (λ (l : List (List ℕ)). pieces_of kind s.turns ++ l) s.ended.none_left ∙ append-nil (pieces_of kind s.turns)

  -- A session that answered all, and then a session over what follows.
  unfoldable pub session_then : {first_rules next_rules rules : Rules T} {end : Ending} {b : Summary} {xs ys : List (List ℕ)} {h : List Entry} {hall mid last : HallSeen} {p q r : PortSeen}
      → Follows first_rules next_rules rules h → (first : IsSession kind first_rules answered b xs h (changed hall mid p q)) → IsSession kind next_rules end b ys first.history (changed mid last q r)
      → IsSession kind rules end b (xs ++ ys) h (changed hall last p r)
  session_then {first_rules} {next_rules} {rules} {end} {b} {xs} {ys} {h} {hall} {mid} {last} {p} {q} {r} law first next = record {
    turns = first.turns ++ next.turns;
    behind = next.behind;
    history = next.history;
    added = both (added_by kind first.turns) next.added;
    left = next.left;
    taken =
        ap (λ (l : List (List ℕ)). l ++ ys) (all_pieces first) ∙ ap (λ (l : List (List ℕ)). pieces_of kind first.turns ++ l) next.taken
        ∙ sym (append_assoc (pieces_of kind first.turns) (pieces_of kind next.turns) next.left)
        ∙ ap (λ (l : List (List ℕ)). l ++ next.left) (sym (pieces-append kind first.turns next.turns));
    each = law.turns first.history next.history first.turns next.turns first.each next.each;
    holds = next.holds;
    legal = next.legal;
    own = next.own ∙ ap (λ (l : List Entry). reverse (entries_of kind next.turns) ++ l) first.own ∙ own_more kind first.turns next.turns (hall.own h);
    disk = disk_then first.disk next.disk;
    up = λ unstopped up. next.up unstopped (first.up tt up);
    adds = adds_both (subst (Adds p q) first.ended.added first.adds) next.adds;
    ended = ends_more kind rules end next.history first.turns next.turns next.behind next.added next.left
        (ends_under next_rules rules end next.history next.turns next.behind next.added next.left (law.cause next.history) next.ended);
    unanswered = law.behind next.behind next.unanswered;
  }

  -- The same turns: other pieces of which they leave others, under other rules, and at another port.
  abbrev pub session_as : {own rules : Rules T} {end : Ending} {b : Summary} {xs ys : List (List ℕ)} {h : List Entry} {hall hall' : HallSeen} {p p' q q' : PortSeen}
      → (s : IsSession kind own end b xs h (changed hall hall' p p')) (left : List (List ℕ)) → ys ≡ pieces_of kind s.turns ++ left → rules.are_turns h s.history s.turns → Adds q q' s.added
      → IsEnd kind rules end s.history s.turns s.behind s.added left → rules.may_be_behind s.behind → IsSession kind rules end b ys h (changed hall hall' q q')
  session_as {own} {rules} {end} {b} {xs} {ys} {h} {hall} {hall'} {p} {p'} {q} {q'} s left taken each adds ended unanswered = record {
    turns = s.turns;
    behind = s.behind;
    history = s.history;
    added = s.added;
    left = left;
    taken = taken;
    each = each;
    holds = s.holds;
    legal = s.legal;
    own = s.own;
    disk = s.disk;
    up = s.up;
    adds = adds;
    ended = ended;
    unanswered = unanswered;
  }

  -- the same session, and then a read of its port
  unfoldable pub session_read : {rules : Rules T} {end : Ending} {b : Summary} {xs ys : List (List ℕ)} {h : List Entry} {hall hall' : HallSeen} {p q r : PortSeen}
      → ys ≡ xs → OnlyReads q r → IsSession kind rules end b xs h (changed hall hall' p q) → IsSession kind rules end b ys h (changed hall hall' p r)
  session_read {rules} {end} {b} {xs} {ys} {h} {hall} {hall'} {p} {q} {r} same only s = session_as s s.left (same ∙ s.taken) s.each (adds_read s.adds only) s.ended s.unanswered

  pub ends_wider : (rules : Rules T) (end : Ending) (x : List Entry) (turns behind : List T) (a : Added) (rest more : List (List ℕ)) → IsEarly end → IsEnd kind rules end x turns behind a rest → IsEnd kind rules end x turns behind a (rest ++ more)
  ends_wider rules answered x turns behind a rest more early e = absurd early
  ends_wider rules cut_off x turns behind a rest more early e = e
  ends_wider rules (stopped stop) x turns behind a rest more early e = record {
    front = e.front;
    piece = e.piece;
    more = e.more ++ more;
    reading = e.reading;
    split = e.split;
    next = ap (λ (l : List (List ℕ)). l ++ more) e.next;
    added = e.added;
    cause = e.cause;
  }

  -- A session that ended early, over more pieces: it left them too.
  unfoldable pub session_wider : {rules : Rules T} {end : Ending} {b : Summary} {xs : List (List ℕ)} {h : List Entry} {hall hall' : HallSeen} {p p' : PortSeen} (more : List (List ℕ))
      → IsEarly end → IsSession kind rules end b xs h (changed hall hall' p p') → IsSession kind rules end b (xs ++ more) h (changed hall hall' p p')
  session_wider {rules} {end} {b} {xs} {h} {hall} {hall'} {p} {p'} more early s =
      session_as s (s.left ++ more) (ap (λ (l : List (List ℕ)). l ++ more) s.taken ∙ append_assoc (pieces_of kind s.turns) s.left more) s.each s.adds
      (ends_wider rules end s.history s.turns s.behind s.added s.left more early s.ended) s.unanswered
