-- Sessions over no piece, and over one.
use Rattle.std.proofs.Common.{◌≡◌, ◌<◌, ◌∷◌, ◌++◌, ℕ, List, [], take, length, refl, sym, append-nil}
use Rattle.std.specs.Prelude.{reverse}
use Rattle.arc_io.specs.Added.{Adds}
use Rattle.arc_io.specs.Seen.{PortSeen}
use Rattle.arc_io.specs.Told.{OnlyReads, after_reading}
use Rattle.arc_io.proofs.Adding.{adds_none, adds_reading}
use Rattle.centre_core.proofs.OnDisk.{disk_stays}
use Rattle.centre_core.specs.Halls.{HallSeen, DiskGoesOn, Waits}
use Rattle.centre_core.specs.declared.hall.Stop.{Stop}
use Rattle.centre_rules.specs.Summary.{Summary}
use Rattle.centre_rules.specs.History.{Entry}
use Rattle.centre_rules.specs.Answers.{IsLegal}
use Rattle.session_rules.specs.Turns.{Kind, Rules, entries_of, added_by}
use Rattle.session_rules.specs.Sessions.{changed, answered, cut_off, stopped, IsSession}

module _ {T : Type 0} (kind : Kind T) (rules : Rules T) (b : Summary) (h : List Entry) (quick : rules.may_be_behind []) where
  -- over nothing
  pub session_none : {hall : HallSeen} {p p' : PortSeen} → rules.are_turns h h [] → hall.stands b h → IsLegal b h → OnlyReads p p' → IsSession kind rules answered b [] h (changed hall hall p p')
  session_none {hall} {p} {p'} none s legal only = record {
    turns = [];
    behind = [];
    history = h;
    added = added_by kind [];
    left = [];
    taken = refl;
    each = none;
    holds = s;
    legal = legal;
    own = refl;
    disk = disk_stays;
    up = λ _ up. up;
    adds = adds_none only;
    ended = record { added = refl; none_behind = refl; none_left = refl };
    unanswered = quick;
  }

  -- what one turn adds
  one_added : (t : T) → kind.adds t ≡ added_by kind (t ∷ [])
  one_added t = λ i. record { text = sym (append-nil (kind.adds t).text) i; readings = sym (append-nil (kind.adds t).readings) i; noise = sym (append-nil (kind.adds t).noise) i }

  -- over one piece, whose reply was sent whole
  pub session_sent : {hall hall' : HallSeen} {p p' : PortSeen} (x : List Entry) (t : T) → rules.are_turns h x (t ∷ []) → hall'.stands b x → IsLegal b x
      → hall'.own x ≡ reverse (entries_of kind (t ∷ [])) ++ hall.own h → DiskGoesOn b hall hall' h x → (hall.up → hall'.up) → Adds p p' (kind.adds t) → IsSession kind rules answered b (kind.asked t ∷ []) h (changed hall hall' p p')
  session_sent {hall} {hall'} {p} {p'} x t turn s legal own disk up adds = record {
    turns = t ∷ [];
    behind = [];
    history = x;
    added = kind.adds t;
    left = [];
    taken = refl;
    each = turn;
    holds = s;
    legal = legal;
    own = own;
    disk = disk;
    up = λ _. up;
    adds = adds;
    ended = record { added = one_added t; none_behind = refl; none_left = refl };
    unanswered = quick;
  }

  -- over one piece, whose reply was cut off
  pub session_cut : {hall hall' : HallSeen} {p p' : PortSeen} (x : List Entry) (t : T) (count : ℕ) → rules.are_turns h x (t ∷ []) → hall'.stands b x → IsLegal b x
      → hall'.own x ≡ reverse (entries_of kind (t ∷ [])) ++ hall.own h → DiskGoesOn b hall hall' h x → (hall.up → hall'.up) → count < length (kind.adds t).text → Adds p p' (record (kind.adds t) { text = take count (kind.adds t).text })
      → IsSession kind rules cut_off b (kind.asked t ∷ []) h (changed hall hall' p p')
  session_cut {hall} {hall'} {p} {p'} x t count turn s legal own disk up short adds = record {
    turns = t ∷ [];
    behind = [];
    history = x;
    added = record (kind.adds t) { text = take count (kind.adds t).text };
    left = [];
    taken = refl;
    each = turn;
    holds = s;
    legal = legal;
    own = own;
    disk = disk;
    up = λ _. up;
    adds = adds;
    ended = record {
      front = [];
      last = t;
      count = count;
      split = refl;
      short = short;
      added = λ i. record {
        text = take count (kind.adds t).text;
        readings = sym (append-nil (kind.adds t).readings) i;
        noise = sym (append-nil (kind.adds t).noise) i;
      };
    };
    unanswered = quick;
  }

  -- over one piece that was stopped after its reading
  pub session_stopped : {hall hall' : HallSeen} (p : PortSeen) (stop : Stop) (piece : List ℕ) (reading : ℕ) (w : Waits b hall hall' h) → rules.are_turns h w.now [] → rules.is_cause w.now stop piece reading
      → IsSession kind rules (stopped stop) b (piece ∷ []) h (changed hall hall' p (after_reading reading p))
  session_stopped {hall} {hall'} p stop piece reading w none cause = record {
    turns = [];
    behind = [];
    history = w.now;
    added = record { text = []; readings = reading ∷ []; noise = [] };
    left = piece ∷ [];
    taken = refl;
    each = none;
    holds = w.holds;
    legal = w.legal;
    own = w.own;
    disk = w.disk;
    up = λ unstopped. absurd unstopped;
    adds = adds_reading p reading;
    ended = record { front = []; piece = piece; more = []; reading = reading; split = refl; next = refl; added = refl; cause = cause };
    unanswered = quick;
  }
