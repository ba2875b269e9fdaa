-- Line sessions over the bytes of a stream, whose frames are taken together.
use Rattle.std.proofs.Common.{◌≡◌, ◌∷◌, ◌++◌, ℕ, List, [], Result, Ok, Err, refl, sym, ◌∙◌, ap, subst, append_assoc, append-nil, inr, arith}
use Rattle.arc_io.specs.Seen.{PortSeen}
use Rattle.centre_core.specs.Halls.{HallSeen}
use Rattle.centre_rules.specs.Answers.{IsLegal}
use Rattle.centre_rules.specs.Summary.{Summary}
use Rattle.centre_rules.specs.History.{Entry}
use Rattle.dc09_frame.specs.Frames.{bodies}
use Rattle.session_rules.specs.Sessions.{Change, changed}
use Rattle.session_rules.proofs.Keeping.{kept_self}
use Rattle.session_rules.proofs.Made.{session_none}
use Rattle.line_session.specs.Dues.{Asked, bodies_in}
use Rattle.line_session.specs.Groups.{IsHeld, IsHeldOrEnded, IsAnsweredOrEnded, IsGroupLine, ServesGroupBytes, group_rules}
use Rattle.line_session.specs.Sessions.{IsCutShort, ending_of}
use Rattle.line_session.specs.Turns.{line_turns}
use Rattle.line_session.specs.declared.line_end.LineEnd.{LineEnd}
use Rattle.line_session.specs.declared.waiting.Waiting.{Waiting}
use Rattle.line_session.proofs.Grouped.{group_line_of, group_still, group_wider, reads_none}
use Rattle.line_session.proofs.Served.{early_err}

-- Of the pieces that these bytes end behind a stream some are answered, and the others wait.
pub record HoldsBytes (name stream bytes : List ℕ) (b : Summary) (h : List Entry) (w : Waiting) (c : Change) : Type 0 where
  pub some : List (List ℕ)
  pub asked : List Asked
  pub ended : bodies (stream ++ bytes) ≡ bodies stream ++ (some ++ bodies_in asked)
  pub held : IsHeld name b h some asked [] w c

module _ (name stream : List ℕ) (b : Summary) (h : List Entry) where
  -- no bytes
  pub holds_none : (hall : HallSeen) (p : PortSeen) (w : Waiting) → w.batch ≡ [] → w.dues.items ≡ [] → hall.ready → hall.stands b h → IsLegal b h
      → HoldsBytes name stream [] b h w (changed hall hall p p)
  holds_none hall p w calls dues ready s legal = record {
    some = [];
    asked = [];
    ended = ap bodies (append-nil stream) ∙ sym (append-nil (bodies stream));
    held = record {
      kept = kept_self hall ready;
      waiting = record { dues = rw dues tt; calls = calls };
      met = p;
      session = session_none line_turns (group_rules name b hall hall) b h (omega arith) ([], refl) s legal (record { rest = refl });
      reads_ahead = reads_none p;
    };
  }

  -- other bytes, which end the same whole pieces
  pub holds_same : (front bytes : List ℕ) {w : Waiting} {c : Change} → bodies (stream ++ bytes) ≡ bodies (stream ++ front) → HoldsBytes name stream front b h w c → HoldsBytes name stream bytes b h w c
  holds_same front bytes {w} {c} same s = record { some = s.some; asked = s.asked; ended = same ∙ s.ended; held = s.held }

  -- all bodies with one more
  all_more : (front bytes body : List ℕ) (some : List (List ℕ)) (asked : List Asked) → bodies (stream ++ bytes) ≡ bodies (stream ++ front) ++ body ∷ []
      → bodies (stream ++ front) ≡ bodies stream ++ (some ++ bodies_in asked) → bodies (stream ++ bytes) ≡ bodies stream ++ (some ++ bodies_in asked ++ body ∷ [])
  all_more front bytes body some asked one before =
      one ∙ ap (λ (l : List (List ℕ)). l ++ body ∷ []) before ∙ append_assoc (bodies stream) (some ++ bodies_in asked) (body ∷ [])

  -- more bytes, which end one whole piece, and it was taken
  pub holds_more : (front bytes body : List ℕ) {w w' : Waiting} {c c' : Change} → bodies (stream ++ bytes) ≡ bodies (stream ++ front) ++ body ∷ [] → (s : HoldsBytes name stream front b h w c)
      → IsHeldOrEnded (Ok tt) name b h (s.some ++ bodies_in s.asked ++ body ∷ []) [] w' c' → HoldsBytes name stream bytes b h w' c'
  holds_more front bytes body {w} {w'} {c} {c'} one s next = record {
    some = next.0;
    asked = next.1;
    ended =
        all_more front bytes body s.some s.asked one s.ended
        ∙ ap (λ (l : List (List ℕ)). bodies stream ++ l) (next.2 ∙ ap (λ (l : List Asked). next.0 ++ bodies_in l) (append-nil next.1));
    held = next.3;
  }

  -- or the session ended then, with bytes behind
  pub serves_ended : (front middle bytes body : List ℕ) (more : List (List ℕ)) (w' : Waiting) {w : Waiting} {c : Change} {hall hall' : HallSeen} {p p' : PortSeen} (end : LineEnd) → IsCutShort (Err end)
      → bodies (stream ++ middle) ≡ bodies (stream ++ front) ++ body ∷ [] → bodies (stream ++ bytes) ≡ bodies (stream ++ middle) ++ more → (s : HoldsBytes name stream front b h w c)
      → IsHeldOrEnded (Err end) name b h (s.some ++ bodies_in s.asked ++ body ∷ []) [] w' (changed hall hall' p p') → ServesGroupBytes name (Err end) stream bytes b h (changed hall hall' p p')
  serves_ended front middle bytes body more w' {w} {c} {hall} {hall'} {p} {p'} end short one behind s next = record {
    whole = (s.some ++ bodies_in s.asked ++ body ∷ []) ++ more;
    ended =
        behind ∙ ap (λ (l : List (List ℕ)). l ++ more) (all_more front middle body s.some s.asked one s.ended)
        ∙ append_assoc (bodies stream) (s.some ++ bodies_in s.asked ++ body ∷ []) more;
    session = group_wider more (early_err end short) next;
  }

  -- all that waited was answered, or the session ended then
  pub serves_all_held : (bytes : List ℕ) (w' : Waiting) {w : Waiting} {c : Change} {hall hall' : HallSeen} {p p' : PortSeen} (end : Result (Unit {0}) LineEnd) (s : HoldsBytes name stream bytes b h w c)
      → IsAnsweredOrEnded end name b h (s.some ++ bodies_in (s.asked ++ [])) [] w' (changed hall hall' p p') → ServesGroupBytes name end stream bytes b h (changed hall hall' p p')
  serves_all_held bytes w' {w} {c} {hall} {hall'} {p} {p'} (Ok done) s next = record {
    whole = next.0;
    ended =
        s.ended ∙ ap (λ (l : List (List ℕ)). bodies stream ++ l)
        (ap (λ (l : List Asked). s.some ++ bodies_in l) (sym (append-nil s.asked)) ∙ next.1 ∙ append-nil next.0);
    session = let same = group_still name next.2.reads_ahead next.2.session in group_line_of same (inr same.ended.none_behind);
  }
  serves_all_held bytes w' {w} {c} {hall} {hall'} {p} {p'} (Err end) s next = record {
    whole = s.some ++ bodies_in (s.asked ++ []);
    ended = s.ended ∙ ap (λ (l : List Asked). bodies stream ++ (s.some ++ bodies_in l)) (sym (append-nil s.asked));
    session = next;
  }

  -- other bytes, which end the same whole pieces, and an end of the same kind
  pub group_serves_same : (end end' : Result (Unit {0}) LineEnd) (front bytes : List ℕ) {c : Change} → ending_of end ≡ ending_of end' → bodies (stream ++ bytes) ≡ bodies (stream ++ front)
      → ServesGroupBytes name end stream front b h c → ServesGroupBytes name end' stream bytes b h c
  group_serves_same end end' front bytes {c} alike same s = record {
    whole = s.whole;
    ended = same ∙ s.ended;
    session = subst (λ e. IsGroupLine name e b s.whole h c) alike s.session;
  }

-- a line of the same name
pub group_serves_named : {name name' : List ℕ} {end : Result (Unit {0}) LineEnd} {stream bytes : List ℕ} {b : Summary} {h : List Entry} {c : Change} → name ≡ name'
    → ServesGroupBytes name end stream bytes b h c → ServesGroupBytes name' end stream bytes b h c
group_serves_named {name} {name'} {end} {stream} {bytes} {b} {h} {c} same s = subst (λ (n : List ℕ). ServesGroupBytes n end stream bytes b h c) same s

-- the same bytes
pub group_serves_all : (name : List ℕ) (end : Result (Unit {0}) LineEnd) (stream bytes : List ℕ) (b : Summary) (h : List Entry) {taken : List ℕ} {c : Change} → taken ≡ bytes
    → ServesGroupBytes name end stream taken b h c → ServesGroupBytes name end stream bytes b h c
group_serves_all name end stream bytes b h {taken} {c} same s = subst (λ (l : List ℕ). ServesGroupBytes name end stream l b h c) same s
