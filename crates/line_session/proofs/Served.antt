-- Line sessions over the bytes of a stream.
use Rattle.std.proofs.Common.{◌≡◌, ◌∷◌, ◌++◌, ℕ, List, [], Result, Ok, Err, refl, sym, ◌∙◌, ap, subst, append_assoc, append-nil}
use Rattle.arc_io.specs.Seen.{PortSeen}
use Rattle.centre_core.specs.Halls.{HallSeen, IsKept}
use Rattle.centre_rules.specs.Summary.{Summary}
use Rattle.centre_rules.specs.History.{Entry}
use Rattle.centre_rules.specs.Answers.{IsLegal}
use Rattle.dc09_frame.specs.Frames.{bodies}
use Rattle.session_rules.specs.Sessions.{Change, changed}
use Rattle.session_rules.proofs.Joined.{IsEarly, session_wider}
use Rattle.session_rules.proofs.Made.{session_none}
use Rattle.line_session.specs.Lines.{ServesBytes}
use Rattle.line_session.specs.Sessions.{IsLine, IsCutShort, ending_of, line_rules}
use Rattle.line_session.specs.Turns.{line_turns}
use Rattle.line_session.specs.declared.line_end.LineEnd.{LineEnd}
use Rattle.line_session.specs.declared.line_end.LineEnd.TheVariants.{InputEnded, ReadFault, WriteFault, Spent, Stopped}
use Rattle.line_session.proofs.Followed.{line_then}

module _ (name stream : List ℕ) (b : Summary) (h : List Entry) where
  -- no bytes
  pub serves_none : (hall : HallSeen) (p : PortSeen) → hall.stands b h → IsLegal b h → ServesBytes name (Ok tt) stream [] b h (changed hall hall p p)
  serves_none hall p s legal = record {
    whole = [];
    ended = ap bodies (append-nil stream) ∙ sym (append-nil (bodies stream));
    session = session_none line_turns (line_rules name b hall hall) b h refl ([], refl) s legal (record { rest = refl });
  }

  -- other bytes, which end the same whole pieces, and an end of the same kind
  pub serves_same : (end end' : Result (Unit {0}) LineEnd) (front bytes : List ℕ) {hall hall' : HallSeen} {p p' : PortSeen} → ending_of end ≡ ending_of end' → bodies (stream ++ bytes) ≡ bodies (stream ++ front)
      → ServesBytes name end stream front b h (changed hall hall' p p') → ServesBytes name end' stream bytes b h (changed hall hall' p p')
  serves_same end end' front bytes {hall} {hall'} {p} {p'} alike same s = record {
    whole = s.whole;
    ended = same ∙ s.ended;
    session = subst (λ e. IsLine name e b s.whole h (changed hall hall' p p')) alike s.session;
  }

  -- more bytes, which end one whole piece
  pub serves_more : (end : Result (Unit {0}) LineEnd) (front bytes body : List ℕ) {hall mid hall' : HallSeen} {p q r : PortSeen} → IsKept hall mid → bodies (stream ++ bytes) ≡ bodies (stream ++ front) ++ body ∷ []
      → ServesBytes name (Ok tt) stream front b h (changed hall mid p q) → ((x : List Entry) → mid.stands b x → IsLine name (ending_of end) b (body ∷ []) x (changed mid hall' q r)) → ServesBytes name end stream bytes b h (changed hall hall' p r)
  serves_more end front bytes body {hall} {mid} {hall'} {p} {q} {r} kept one s next = record {
    whole = s.whole ++ body ∷ [];
    ended = one ∙ ap (λ (l : List (List ℕ)). l ++ body ∷ []) s.ended ∙ append_assoc (bodies stream) s.whole (body ∷ []);
    session = line_then name b kept s.session next;
  }

  -- more bytes, of which nothing was served
  pub serves_wider : (end : Result (Unit {0}) LineEnd) (front bytes : List ℕ) (more : List (List ℕ)) {hall hall' : HallSeen} {p p' : PortSeen} → IsEarly (ending_of end)
      → bodies (stream ++ bytes) ≡ bodies (stream ++ front) ++ more → ServesBytes name end stream front b h (changed hall hall' p p') → ServesBytes name end stream bytes b h (changed hall hall' p p')
  serves_wider end front bytes more {hall} {hall'} {p} {p'} early is s = record {
    whole = s.whole ++ more;
    ended = is ∙ ap (λ (l : List (List ℕ)). l ++ more) s.ended ∙ append_assoc (bodies stream) s.whole more;
    session = session_wider line_turns more early s.session;
  }

-- a line of the same name
pub serves_named : {name name' : List ℕ} {end : Result (Unit {0}) LineEnd} {stream bytes : List ℕ} {b : Summary} {h : List Entry} {c : Change} → name ≡ name'
    → ServesBytes name end stream bytes b h c → ServesBytes name' end stream bytes b h c
serves_named {name} {name'} {end} {stream} {bytes} {b} {h} {c} same s = subst (λ (n : List ℕ). ServesBytes n end stream bytes b h c) same s

-- the same bytes
pub serves_all : (name : List ℕ) (end : Result (Unit {0}) LineEnd) (stream bytes : List ℕ) (b : Summary) (h : List Entry) {taken : List ℕ} {hall hall' : HallSeen} {p p' : PortSeen} → taken ≡ bytes
    → ServesBytes name end stream taken b h (changed hall hall' p p') → ServesBytes name end stream bytes b h (changed hall hall' p p')
serves_all name end stream bytes b h {taken} {hall} {hall'} {p} {p'} same s = subst (λ (l : List ℕ). ServesBytes name end stream l b h (changed hall hall' p p')) same s

-- an error of what was cut short is early
pub early_err : (e : LineEnd) → IsCutShort (Err e) → IsEarly (ending_of (Err e))
early_err InputEnded short = absurd short
early_err ReadFault short = absurd short
early_err Spent short = absurd short
early_err WriteFault short = tt
early_err (Stopped stop) short = tt
