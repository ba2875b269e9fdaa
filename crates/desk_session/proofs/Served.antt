-- Desk sessions over the lines of a stream.
use Rattle.std.proofs.Common.{◌≡◌, ◌∷◌, ◌++◌, ℕ, List, [], true, false, Option, None, Result, Ok, Err, refl, sym, ◌∙◌, ap, subst, append_assoc, append-nil}
use Rattle.alarm_rules.specs.Setups.{meaning}
use Rattle.arc_io.specs.Seen.{PortSeen}
use Rattle.arc_io.specs.Told.{OnlyReads}
use Rattle.centre_core.specs.Halls.{HallSeen, IsKept}
use Rattle.centre_rules.specs.Summary.{Summary}
use Rattle.centre_rules.specs.History.{Entry}
use Rattle.centre_rules.specs.Answers.{IsLegal}
use Rattle.session_rules.specs.Sessions.{changed, Ending, answered}
use Rattle.session_rules.proofs.Joined.{IsEarly, session_wider, session_read}
use Rattle.session_rules.proofs.Made.{session_none}
use Rattle.desk_session.specs.Desks.{ServesLines}
use Rattle.desk_session.specs.Events.{acts_over, quits, up_to_quit}
use Rattle.desk_session.specs.Sessions.{IsDesk, IsCutShort, ending_of, desk_rules}
use Rattle.desk_session.specs.Turns.{desk_turns}
use Rattle.desk_session.specs.declared.desk_end.DeskEnd.{DeskEnd}
use Rattle.desk_session.specs.declared.desk_end.DeskEnd.TheVariants.{Quit, InputEnded, ReadFault, WriteFault, Spent, Stopped}
use Rattle.desk_session.proofs.Acting.{acts_over-append}
use Rattle.desk_session.proofs.Followed.{desk_then}
use Rattle.desk_session.proofs.Quitting.{up_all, up_next, wider}

-- the same session, over the same lines and to the same port but for reads
unfoldable pub desk_read : {end : Ending} {b : Summary} {first : Option (List ℕ)} {xs ys : List (List ℕ)} {h : List Entry} {hall hall' : HallSeen} {p q r : PortSeen}
    → ys ≡ xs → OnlyReads q r → IsDesk end b first xs h (changed hall hall' p q) → IsDesk end b first ys h (changed hall hall' p r)
desk_read {end} {b} {first} {xs} {ys} {h} {hall} {hall'} {p} {q} {r} same only d = record { last = d.last; session = session_read desk_turns same only d.session }

-- a session over no lines
pub desk_none : (b : Summary) (first : Option (List ℕ)) (h : List Entry) {hall : HallSeen} {p q : PortSeen} → hall.stands b h → IsLegal b h → OnlyReads p q → IsDesk answered b first [] h (changed hall hall p q)
desk_none b first h {hall} {p} {q} s legal only = record {
  last = first;
  session = session_none desk_turns (desk_rules b hall hall first first) b h refl (([], refl), refl) s legal only;
}

-- a session that ended early, over more lines
pub desk_wider : {end : Ending} {b : Summary} {first : Option (List ℕ)} {xs : List (List ℕ)} {h : List Entry} {hall hall' : HallSeen} {p q : PortSeen} (more : List (List ℕ))
    → IsEarly end → IsDesk end b first xs h (changed hall hall' p q) → IsDesk end b first (xs ++ more) h (changed hall hall' p q)
desk_wider {end} {b} {first} {xs} {h} {hall} {hall'} {p} {q} more early d = record { last = d.last; session = session_wider desk_turns more early d.session }

module _ (before : List (List ℕ)) (b : Summary) (h : List Entry) where
  -- nothing came
  pub serves_none : (hall : HallSeen) (p : PortSeen) → hall.stands b h → IsLegal b h → ServesLines (Ok tt) before before b h hall hall p p
  serves_none hall p s legal = record {
    more = [];
    came = sym (append-nil (up_to_quit before));
    desk = desk_none b (acts_over (meaning hall.text) None before) h s legal (record { rest = refl });
  }

  -- the same lines, and an end of the same kind
  pub serves_same : (end end' : Result (Unit {0}) DeskEnd) (after after' : List (List ℕ)) {hall hall' : HallSeen} {p p' : PortSeen} → ending_of end ≡ ending_of end' → up_to_quit after' ≡ up_to_quit after
      → ServesLines end before after b h hall hall' p p' → ServesLines end' before after' b h hall hall' p p'
  serves_same end end' after after' {hall} {hall'} {p} {p'} alike same s = record {
    more = s.more;
    came = same ∙ s.came;
    desk = subst (λ e. IsDesk e b (acts_over (meaning hall.text) None before) s.more h (changed hall hall' p p')) alike s.desk;
  }

  module _ (mid_lines : List (List ℕ)) (going : quits before ≡ false) (still : quits mid_lines ≡ false) where
    -- One line more came behind lines that were served, of a session that acts for this operator by then.
    pub serves_more : (end : Result (Unit {0}) DeskEnd) (line : List ℕ) (operator : Option (List ℕ)) {hall mid hall' : HallSeen} {p q r : PortSeen} → IsKept hall mid
        → operator ≡ acts_over (meaning hall.text) None mid_lines → ServesLines (Ok tt) before mid_lines b h hall mid p q
        → ((x : List Entry) → mid.stands b x → IsDesk (ending_of end) b operator (line ∷ []) x (changed mid hall' q r)) → ServesLines end before (mid_lines ++ line ∷ []) b h hall hall' p r
    serves_more end line operator {hall} {mid} {hall'} {p} {q} {r} kept is s next =
        let setup = meaning hall.text in
        let all : mid_lines ≡ before ++ s.more = sym (up_all mid_lines still) ∙ s.came ∙ ap (λ (l : List (List ℕ)). l ++ s.more) (up_all before going) in
        let acts : operator ≡ acts_over setup (acts_over setup None before) s.more = is ∙ ap (acts_over setup None) all ∙ acts_over-append setup None before s.more in
        record {
          more = s.more ++ line ∷ [];
          came = up_next mid_lines line still ∙ ap (λ (l : List (List ℕ)). l ++ line ∷ []) s.came ∙ append_assoc (up_to_quit before) s.more (line ∷ []);
          desk = desk_then kept acts s.desk (next s.desk.session.history s.desk.session.holds);
        }

  widened : (end : DeskEnd) (after rest : List (List ℕ)) {hall hall' : HallSeen} {p p' : PortSeen} → IsEarly (ending_of (Err end))
      → ServesLines (Err end) before after b h hall hall' p p' → ServesLines (Err end) before (after ++ rest) b h hall hall' p p'
  widened end after rest {hall} {hall'} {p} {p'} early s =
      let w = wider after rest in
      record {
        more = s.more ++ w.more;
        came = w.is ∙ ap (λ (l : List (List ℕ)). l ++ w.more) s.came ∙ append_assoc (up_to_quit before) s.more w.more;
        desk = desk_wider w.more early s.desk;
      }

  -- More lines came, of which nothing was served: behind a quit, a failed write or a stop.
  pub serves_wider : (end : DeskEnd) (after rest : List (List ℕ)) {hall hall' : HallSeen} {p p' : PortSeen} → IsCutShort (Err end) → (end ≡ Quit → quits after ≡ true)
      → ServesLines (Err end) before after b h hall hall' p p' → ServesLines (Err end) before (after ++ rest) b h hall hall' p p'
  serves_wider Quit after rest {hall} {hall'} {p} {p'} short quit s =
      let w = wider after rest in
      serves_same (Err Quit) (Err Quit) after (after ++ rest) refl (w.is ∙ ap (λ (l : List (List ℕ)). up_to_quit after ++ l) (w.none (quit refl)) ∙ append-nil (up_to_quit after)) s
  serves_wider WriteFault after rest {hall} {hall'} {p} {p'} short quit s = widened WriteFault after rest tt s
  serves_wider (Stopped stop) after rest {hall} {hall'} {p} {p'} short quit s = widened (Stopped stop) after rest tt s
  serves_wider InputEnded after rest {hall} {hall'} {p} {p'} short quit s = absurd short
  serves_wider ReadFault after rest {hall} {hall'} {p} {p'} short quit s = absurd short
  serves_wider Spent after rest {hall} {hall'} {p} {p'} short quit s = absurd short
