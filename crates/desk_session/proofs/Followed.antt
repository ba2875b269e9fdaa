-- Turns of a desk behind those that went before.
use Rattle.std.proofs.Common.{◌≡◌, ◌∷◌, ◌++◌, ℕ, List, [], Option, Some, None, sym, ◌∙◌, ap, subst, append_assoc}
use Rattle.arc_data.specs.declared.event.Event.{Event}
use Rattle.alarm_rules.specs.Setups.{Setup, meaning}
use Rattle.arc_io.specs.Seen.{PortSeen}
use Rattle.centre_core.specs.Halls.{HallSeen, IsKept}
use Rattle.centre_core.specs.declared.hall.Stop.{Stop}
use Rattle.centre_rules.specs.Summary.{Summary}
use Rattle.centre_rules.specs.History.{Entry, Extends}
use Rattle.session_rules.specs.Sessions.{changed, Ending, answered}
use Rattle.session_rules.specs.Turns.{pieces_of}
use Rattle.session_rules.proofs.Appended.{pieces-append}
use Rattle.session_rules.proofs.Joined.{Follows, session_then, all_pieces}
use Rattle.desk_session.specs.Events.{command_in, acts_after, acts_over, event_of, text_of}
use Rattle.desk_session.specs.Turns.{Turn, desk_turns, IsAnswered, AreTurns}
use Rattle.desk_session.specs.Sessions.{IsDesk, HasStopped, desk_rules}
use Rattle.desk_session.proofs.Acting.{acts_over-append}

pub extends_trans : (h x y : List Entry) → Extends h x → Extends x y → Extends h y
extends_trans h x y a b = (b.0 ++ a.0, b.1 ∙ ap (λ (l : List Entry). b.0 ++ l) a.1 ∙ sym (append_assoc b.0 a.0 h))

module _ (b : Summary) (setup : Setup) (caller : ℕ) where
  answered_earlier : (g h x : List Entry) (t : Turn) (event : Option Event) (text : List ℕ) → Extends g h → IsAnswered b caller h x t event text → IsAnswered b caller g x t event text
  answered_earlier g h x t None text e n = record { extends = extends_trans g h x e n.extends; reading = n.reading; entry = n.entry; reply = n.reply }
  answered_earlier g h x t (Some event) text e n = record {
    before = n.before;
    moment = n.moment;
    made = n.made;
    extends = extends_trans g h n.before e n.extends;
    is = n.is;
    reading = n.reading;
    entry = n.entry;
    by = n.by;
    of = n.of;
    at = n.at;
    known = n.known;
    reply = n.reply;
  }

  turns_earlier : (operator : Option (List ℕ)) (g h x : List Entry) (ts : List Turn) → Extends g h → AreTurns b setup caller operator h x ts → AreTurns b setup caller operator g x ts
  turns_earlier operator g h x [] e all = extends_trans g h x e all
  turns_earlier operator g h x (t ∷ ts) e all = (
    all.0,
    answered_earlier g h all.0 t (event_of operator (command_in t.line)) (text_of setup (command_in t.line)) e all.1,
    all.2,
  )

  turns_more : (operator : Option (List ℕ)) (h x y : List Entry) (ts us : List Turn) → AreTurns b setup caller operator h x ts
      → AreTurns b setup caller (acts_over setup operator (pieces_of desk_turns ts)) x y us → AreTurns b setup caller operator h y (ts ++ us)
  turns_more operator h x y [] us all next = turns_earlier operator h x y us all next
  turns_more operator h x y (t ∷ ts) us all next = (all.0, all.1, turns_more (acts_after setup operator (command_in t.line)) all.0 x y ts us all.2 next)

module _ (b : Summary) {hall mid : HallSeen} (kept : IsKept hall mid) where
  turns_under : (operator : Option (List ℕ)) (x y : List Entry) (us : List Turn) → AreTurns b (meaning mid.text) mid.caller operator x y us → AreTurns b (meaning hall.text) hall.caller operator x y us
  turns_under operator x y us all =
      subst (λ (t : List ℕ). AreTurns b (meaning t) hall.caller operator x y us) kept.text (subst (λ (c : ℕ). AreTurns b (meaning mid.text) c operator x y us) kept.caller all)

  stopped_under : (hall.up → mid.up) → (operator : Option (List ℕ)) (last : HallSeen) (x : List Entry) (stop : Stop) (line : List ℕ) (reading : ℕ) → HasStopped operator b mid last x stop line reading
      → HasStopped operator b hall last x stop line reading
  stopped_under up operator last x stop line reading s = (s.0, s.1, record { shown = s.2.shown; torn = λ (u : hall.up). s.2.torn (up u) })

  -- The first act for one at first and for another at last, and the next go on with that one.
  pub desk_follows : (hall.up → mid.up) → (last : HallSeen) (h : List Entry) (first late early end : Option (List ℕ)) → late ≡ early
      → Follows (desk_rules b hall mid first late) (desk_rules b mid last early end) (desk_rules b hall last first end) h
  desk_follows up last h first late early end same = record {
    turns = λ x y ts us f n.
        let setup = meaning hall.text in
        let goes_on : early ≡ acts_over setup first (pieces_of desk_turns ts) = sym (f.1 ∙ same) in
        let ended : acts_over setup early (pieces_of desk_turns us) ≡ end = subst (λ (t : List ℕ). acts_over (meaning t) early (pieces_of desk_turns us) ≡ end) kept.text n.1 in (
          turns_more b setup hall.caller first h x y ts us f.0 (subst (λ (o : Option (List ℕ)). AreTurns b setup hall.caller o x y us) goes_on (turns_under early x y us n.0)),
          ap (acts_over setup first) (pieces-append desk_turns ts us)
              ∙ acts_over-append setup first (pieces_of desk_turns ts) (pieces_of desk_turns us)
              ∙ ap (λ (o : Option (List ℕ)). acts_over setup o (pieces_of desk_turns us)) (sym goes_on)
              ∙ ended,
        );
    cause = stopped_under up end last;
    behind = λ us none. none;
  }

-- whom a session that answered all acts for at last
pub acts_at_last : {b : Summary} {first : Option (List ℕ)} {xs : List (List ℕ)} {h : List Entry} {hall mid : HallSeen} {p q : PortSeen} (d : IsDesk answered b first xs h (changed hall mid p q))
    → d.last ≡ acts_over (meaning hall.text) first xs
acts_at_last {b} {first} {xs} {h} {hall} {mid} {p} {q} d = sym d.session.each.1 ∙ ap (acts_over (meaning hall.text) first) (sym (all_pieces desk_turns d.session))

-- a session that answered all, and then one over what follows
unfoldable pub desk_then : {end : Ending} {b : Summary} {first next : Option (List ℕ)} {xs ys : List (List ℕ)} {h : List Entry} {hall mid last : HallSeen} {p q r : PortSeen}
    → IsKept hall mid → next ≡ acts_over (meaning hall.text) first xs → (d : IsDesk answered b first xs h (changed hall mid p q)) → IsDesk end b next ys d.session.history (changed mid last q r)
    → IsDesk end b first (xs ++ ys) h (changed hall last p r)
desk_then {end} {b} {first} {next} {xs} {ys} {h} {hall} {mid} {last} {p} {q} {r} kept acts d n = record {
  last = n.last;
  session = session_then desk_turns (desk_follows b kept (d.session.up tt) last h first d.last next n.last (acts_at_last d ∙ sym acts)) d.session n.session;
}
