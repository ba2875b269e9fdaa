-- Turns of a line behind those that went before.
use Rattle.std.proofs.Common.{◌∷◌, ◌++◌, ℕ, List, [], sym, ◌∙◌, ap, subst, append_assoc, inl, inr}
use Rattle.arc_data.specs.declared.event.Event.{Event}
use Rattle.alarm_rules.specs.Setups.{Setup, meaning}
use Rattle.arc_io.specs.Seen.{PortSeen}
use Rattle.centre_core.specs.Halls.{HallSeen, IsKept}
use Rattle.centre_core.specs.declared.hall.Stop.{Stop}
use Rattle.centre_rules.specs.Summary.{Summary}
use Rattle.centre_rules.specs.History.{Entry, Extends}
use Rattle.dc09_frame.specs.declared.header.Header.{Header}
use Rattle.dc09_message.specs.Verdicts.{verdict_of}
use Rattle.dc09_message.specs.declared.outcome.Verdict.{Verdict}
use Rattle.dc09_message.specs.declared.outcome.Verdict.TheVariants.{Silence, Nak, Duh, Beat, Numbered}
use Rattle.session_rules.specs.Sessions.{changed, Ending, answered}
use Rattle.session_rules.proofs.Joined.{Follows, session_then}
use Rattle.line_session.specs.Turns.{Turn, line_turns, IsAnswered, AreTurns, TakesNothing, TakesEntry}
use Rattle.line_session.specs.Sessions.{IsLine, HasStopped, line_rules}

pub extends_trans : (h x y : List Entry) → Extends h x → Extends x y → Extends h y
extends_trans h x y a b = (b.0 ++ a.0, b.1 ∙ ap (λ (l : List Entry). b.0 ++ l) a.1 ∙ sym (append_assoc b.0 a.0 h))

nothing_earlier : (g h x : List Entry) (t : Turn) (reply : List ℕ) → Extends g h → TakesNothing h x t reply → TakesNothing g x t reply
nothing_earlier g h x t reply e n = record { extends = extends_trans g h x e n.extends; entry = n.entry; noise = n.noise; reply = n.reply }

module _ (name : List ℕ) (b : Summary) (setup : Setup) (caller : ℕ) where
  entry_earlier : (g h x : List Entry) (t : Turn) (header : Header) (event : Event) → Extends g h → TakesEntry b setup caller h x t header event → TakesEntry b setup caller g x t header event
  entry_earlier g h x t header event e n = record {
    before = n.before;
    entry = n.entry;
    extends = extends_trans g h n.before e n.extends;
    is = n.is;
    taken = n.taken;
    by = n.by;
    of = n.of;
    at = n.at;
    known = n.known;
    reply = n.reply;
  }

  answered_earlier : (g h x : List Entry) (t : Turn) (v : Verdict) → Extends g h → IsAnswered name b setup caller h x t v → IsAnswered name b setup caller g x t v
  answered_earlier g h x t Silence e a = nothing_earlier g h x t _ e a
  answered_earlier g h x t Nak e a = nothing_earlier g h x t _ e a
  answered_earlier g h x t (Duh header why) e a = nothing_earlier g h x t _ e a
  answered_earlier g h x t (Beat header account) e a = entry_earlier g h x t header _ e a
  answered_earlier g h x t (Numbered header m) e a = entry_earlier g h x t header _ e a

  turns_earlier : (g h x : List Entry) (ts : List Turn) → Extends g h → AreTurns name b setup caller h x ts → AreTurns name b setup caller g x ts
  turns_earlier g h x [] e all = extends_trans g h x e all
  turns_earlier g h x (t ∷ ts) e all = (all.0, answered_earlier g h all.0 t (verdict_of setup t.reading t.body) e all.1, all.2)

  turns_more : (h x y : List Entry) (ts us : List Turn) → AreTurns name b setup caller h x ts → AreTurns name b setup caller x y us → AreTurns name b setup caller h y (ts ++ us)
  turns_more h x y [] us all next = turns_earlier h x y us all next
  turns_more h x y (t ∷ ts) us all next = (all.0, all.1, turns_more all.0 x y ts us all.2 next)

module _ (name : List ℕ) (b : Summary) {hall mid : HallSeen} (kept : IsKept hall mid) where
  turns_under : (x y : List Entry) (us : List Turn) → AreTurns name b (meaning mid.text) mid.caller x y us → AreTurns name b (meaning hall.text) hall.caller x y us
  turns_under x y us all =
      subst (λ (t : List ℕ). AreTurns name b (meaning t) hall.caller x y us) kept.text (subst (λ (c : ℕ). AreTurns name b (meaning mid.text) c x y us) kept.caller all)

  on_up : (hall.up → mid.up) → (last : HallSeen) (x : List Entry) (stop : Stop) (body : List ℕ) (reading : ℕ) → HasStopped name b (record mid { text = hall.text }) last x stop body reading
      → HasStopped name b hall last x stop body reading
  on_up up last x stop body reading (inl wanted) = inl wanted
  on_up up last x stop body reading (inr s) = inr (s.0, s.1, record { shown = s.2.shown; torn = λ (u : hall.up). s.2.torn (up u) })

  stopped_under : (hall.up → mid.up) → (last : HallSeen) (x : List Entry) (stop : Stop) (body : List ℕ) (reading : ℕ) → HasStopped name b mid last x stop body reading
      → HasStopped name b hall last x stop body reading
  stopped_under up last x stop body reading s =
      on_up up last x stop body reading (subst (λ (t : List ℕ). HasStopped name b (record mid { text = t }) last x stop body reading) kept.text s)

  pub line_follows : (hall.up → mid.up) → (last : HallSeen) (h : List Entry) → Follows (line_rules name b hall mid) (line_rules name b mid last) (line_rules name b hall last) h
  line_follows up last h = record {
    turns = λ x y ts us first next. turns_more name b (meaning hall.text) hall.caller h x y ts us first (turns_under x y us next);
    cause = stopped_under up last;
    behind = λ us none. none;
  }

  -- a session that answered all, and then one over what follows
  pub line_then : {end : Ending} {xs ys : List (List ℕ)} {h : List Entry} {last : HallSeen} {p q r : PortSeen} → IsLine name answered b xs h (changed hall mid p q)
      → ((x : List Entry) → mid.stands b x → IsLine name end b ys x (changed mid last q r)) → IsLine name end b (xs ++ ys) h (changed hall last p r)
  line_then {end} {xs} {ys} {h} {last} {p} {q} {r} first next = session_then line_turns (line_follows (first.up tt) last h) first (next first.history first.holds)
