-- Entries that are not recorded leave no marks.
use Rattle.std.proofs.Common.{◌≡◌, ◌≤◌, ℕ, List, [], ◌∷◌, Bool, true, false, cond, refl, ap, ◌∙◌, subst}
use Rattle.centre_rules.specs.Summary.{Summary}
use Rattle.centre_rules.specs.Marks.{Mark}
use Rattle.centre_rules.specs.History.{Entry, is_recorded, recorded, last, marks, marked}
use Rattle.centre_rules.specs.Answers.{answer_over, IsLegal, IsNext}

marks_if : (s : Summary) (e : Entry) (h : List Entry) (b : Bool) → is_recorded e.reply ≡ b → marks s h ≡ marks s (recorded h) → marks s (e ∷ h) ≡ marks s (cond b (e ∷ recorded h) (recorded h))
marks_if s e h true is same = ap (marked s e) same
marks_if s e h false is same = rw is same

-- the marks of a history are those of its recorded entries
pub marks_recorded : (s : Summary) (h : List Entry) → marks s h ≡ marks s (recorded h)
marks_recorded s [] = refl
marks_recorded s (e ∷ h) = marks_if s e h (is_recorded e.reply) refl (marks_recorded s h)

last_if : (s : Summary) (e : Entry) (h : List Entry) (b : Bool) → is_recorded e.reply ≡ b → last s h ≡ last s (recorded h) → last s (e ∷ h) ≡ last s (cond b (e ∷ recorded h) (recorded h))
last_if s e h true is same = rw is refl
last_if s e h false is same = rw is same

pub last_recorded : (s : Summary) (h : List Entry) → last s h ≡ last s (recorded h)
last_recorded s [] = refl
last_recorded s (e ∷ h) = last_if s e h (is_recorded e.reply) refl (last_recorded s h)

-- what may follow a history may follow another one with the same marks and the same last moment
pub next_alike : (s : Summary) (e : Entry) (h k : List Entry) → marks s h ≡ marks s k → last s h ≡ last s k → IsNext s h e → IsNext s k e
next_alike s e h k same lasts next = record {
  event = next.event;
  reply = next.reply ∙ ap (λ (ms : List Mark). answer_over s ms e.event e.at) same;
  late = subst (λ (n : ℕ). n ≤ e.at) lasts next.late;
}

legal_if : (s : Summary) (e : Entry) (h : List Entry) (b : Bool) → IsNext s (recorded h) e → IsLegal s (recorded h) → IsLegal s (cond b (e ∷ recorded h) (recorded h))
legal_if s e h true next legal = (next, legal)
legal_if s e h false next legal = legal

-- the recorded entries of a legal history are a legal history
pub legal_recorded : (s : Summary) (h : List Entry) → IsLegal s h → IsLegal s (recorded h)
legal_recorded s [] legal = tt
legal_recorded s (e ∷ h) legal = legal_if s e h (is_recorded e.reply) (next_alike s e h (recorded h) (marks_recorded s h) (last_recorded s h) legal.0) (legal_recorded s h legal.1)
