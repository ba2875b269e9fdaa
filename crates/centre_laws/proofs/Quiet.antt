-- Entries that are not recorded change nothing.
use Rattle.std.proofs.Common.{◌≡◌, List, [], ◌∷◌, Bool, true, false, cond, refl, sym, ap, ◌∙◌}
use Rattle.arc_data.specs.declared.reply.Reply.{Reply}
use Rattle.arc_data.specs.declared.reply.Reply.TheVariants.{Repeat}
use Rattle.centre_rules.specs.Summary.{Summary}
use Rattle.centre_rules.specs.Marks.{Mark, force, start, heard, failed, opening}
use Rattle.centre_rules.specs.Cases.{opened, incidents}
use Rattle.centre_rules.specs.Standing.{standing}
use Rattle.centre_rules.specs.Carrying.{raised}
use Rattle.centre_rules.specs.History.{Entry, is_recorded, recorded, last, marks}
use Rattle.centre_rules.specs.Desks.{best}
use Rattle.centre_rules.specs.Answers.{answer_over, repeat_of, IsLegal, IsNext}
use Rattle.centre_rules.proofs.Quiet.{marks_recorded, last_recorded, legal_recorded, next_alike}
use Rattle.centre_laws.specs.Repeats.{TellsTheSame, is_repeat, unrepeated, QuietChangesNothing}

tells : (s : Summary) (h k : List Entry) → marks s h ≡ marks s k → last s h ≡ last s k → TellsTheSame s h k
tells s h k e lasts = record {
  last = lasts;
  marks = e;
  force = ap (force s) e;
  start = ap (start s) e;
  repeats = λ m at. ap (λ (ms : List Mark). repeat_of s ms m at) e;
  heard = λ a. ap (λ (ms : List Mark). heard s ms a) e;
  failed = λ a. ap (λ (ms : List Mark). failed s ms a) e;
  opening = λ a. ap (λ (ms : List Mark). opening s ms a) e;
  raised = λ at. ap (λ (ms : List Mark). raised s ms at) e;
  opened = ap (opened s) e;
  incidents = ap (incidents s) e;
  best = λ at. ap (λ (ms : List Mark). best (standing s ms at)) e;
  answers = λ x at. ap (λ (ms : List Mark). answer_over s ms x at) e;
}

-- repeats are among the entries that are not recorded
repeat_quiet : (r : Reply) → is_repeat r ≡ true → is_recorded r ≡ false
repeat_quiet (Repeat first) e = refl
repeat_quiet r e = cc

same_if : (e : Entry) (h k : List Entry) (b : Bool) → is_repeat e.reply ≡ b → recorded k ≡ recorded h → recorded (cond b k (e ∷ k)) ≡ recorded (e ∷ h)
same_if e h k true is same = rw (repeat_quiet e.reply is) same
same_if e h k false is same = ap (λ (xs : List Entry). cond (is_recorded e.reply) (e ∷ xs) xs) same

recorded_unrepeated : (h : List Entry) → recorded (unrepeated h) ≡ recorded h
recorded_unrepeated [] = refl
recorded_unrepeated (e ∷ h) = same_if e h (unrepeated h) (is_repeat e.reply) refl (recorded_unrepeated h)

marks_unrepeated : (s : Summary) (h : List Entry) → marks s h ≡ marks s (unrepeated h)
marks_unrepeated s h = marks_recorded s h ∙ ap (marks s) (sym (recorded_unrepeated h)) ∙ sym (marks_recorded s (unrepeated h))

last_unrepeated : (s : Summary) (h : List Entry) → last s h ≡ last s (unrepeated h)
last_unrepeated s h = last_recorded s h ∙ ap (last s) (sym (recorded_unrepeated h)) ∙ sym (last_recorded s (unrepeated h))

legal_if : (s : Summary) (e : Entry) (k : List Entry) (b : Bool) → IsNext s k e → IsLegal s k → IsLegal s (cond b k (e ∷ k))
legal_if s e k true next legal = legal
legal_if s e k false next legal = (next, legal)

legal_unrepeated : (s : Summary) (h : List Entry) → IsLegal s h → IsLegal s (unrepeated h)
legal_unrepeated s [] legal = tt
legal_unrepeated s (e ∷ h) legal =
    legal_if s e (unrepeated h) (is_repeat e.reply) (next_alike s e h (unrepeated h) (marks_unrepeated s h) (last_unrepeated s h) legal.0) (legal_unrepeated s h legal.1)

pub quiet_same : QuietChangesNothing
quiet_same s h = record {
  quiet = tells s h (recorded h) (marks_recorded s h) (last_recorded s h);
  repeats = tells s h (unrepeated h) (marks_unrepeated s h) (last_unrepeated s h);
  legal = legal_recorded s h;
  legal_unrepeated = legal_unrepeated s h;
}
