-- What is told of an entry, as a centre tells it that stands for the history before.
use Rattle.std.proofs.Common.{◌≡◌, ◌≤◌, ◌+◌, ℕ, List, [], ◌∷◌, ◌++◌, Bool, Option, Some, None, length, take, refl, sym, ap, ◌∙◌, arith, length-append, append-nil}
use Rattle.std.specs.Prelude.{is_some}
use Rattle.std.proofs.Math.Seq.{take-append_seam}
use Rattle.arc_data.specs.declared.event.Event.{Event}
use Rattle.arc_data.specs.declared.event.Event.TheVariants.{Message as Sent, Tick}
use Rattle.arc_data.specs.declared.incident.Carried.{Carried}
use Rattle.arc_data.specs.declared.incident.Incident.{Incident}
use Rattle.arc_data.specs.declared.reply.Reply.{Reply}
use Rattle.book_lines.specs.Books.{entry_line, line_if, open_after}
use Rattle.book_lines.specs.Choices.{chosen, decided}
use Rattle.book_lines.specs.Telling.{told}
use Rattle.book_lines.specs.declared.options.Options.{Options}
use Rattle.arc_book.specs.Taken.{put_by}
use Rattle.book_lines.specs.declared.choice.Verdict.{Verdict}
use Rattle.book_lines.specs.declared.choice.Verdict.TheVariants.{Told, LeftOut, Opens}
use Rattle.centre_rules.specs.Carrying.{carried_by}
use Rattle.centre_rules.specs.History.{Entry, marks}
use Rattle.centre_rules.specs.Marks.{Mark}
use Rattle.centre_rules.specs.State.{State, StandsFor, Same, Plan, entry_of}
use Rattle.centre_rules.specs.Summary.{Summary}
use Rattle.centre_rules.proofs.Sames.{force_same, raised_same}
use Rattle.centre_rules.proofs.Steps.{incidents_begin}

-- what tells the same carries the same
carried_same : {s t : Summary} {ms ns : List Mark} → Same s ms t ns → (e : Event) (at : ℕ) → carried_by s ms e at ≡ carried_by t ns e at
carried_same w (Sent m via) at = rw (force_same w) refl
carried_same w Tick at = raised_same w at
carried_same w e at = refl

-- the incidents that are open behind a history, as a centre has them that stands for it
pub opened_told : (base : Summary) (s : State) (past : List Entry) → StandsFor base s past → s.sum.incidents ≡ open_after base past
opened_told base s past stands = sym (incidents_begin s.sum) ∙ stands.same.incidents

module _ (o : Options) (base : Summary) (s t : State) (past : List Entry) (plan : Plan) (stands : StandsFor base s past) (of : plan.of ≡ s)
    (behind : StandsFor base t (entry_of 0 plan ∷ past)) where
  count : s.entries + 1 ≡ base.recorded + length past + 1
  count = omega (arith, stands.entries)

  signals : carried_by s.sum [] plan.event plan.at ≡ carried_by base (marks base past) plan.event plan.at
  signals = carried_same stands.same plan.event plan.at

  -- what is asked for, and its line
  pub entry_told : (verdict : Bool) → chosen o s.sum.incidents t.sum.incidents (carried_by s.sum [] plan.event plan.at) (s.entries + 1) plan.at plan.event plan.reply ≡ verdict
      → line_if verdict (told o (s.entries + 1) plan.at s.sum.incidents (carried_by s.sum [] plan.event plan.at) plan.event plan.reply) ≡ entry_line o base past (entry_of 0 plan)
  entry_told verdict is =
      let before : s.sum.incidents ≡ open_after base past = opened_told base s past stands in
      let after : t.sum.incidents ≡ open_after base (entry_of 0 plan ∷ past) = opened_told base t (entry_of 0 plan ∷ past) behind in
      let n : s.entries + 1 ≡ base.recorded + length past + 1 = count in
      let carried = signals in
      ap (λ (b : Bool). line_if b (told o (s.entries + 1) plan.at s.sum.incidents (carried_by s.sum [] plan.event plan.at) plan.event plan.reply)) (sym is)
      ∙ (λ i. line_if (chosen o (before i) (after i) (carried i) (n i) plan.at plan.event plan.reply) (told o (n i) plan.at (before i) (carried i) plan.event plan.reply))

-- what is worked out by the code's own values
module _ (o : Options) (s : State) (plan : Plan) (number at : ℕ) (table : List Incident) (carried : List Carried) (event : Event) (reply : Reply) (of : plan.of ≡ s)
    (counted : number ≡ s.entries + 1) (is_at : at ≡ plan.at) (is_table : table ≡ s.sum.incidents) (is_carried : carried ≡ carried_by plan.of.sum [] plan.event plan.at)
    (is_event : event ≡ plan.event) (is_reply : reply ≡ plan.reply) where
  carried_so : carried ≡ carried_by s.sum [] plan.event plan.at
  carried_so = is_carried ∙ ap (λ (x : State). carried_by x.sum [] plan.event plan.at) of

  pub chosen_so : (behind : List Incident) → chosen o s.sum.incidents behind (carried_by s.sum [] plan.event plan.at) (s.entries + 1) plan.at plan.event plan.reply
      ≡ chosen o table behind carried number at event reply
  chosen_so behind = let signals = carried_so in
      sym (λ i. chosen o (is_table i) behind (signals i) (counted i) (is_at i) (is_event i) (is_reply i))

  pub told_so : told o number at table carried event reply
      ≡ told o (s.entries + 1) plan.at s.sum.incidents (carried_by s.sum [] plan.event plan.at) plan.event plan.reply
  told_so = let signals = carried_so in
      λ i. told o (counted i) (is_at i) (is_table i) (signals i) (is_event i) (is_reply i)

-- a verdict that does not leave the line out
pub put_either : (v : Verdict) → (v ≡ LeftOut → ⊥) → (page line : List ℕ) → put_by v page line ≡ page ++ line
put_either Told not_left page line = refl
put_either LeftOut not_left page line = absurd (not_left refl)
put_either (Opens number) not_left page line = refl

-- what was on the page is no longer than what stands there then
pub put_longer : (v : Verdict) (page line : List ℕ) → length page ≤ length (put_by v page line)
put_longer Told page line = omega (arith, length-append page line)
put_longer LeftOut page line = omega arith
put_longer (Opens number) page line = omega (arith, length-append page line)

-- a line that stays as it was put
pub stays_put : (v : Verdict) (behind : List Incident) → ((number : ℕ) → v ≡ Opens number → ⊥) → (before line : List ℕ)
    → put_by v before line ≡ before ++ line_if (decided v behind) line
stays_put Told behind other before line = refl
stays_put LeftOut behind other before line = sym (append-nil before)
stays_put (Opens number) behind other before line = absurd (other number refl)

-- a line of an incident that is not open is cut off
pub cut_off : (found : Option Incident) (start : ℕ) (page before line : List ℕ) → found ≡ None → start ≡ length before → page ≡ before ++ line
    → take start page ≡ before ++ line_if (is_some found) line
cut_off found start page before line none from is =
    (λ i. take (from i) (is i)) ∙ take-append_seam before line ∙ sym (append-nil before)
    ∙ ap (λ (o : Option Incident). before ++ line_if (is_some o) line) (sym none)

-- and one of an incident that is stays
pub left_on : (found : Option Incident) (i : Incident) (before line : List ℕ) → found ≡ Some i → before ++ line ≡ before ++ line_if (is_some found) line
left_on found i before line is = ap (λ (o : Option Incident). before ++ line_if (is_some o) line) (sym is)
