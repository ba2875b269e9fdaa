-- What a desk submits is not unknown to its hall.
use Rattle.std.proofs.Common.{◌≡◌, ◌∷◌, ℕ, List, Bool, true, false, cond, Option, Some, None, sym, ◌∙◌, ap, subst}
use Rattle.std.specs.Prelude.{if◌then◌else◌}
use Rattle.arc_data.specs.declared.event.Event.{Event}
use Rattle.arc_data.specs.declared.event.Event.TheVariants.{Next as TheNext, Claim as TheClaim, Act as TheAct, Release as TheRelease}
use Rattle.arc_data.specs.declared.event.Event.TheVariants.{Close as TheClose, Show as TheShow, List as TheList}
use Rattle.arc_data.specs.declared.reply.Reply.{Reply}
use Rattle.arc_data.specs.declared.reply.Reply.TheVariants.{HeldBy, Unknown, NotOpen, BusyWith, NoneWaiting, Released, Shown, Missing, Closed}
use Rattle.arc_data.specs.declared.step.Acted.{Acted}
use Rattle.arc_data.specs.declared.step.Step.{Step}
use Rattle.arc_data.specs.Steps.{same_step}
use Rattle.std.specs.Str.{bytes_eq}
use Rattle.std.specs.Option.{option_map_or}
use Rattle.alarm_rules.specs.Plans.{expected_step}
use Rattle.alarm_rules.specs.Setups.{Setup, meaning, has_operator}
use Rattle.centre_core.specs.Halls.{HallSeen, IsKept, TookEvent}
use Rattle.centre_rules.specs.Cases.{Incident}
use Rattle.centre_rules.specs.Standing.{standing}
use Rattle.centre_rules.specs.Desks.{numbered, held_by, best, holds, claim_unless, claim_from, act_when, if_held, view_of, claimed}
use Rattle.centre_rules.specs.Summary.{Summary}
use Rattle.centre_rules.specs.Marks.{Mark, force}
use Rattle.centre_rules.specs.History.{Entry, is_recorded, marks, marks_of, onto, acted_by}
use Rattle.centre_rules.specs.Answers.{answer_over, if_known, knows_operator}
use Rattle.desk_session.specs.Events.{event_by, event_of, is_known}
use Rattle.desk_wire.specs.declared.command.Command.{Command}
use Rattle.desk_wire.specs.declared.command.Command.TheVariants.{Login, Quit, Next, Claim, Act, Release, Close, Show, List as Rows}

-- No question of an operator is answered Unknown, where the setup knows the operator.

unless_told : (o : Option Incident) (i : Incident) → claim_unless o i ≡ Unknown → ⊥
unless_told None i is = cc
unless_told (Some j) i is = cc

from_step : (t : Bool) (o : Option Incident) (i : Incident) (x : List ℕ) → cond t (claim_unless o i) (HeldBy x) ≡ Unknown → ⊥
from_step true o i x is = unless_told o i is
from_step false o i x is = cc

from_told : (operator : List ℕ) (is : List Incident) (i : Incident) (holder : Option (List ℕ)) → claim_from operator is i holder ≡ Unknown → ⊥
from_told operator is i None told = unless_told (held_by operator is) i told
from_told operator is i (Some x) told = from_step (bytes_eq x operator) (held_by operator is) i x told

claim_told : (operator : List ℕ) (is : List Incident) (number : ℕ) (o : Option Incident) → option_map_or (λ (i : Incident). claim_from operator is i i.holder) o (NotOpen number) ≡ Unknown → ⊥
claim_told operator is number None told = cc
claim_told operator is number (Some i) told = from_told operator is i i.holder told

next_told : (held waiting : Option Incident) → option_map_or (λ (j : Incident). BusyWith j.number) held (option_map_or claimed waiting NoneWaiting) ≡ Unknown → ⊥
next_told (Some j) waiting told = cc
next_told None None told = cc
next_told None (Some i) told = cc

when_step : (t : Bool) (recorded expected : Reply) → (recorded ≡ Unknown → ⊥) → (expected ≡ Unknown → ⊥) → cond t recorded expected ≡ Unknown → ⊥
when_step true recorded expected first next told = first told
when_step false recorded expected first next told = next told

when_told : (acted : Acted) (i : Incident) (o : Option Step) → act_when acted i o ≡ Unknown → ⊥
when_told acted i None told = cc
when_told acted i (Some step) told = when_step (same_step acted.step step) _ _ (λ is. cc) (λ is. cc) told

act_told : (acted : Acted) (number : ℕ) (o : Option Incident) → if_held acted.operator number o (λ i. act_when acted i (expected_step i.steps i.acts)) ≡ Unknown → ⊥
act_told acted number None told = cc
act_told acted number (Some i) told = when_step (holds acted.operator i) _ _ (when_told acted i (expected_step i.steps i.acts)) (λ is. cc) told

release_told : (operator : List ℕ) (number : ℕ) (o : Option Incident) → if_held operator number o (λ i. Released number) ≡ Unknown → ⊥
release_told operator number None told = cc
release_told operator number (Some i) told = when_step (holds operator i) _ _ (λ is. cc) (λ is. cc) told

close_step : (number : ℕ) (o : Option Step) → option_map_or Missing o (Closed number) ≡ Unknown → ⊥
close_step number None told = cc
close_step number (Some step) told = cc

close_told : (operator : List ℕ) (number : ℕ) (o : Option Incident) → if_held operator number o (λ i. option_map_or Missing (expected_step i.steps i.acts) (Closed number)) ≡ Unknown → ⊥
close_told operator number None told = cc
close_told operator number (Some i) told = when_step (holds operator i) _ _ (close_step number (expected_step i.steps i.acts)) (λ is. cc) told

show_told : (number : ℕ) (o : Option Incident) → option_map_or (λ i. Shown (view_of i)) o (NotOpen number) ≡ Unknown → ⊥
show_told number None told = cc
show_told number (Some i) told = cc

module _ (b : Summary) (ms : List Mark) (setup : Setup) (operator : List ℕ) (forced : force b ms ≡ Some setup) (has : has_operator setup operator ≡ true) where
  asked_known : (reply : Reply) → (reply ≡ Unknown → ⊥) → if_known (knows_operator (force b ms) operator) reply ≡ Unknown → ⊥
  asked_known reply other is =
      let told = ap (λ (o : Option Setup). knows_operator o operator) forced ∙ has in
      other (sym (ap (λ t. if_known t reply) told) ∙ is)

  -- an event of this operator is not answered Unknown
  answers_known : (command : Command) (event : Event) (at : ℕ) → event_by operator command ≡ Some event → answer_over b ms event at ≡ Unknown → ⊥
  answers_known (Login name pin) event at is told = cc
  answers_known Quit event at is told = cc
  answers_known Next event at is told =
      let it : event ≡ TheNext operator = cc in
      asked_known _ (next_told (held_by operator (standing b ms at)) (best (standing b ms at))) (ap (λ (e : Event). answer_over b ms e at) (sym it) ∙ told)
  answers_known (Claim number) event at is told =
      let it : event ≡ TheClaim operator number = cc in
      asked_known _ (claim_told operator (standing b ms at) number (numbered number (standing b ms at))) (ap (λ (e : Event). answer_over b ms e at) (sym it) ∙ told)
  answers_known (Act number step outcome) event at is told =
      let it : event ≡ TheAct operator number step outcome = cc in
      asked_known _ (act_told (acted_by operator step outcome at) number (numbered number (standing b ms at))) (ap (λ (e : Event). answer_over b ms e at) (sym it) ∙ told)
  answers_known (Release number) event at is told =
      let it : event ≡ TheRelease operator number = cc in
      asked_known _ (release_told operator number (numbered number (standing b ms at))) (ap (λ (e : Event). answer_over b ms e at) (sym it) ∙ told)
  answers_known (Close number code) event at is told =
      let it : event ≡ TheClose operator number code = cc in
      asked_known _ (close_told operator number (numbered number (standing b ms at))) (ap (λ (e : Event). answer_over b ms e at) (sym it) ∙ told)
  answers_known (Show number) event at is told =
      let it : event ≡ TheShow number = cc in
      show_told number (numbered number (standing b ms at)) (ap (λ (e : Event). answer_over b ms e at) (sym it) ∙ told)
  answers_known Rows event at is told =
      let it : event ≡ TheList = cc in
      let shown = ap (λ (e : Event). answer_over b ms e at) (sym it) ∙ told in cc

-- nor is that of a session that acts for an operator of the setup
of_known : (b : Summary) (ms : List Mark) (setup : Setup) (operator : Option (List ℕ)) (command : Option Command) (event : Event) (at : ℕ) → force b ms ≡ Some setup → is_known setup operator ≡ true
    → event_of operator command ≡ Some event → answer_over b ms event at ≡ Unknown → ⊥
of_known b ms setup (Some operator) (Some command) event at forced known is told = answers_known b ms setup operator forced known command event at is told
of_known b ms setup (Some operator) None event at forced known is told = cc
of_known b ms setup None command event at forced known is told = cc

-- and so the entry that a hall makes of it is not
pub entry_known : (b : Summary) (h : List Entry) {hall hall' : HallSeen} (operator : Option (List ℕ)) (command : Option Command) (event : Event) (reading : ℕ) (t : TookEvent b hall hall' h event reading)
    → IsKept hall hall' → is_known (meaning hall.text) operator ≡ true → event_of operator command ≡ Some event → force b (marks b (t.entry ∷ t.goes.before)) ≡ Some (meaning hall'.text) → t.entry.reply ≡ Unknown → ⊥
entry_known b h {hall} {hall'} operator command event reading t kept known of forced is =
    let e = t.entry in
    let ms = marks b t.goes.before in
    let before = subst (λ (r : Reply). force b (if is_recorded r then onto (marks_of b ms e.event e.at r) ms else ms) ≡ Some (meaning hall'.text)) is forced in
    of_known b ms (meaning hall.text) operator command event e.at (before ∙ ap (λ (text : List ℕ). Some (meaning text)) kept.text) known of
    (sym (t.goes.legal.0.reply ∙ ap (λ (v : Event). answer_over b ms v e.at) t.of) ∙ is)
