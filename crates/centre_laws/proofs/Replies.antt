-- Which replies an event may get.
use Rattle.std.proofs.Common.{◌≡◌, ℕ, List, [], Bool, true, false, cond, refl, Option, Some, None}
use Rattle.std.specs.Str.{bytes_eq}
use Rattle.std.specs.Option.{option_map_or}
use Rattle.arc_data.specs.Steps.{same_step}
use Rattle.arc_data.specs.declared.event.Event.{Event}
use Rattle.arc_data.specs.declared.event.Event.TheVariants.{Adopt, Start, Message as Sent, Beat, Tick, Claim, Next, Act as Do, Release, Close, Show, List as Rows}
use Rattle.arc_data.specs.declared.reply.Reply.{Reply}
use Rattle.arc_data.specs.declared.reply.Reply.TheVariants.{Adopted, Started, Taken, Repeat, Heard, Raised, Claimed, Recorded, Released, Closed, Shown, Listed, NotOpen, HeldBy, BusyWith, NotYours, Expected, Missing, NoneWaiting, Unknown}
use Rattle.arc_data.specs.declared.step.Acted.{Acted}
use Rattle.arc_data.specs.declared.step.Step.{Step}
use Rattle.alarm_rules.specs.Plans.{expected_step}
use Rattle.centre_rules.specs.Summary.{Summary}
use Rattle.centre_rules.specs.Marks.{Mark}
use Rattle.centre_rules.specs.Cases.{Incident}
use Rattle.centre_rules.specs.Standing.{standing}
use Rattle.centre_rules.specs.History.{acted_by}
use Rattle.centre_rules.specs.Desks.{numbered, held_by, holds, best, claim_unless, claim_from, act_when, if_held, view_of, claimed}
use Rattle.centre_rules.specs.Answers.{if_known, taken_or, repeat_of, answer_over}

abbrev pub may_answer : Event → Reply → Bool
may_answer (Adopt text) Adopted = true
may_answer (Adopt text) Unknown = true
may_answer Start Started = true
may_answer (Sent m via) Taken = true
may_answer (Sent m via) (Repeat first) = true
may_answer (Sent m via) Unknown = true
may_answer (Beat account) Heard = true
may_answer (Beat account) Unknown = true
may_answer Tick (Raised count) = true
may_answer (Claim operator number) (Claimed n class account) = true
may_answer (Claim operator number) (NotOpen n) = true
may_answer (Claim operator number) (HeldBy other) = true
may_answer (Claim operator number) (BusyWith n) = true
may_answer (Claim operator number) Unknown = true
may_answer (Next operator) (Claimed n class account) = true
may_answer (Next operator) (BusyWith n) = true
may_answer (Next operator) NoneWaiting = true
may_answer (Next operator) Unknown = true
may_answer (Do operator number step outcome) (Recorded n left) = true
may_answer (Do operator number step outcome) (NotOpen n) = true
may_answer (Do operator number step outcome) (NotYours n) = true
may_answer (Do operator number step outcome) (Expected wanted) = true
may_answer (Do operator number step outcome) Unknown = true
may_answer (Release operator number) (Released n) = true
may_answer (Release operator number) (NotOpen n) = true
may_answer (Release operator number) (NotYours n) = true
may_answer (Release operator number) Unknown = true
may_answer (Close operator number code) (Closed n) = true
may_answer (Close operator number code) (NotOpen n) = true
may_answer (Close operator number code) (NotYours n) = true
may_answer (Close operator number code) (Missing wanted) = true
may_answer (Close operator number code) Unknown = true
may_answer (Show number) (Shown view) = true
may_answer (Show number) (NotOpen n) = true
may_answer Rows (Listed listing) = true
may_answer event reply = false

known : (e : Event) (b : Bool) (r : Reply) → may_answer e Unknown ≡ true → may_answer e r ≡ true → may_answer e (if_known b r) ≡ true
known e true r u a = a
known e false r u a = u

either : (e : Event) (b : Bool) (r q : Reply) → may_answer e r ≡ true → may_answer e q ≡ true → may_answer e (cond b r q) ≡ true
either e true r q a b = a
either e false r q a b = b

taken_may : (e : Event) (f : Option ℕ) → may_answer e Taken ≡ true → ((first : ℕ) → may_answer e (Repeat first) ≡ true) → may_answer e (taken_or f) ≡ true
taken_may e None t r = t
taken_may e (Some first) t r = r first

module _ (o : List ℕ) (n : ℕ) (is : List Incident) where
  unless_may : (mine : Option Incident) (i : Incident) → may_answer (Claim o n) (claim_unless mine i) ≡ true
  unless_may None i = refl
  unless_may (Some j) i = refl

  from_may : (i : Incident) (h : Option (List ℕ)) → may_answer (Claim o n) (claim_from o is i h) ≡ true
  from_may i None = unless_may (held_by o is) i
  from_may i (Some x) = either (Claim o n) (bytes_eq x o) (claim_unless (held_by o is) i) (HeldBy x) (unless_may (held_by o is) i) refl

  claim_may : (f : Option Incident) → may_answer (Claim o n) (option_map_or (λ (i : Incident). claim_from o is i i.holder) f (NotOpen n)) ≡ true
  claim_may None = refl
  claim_may (Some i) = from_may i i.holder

  next_may : (mine waiting : Option Incident) → may_answer (Next o) (option_map_or (λ (j : Incident). BusyWith j.number) mine (option_map_or claimed waiting NoneWaiting)) ≡ true
  next_may (Some j) waiting = refl
  next_may None None = refl
  next_may None (Some i) = refl

  release_may : (f : Option Incident) → may_answer (Release o n) (if_held o n f (λ i. Released n)) ≡ true
  release_may None = refl
  release_may (Some i) = either (Release o n) (holds o i) (Released n) (NotYours n) refl refl

  show_may : (f : Option Incident) → may_answer (Show n) (option_map_or (λ i. Shown (view_of i)) f (NotOpen n)) ≡ true
  show_may None = refl
  show_may (Some i) = refl

module _ (e : Event) (recorded : (n k : ℕ) → may_answer e (Recorded n k) ≡ true) (expected : (s : Option Step) → may_answer e (Expected s) ≡ true) (closed : (n : ℕ) → may_answer e (NotOpen n) ≡ true) (yours : (n : ℕ) → may_answer e (NotYours n) ≡ true) where
  when_may : (a : Acted) (i : Incident) (f : Option Step) → may_answer e (act_when a i f) ≡ true
  when_may a i None = expected None
  when_may a i (Some step) = either e (same_step a.step step) _ (Expected (Some step)) (recorded _ _) (expected (Some step))

  act_may : (a : Acted) (n : ℕ) (f : Option Incident) → may_answer e (if_held a.operator n f (λ i. act_when a i (expected_step i.steps i.acts))) ≡ true
  act_may a n None = closed n
  act_may a n (Some i) = either e (holds a.operator i) _ (NotYours n) (when_may a i (expected_step i.steps i.acts)) (yours n)

module _ (e : Event) (closed : (n : ℕ) → may_answer e (Closed n) ≡ true) (missing : (s : Step) → may_answer e (Missing s) ≡ true) (none : (n : ℕ) → may_answer e (NotOpen n) ≡ true) (yours : (n : ℕ) → may_answer e (NotYours n) ≡ true) where
  done_may : (n : ℕ) (f : Option Step) → may_answer e (option_map_or Missing f (Closed n)) ≡ true
  done_may n None = closed n
  done_may n (Some step) = missing step

  close_may : (o : List ℕ) (n : ℕ) (f : Option Incident) → may_answer e (if_held o n f (λ i. option_map_or Missing (expected_step i.steps i.acts) (Closed n))) ≡ true
  close_may o n None = none n
  close_may o n (Some i) = either e (holds o i) _ (NotYours n) (done_may n (expected_step i.steps i.acts)) (yours n)

-- an answer is one that the event may get
pub answer_may : (s : Summary) (ms : List Mark) (e : Event) (at : ℕ) → may_answer e (answer_over s ms e at) ≡ true
answer_may s ms (Adopt text) at = known (Adopt text) _ Adopted refl refl
answer_may s ms Start at = refl
answer_may s ms (Sent m via) at = known (Sent m via) _ _ refl (taken_may (Sent m via) (repeat_of s ms m at) refl (λ first. refl))
answer_may s ms (Beat account) at = known (Beat account) _ Heard refl refl
answer_may s ms Tick at = refl
answer_may s ms (Claim o n) at = known (Claim o n) _ _ refl (claim_may o n (standing s ms at) (numbered n (standing s ms at)))
answer_may s ms (Next o) at = known (Next o) _ _ refl (next_may o 0 [] (held_by o (standing s ms at)) (best (standing s ms at)))
answer_may s ms (Do o n step outcome) at = known (Do o n step outcome) _ _ refl (act_may (Do o n step outcome) (λ k left. refl) (λ wanted. refl) (λ k. refl) (λ k. refl) (acted_by o step outcome at) n (numbered n (standing s ms at)))
answer_may s ms (Release o n) at = known (Release o n) _ _ refl (release_may o n [] (numbered n (standing s ms at)))
answer_may s ms (Close o n code) at = known (Close o n code) _ _ refl (close_may (Close o n code) (λ k. refl) (λ wanted. refl) (λ k. refl) (λ k. refl) o n (numbered n (standing s ms at)))
answer_may s ms (Show n) at = show_may [] n [] (numbered n (standing s ms at))
answer_may s ms Rows at = refl
