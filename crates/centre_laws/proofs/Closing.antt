-- An incident is closed only when each of its steps is met.
use Rattle.std.proofs.Common.{◌≡◌, ℕ, List, ◌++◌, Bool, true, false, cond, refl, sym, ap, ◌∙◌, Option, Some, None, subst, inl, inr}
use Rattle.std.specs.Prelude.{◌⊎◌}
use Rattle.std.specs.Option.{option_map_or}
use Rattle.std.proofs.lemmas.Bool.{false≢true}
use Rattle.arc_data.specs.declared.event.Event.{Event}
use Rattle.arc_data.specs.declared.event.Event.TheVariants.{Close}
use Rattle.arc_data.specs.declared.reply.Reply.{Reply}
use Rattle.arc_data.specs.declared.reply.Reply.TheVariants.{Closed, NotYours, Missing}
use Rattle.arc_data.specs.declared.step.Acted.{Acted}
use Rattle.arc_data.specs.declared.step.Step.{Step}
use Rattle.alarm_rules.specs.Plans.{expected_step}
use Rattle.centre_rules.specs.Summary.{Summary}
use Rattle.centre_rules.specs.Marks.{Mark, force, lapse}
use Rattle.centre_rules.specs.Cases.{Incident, incidents}
use Rattle.centre_rules.specs.Standing.{standing}
use Rattle.centre_rules.specs.History.{Entry, marks}
use Rattle.centre_rules.specs.Desks.{numbered, holds, if_held}
use Rattle.centre_rules.specs.Answers.{if_known, knows_operator, answer_over}
use Rattle.centre_rules.proofs.Tables.{numbered_number}
use Rattle.centre_rules.proofs.Stood.{stood_found}
use Rattle.centre_laws.specs.Numbers.{NumbersRise}
use Rattle.centre_laws.specs.Closings.{closed_number, acts_recorded, MeetAll, IsDoneSince, IsDoneFrom, ClosesDone}
use Rattle.centre_laws.proofs.Replies.{may_answer, answer_may}
use Rattle.centre_laws.proofs.Eaches.{each_found}
use Rattle.centre_laws.proofs.Origins.{Origin, OriginOf, origins}
use Rattle.centre_laws.proofs.Meeting.{meet_all}

-- a closed incident was there, and no step of it was expected
record MayClose (n : ℕ) (is : List Incident) : Type 0 where
  incident : Incident
  found : numbered n is ≡ Some incident
  none : expected_step incident.steps incident.acts ≡ None

by_done : (k n : ℕ) (f : Option Step) → closed_number (option_map_or Missing f (Closed k)) ≡ Some n → (k ≡ n) × (f ≡ None)
by_done k n None c = (cc, refl)
by_done k n (Some step) c = cc

by_held : (b : Bool) (k n : ℕ) (i : Incident) (is : List Incident) → numbered k is ≡ Some i → closed_number (cond b (option_map_or Missing (expected_step i.steps i.acts) (Closed k)) (NotYours k)) ≡ Some n → MayClose n is
by_held true k n i is e c = let w = by_done k n (expected_step i.steps i.acts) c in record { incident = i; found = ap (λ m. numbered m is) (sym w.0) ∙ e; none = w.1 }
by_held false k n i is e c = cc

by_found : (o : List ℕ) (k n : ℕ) (f : Option Incident) (is : List Incident) → numbered k is ≡ f → closed_number (if_held o k f (λ i. option_map_or Missing (expected_step i.steps i.acts) (Closed k))) ≡ Some n → MayClose n is
by_found o k n None is e c = cc
by_found o k n (Some i) is e c = by_held (holds o i) k n i is e c

by_known : (b : Bool) (r : Reply) (n : ℕ) → closed_number (if_known b r) ≡ Some n → closed_number r ≡ Some n
by_known true r n c = c
by_known false r n c = cc

-- only a close is answered so
abbrev closing_number : Event → Reply → Option ℕ
closing_number (Close operator number code) r = closed_number r
closing_number e r = None

closed_by : (e : Event) (r : Reply) (n : ℕ) → may_answer e r ≡ true → closed_number r ≡ Some n → closing_number e r ≡ Some n
closed_by (Close operator number code) r n may c = c
closed_by e (Closed k) n may c = absurd (false≢true may)
closed_by e r n may c = cc

by_close : (s : Summary) (ms : List Mark) (e : Event) (at n : ℕ) → closing_number e (answer_over s ms e at) ≡ Some n → MayClose n (standing s ms at)
by_close s ms (Close operator number code) at n c = by_found operator number n (numbered number (standing s ms at)) (standing s ms at) refl (by_known (knows_operator (force s ms) operator) (if_held operator number (numbered number (standing s ms at)) (λ i. option_map_or Missing (expected_step i.steps i.acts) (Closed number))) n c)
by_close s ms e at n c = cc

-- as it stands it has the steps and acts that it has
may_close : (s : Summary) (ms : List Mark) (e : Event) (at n : ℕ) → closed_number (answer_over s ms e at) ≡ Some n → MayClose n (incidents s ms)
may_close s ms e at n c =
    let w = by_close s ms e at n (closed_by e (answer_over s ms e at) n (answer_may s ms e at) c) in
    let v = stood_found (lapse s ms) at n (incidents s ms) w.incident w.found in
    record {
      incident = v.incident;
      found = v.found;
      none = ap (λ (i : Incident). expected_step i.steps i.acts) (sym v.same) ∙ w.none;
    }

-- where it comes from, and that its acts meet its steps
done : (s : Summary) (h : List Entry) (n : ℕ) (steps : List Step) (acts : List Acted) → MeetAll acts steps → Origin s h n steps acts → IsDoneSince s h n ⊎ IsDoneFrom s h n
done s h n steps acts met (inl w) = inl (record {
  later = w.later;
  opening = w.opening;
  before = w.before;
  parts = w.parts;
  incident = w.incident;
  is_it = w.is_it;
  opens = w.opens;
  met = subst (MeetAll (acts_recorded n w.later)) (sym w.same_steps) (subst (λ (xs : List Acted). MeetAll xs steps) (sym w.same_acts) met);
})
done s h n steps acts met (inr w) = inr (record {
  incident = w.incident;
  there = w.there;
  met = subst (MeetAll (w.incident.acts ++ acts_recorded n h)) (sym w.same_steps) (subst (λ (xs : List Acted). MeetAll xs steps) (sym w.same_acts) met);
})

pub closes_done : NumbersRise → ClosesDone
closes_done rise s h e n a legal c =
    let w = may_close s (marks s h) e.event e.at n (ap closed_number (sym legal.0.reply) ∙ c) in
    let i = w.incident in
    let origin = each_found (OriginOf s h) n (incidents s (marks s h)) i (origins rise s a h) w.found in
    done s h n i.steps i.acts (meet_all i.steps i.acts w.none) (subst (λ k. Origin s h k i.steps i.acts) (numbered_number n (incidents s (marks s h)) i w.found) origin)
