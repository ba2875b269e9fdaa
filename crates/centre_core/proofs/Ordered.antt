-- Answers to operators.
use Rattle.std.proofs.Common.{◌≡◌, ℕ, List, [], ◌∷◌, ◌++◌, Bool, true, false, cond, Option, Some, None, refl, sym, ap, ◌∙◌, subst}
use Rattle.std.specs.Option.{option_map, option_map_or}
use Rattle.std.proofs.lemmas.Bool.{false≢true}
use Rattle.std.specs.Prelude.{is_some, option_and_then, IfOk, Result, Ok, Err}
use Rattle.std.specs.Result.{result_ok, result_unwrap_or}
use Rattle.arc_data.specs.declared.blob.Memory.{Memory}
use Rattle.std.specs.List.{find}
use Rattle.arc_data.specs.Incidents.{has_number}
use Rattle.arc_data.specs.Steps.{same_step}
use Rattle.arc_data.specs.declared.event.Event.{Event}
use Rattle.arc_data.specs.declared.event.Event.TheVariants.{Act as Do, Close}
use Rattle.arc_data.specs.declared.incident.Incident.{Incident}
use Rattle.arc_data.specs.declared.reply.Reply.{Reply}
use Rattle.arc_data.specs.declared.reply.Reply.TheVariants.{Recorded, Closed, Expected, NotYours, Missing}
use Rattle.arc_data.specs.declared.step.Acted.{Acted}
use Rattle.arc_data.specs.declared.step.Step.{Step}
use Rattle.arc_data.specs.declared.setup_fault.SetupFault.{SetupFault}
use Rattle.alarm_rules.specs.Plans.{expected_step, left}
use Rattle.alarm_rules.specs.Setups.{Setup, setup_of, meaning}
use Rattle.centre_rules.specs.Summary.{Summary}
use Rattle.centre_rules.specs.Cases.{incidents}
use Rattle.centre_rules.specs.Marks.{Mark, force, lapse}
use Rattle.centre_rules.specs.Standing.{has_lapsed, stands_at, standing_of, standing, holder_then}
use Rattle.centre_rules.specs.History.{acted_by}
use Rattle.centre_rules.specs.Desks.{numbered, is_holder, holds, on_act, on_close, act_when, if_held}
use Rattle.centre_rules.specs.State.{Same, State}
use Rattle.centre_rules.specs.Answers.{answer_over, if_known, knows_operator}
use Rattle.centre_rules.proofs.Steps.{incidents_begin}
use Rattle.centre_rules.proofs.Stood.{numbered_stood, stood_found, found_stood}
use Rattle.centre_rules.proofs.Sames.{standing_same}
use Rattle.centre_rules.proofs.Tables.{numbered_number}
use Rattle.open_incidents.specs.Marked.{FitsAct}
use Rattle.centre_core.specs.Taken.{Fits}

-- the open incidents of a state as they stand at a moment
pub stands_then : (s : Summary) (at : ℕ) (l : Option ℕ) → l ≡ lapse s [] → standing_of l at s.incidents ≡ standing s [] at
stands_then s at l e = ap (λ (x : Option ℕ). standing_of x at s.incidents) e ∙ ap (standing_of (lapse s []) at) (sym (incidents_begin s))

-- An operator's answer, from whether the operator is known and what the open incidents give as they stand.
pub answer_of : (s : Summary) (o : List ℕ) (k : Bool) (r : Reply) (of : List Incident → Reply) (at : ℕ) (l : Option ℕ) → k ≡ knows_operator (force s []) o
    → l ≡ lapse s [] → r ≡ of (standing_of l at s.incidents) → if_known k r ≡ if_known (knows_operator (force s []) o) (of (standing s [] at))
answer_of s o k r of at l known lapses is =
    ap (λ b. if_known b r) known ∙ ap (if_known (knows_operator (force s []) o)) (is ∙ ap of (stands_then s at l lapses))

-- the open incidents of a centre are those of its state
pub of_table : (s t : State) (reply : Reply) (of : List Incident → Reply) → s ≡ t → reply ≡ of s.sum.incidents → reply ≡ of t.sum.incidents
of_table s t reply of same is = is ∙ ap (λ (x : State). of x.sum.incidents) same

pub asked : (s : Summary) (reply : Reply) (of : List Incident → Reply) (at : ℕ) (l : Option ℕ) → l ≡ lapse s [] → reply ≡ of (standing_of l at s.incidents)
    → reply ≡ of (standing s [] at)
asked s reply of at l lapses is = is ∙ ap of (stands_then s at l lapses)

pub ok_more : (r : Result Reply Memory) (P Q : Reply → Type 0) → ((x : Reply) → P x → Q x) → IfOk r P → IfOk r Q
ok_more (Ok x) P Q f h = f x h
ok_more (Err e) P Q f h = tt

-- Who holds an incident.
pub holder_is : (s : Summary) (n at : ℕ) (l : Option ℕ) (i : Incident) (o : Option (List ℕ)) → l ≡ lapse s [] → numbered n s.incidents ≡ Some i
    → o ≡ (stands_at l at i).holder → o ≡ holder_then s [] at n
holder_is s n at l i o lapses found is =
    is ∙ ap (option_and_then (λ (j : Incident). j.holder)) (sym (found_stood l at n s.incidents i found) ∙ ap (numbered n) (stands_then s at l lapses))

pub holder_same : (s t : Summary) (ms ns : List Mark) (n at : ℕ) → Same s ms t ns → holder_then s ms at n ≡ holder_then t ns at n
holder_same s t ms ns n at w = ap (λ (is : List Incident). option_and_then (λ (j : Incident). j.holder) (numbered n is)) (standing_same w at)

-- After how many seconds a hold lapses.

lapse_ok : (r : Result Setup SetupFault) → (result_unwrap_or r (record { accounts = []; plans = []; operators = []; lapse = None })).lapse ≡ option_and_then (λ setup. setup.lapse) (result_ok r)
lapse_ok (Ok setup) = refl
lapse_ok (Err fault) = refl

abbrev by_text : Option (List ℕ) → Option ℕ
by_text text = option_and_then (λ setup. setup.lapse) (option_and_then (λ t. result_ok (setup_of t)) text)

pub lapse_is : (s : Summary) (t : List ℕ) (n : Option ℕ) → s.text ≡ Some t → n ≡ (meaning t).lapse → n ≡ lapse s []
lapse_is s t n e is = is ∙ lapse_ok (setup_of t) ∙ ap by_text (sym e)

pub no_lapse : (s : Summary) → s.text ≡ None → None ≡ lapse s []
no_lapse s e = ap by_text (sym e)

-- What a recorded act says of its incident.

fits_same : (i : Incident) (a : Acted) (w : Step) (n l : ℕ) (is : List Incident) → numbered i.number is ≡ Some i → holds a.operator i ≡ true → expected_step i.steps i.acts ≡ Some w → (b : Bool) → same_step a.step w ≡ b
    → cond b (Recorded i.number (left i.steps (i.acts ++ a ∷ []))) (Expected (Some w)) ≡ Recorded n l → FitsAct n a is
fits_same i a w n l is found held e true t r =
    let same : i.number ≡ n = cc in
    record { incident = i; wanted = w; found = ap (λ m. numbered m is) (sym same) ∙ found; holder = held; first = e; same = t }
fits_same i a w n l is found held e false t r = cc

fits_when : (i : Incident) (a : Acted) (f : Option Step) (n l : ℕ) (is : List Incident) → numbered i.number is ≡ Some i → holds a.operator i ≡ true → expected_step i.steps i.acts ≡ f → act_when a i f ≡ Recorded n l → FitsAct n a is
fits_when i a None n l is found held e r = cc
fits_when i a (Some w) n l is found held e r = fits_same i a w n l is found held e (same_step a.step w) refl r

fits_held : (b : Bool) (i : Incident) (a : Acted) (k n l : ℕ) (is : List Incident) → holds a.operator i ≡ b → numbered i.number is ≡ Some i → cond b (act_when a i (expected_step i.steps i.acts)) (NotYours k) ≡ Recorded n l → FitsAct n a is
fits_held true i a k n l is held found r = fits_when i a (expected_step i.steps i.acts) n l is found held refl r
fits_held false i a k n l is held found r = cc

fits_found : (f : Option Incident) (a : Acted) (k n l : ℕ) (is : List Incident) → numbered k is ≡ f → if_held a.operator k f (λ i. act_when a i (expected_step i.steps i.acts)) ≡ Recorded n l → FitsAct n a is
fits_found None a k n l is e r = cc
fits_found (Some i) a k n l is e r = fits_held (holds a.operator i) i a k n l is refl (ap (λ m. numbered m is) (numbered_number k is i e) ∙ e) r

fits_known : (b : Bool) (a : Acted) (k n l : ℕ) (is : List Incident) → if_known b (on_act a k is) ≡ Recorded n l → FitsAct n a is
fits_known true a k n l is r = fits_found (numbered k is) a k n l is refl r
fits_known false a k n l is r = cc

-- who holds an incident as it stands is its claimer
claimer_if : (o : List ℕ) (b : Bool) (claimer : Option (List ℕ)) → is_holder o (cond b None claimer) ≡ true → is_holder o claimer ≡ true
claimer_if o true claimer e = absurd (false≢true e)
claimer_if o false claimer e = e

fits_stood : (l : Option ℕ) (at n : ℕ) (a : Acted) (is : List Incident) → FitsAct n a (standing_of l at is) → FitsAct n a is
fits_stood l at n a is w =
    let i = stood_found l at n is w.incident w.found in
    record {
      incident = i.incident;
      wanted = w.wanted;
      found = i.found;
      holder = claimer_if a.operator (has_lapsed l i.incident.touched at) i.incident.holder (ap (holds a.operator) (sym i.same) ∙ w.holder);
      first = ap (λ (j : Incident). expected_step j.steps j.acts) (sym i.same) ∙ w.first;
      same = w.same;
    }

-- What a closing says.

closed_when : (k n : ℕ) (f : Option Step) → option_map_or Missing f (Closed k) ≡ Closed n → k ≡ n
closed_when k n None r = cc
closed_when k n (Some step) r = cc

closed_held : (k n : ℕ) (b : Bool) (f : Option Step) → cond b (option_map_or Missing f (Closed k)) (NotYours k) ≡ Closed n → k ≡ n
closed_held k n true f r = closed_when k n f r
closed_held k n false f r = cc

closed_found : (o : List ℕ) (f : Option Incident) (k n : ℕ) (is : List Incident) → numbered k is ≡ f → if_held o k f (λ i. option_map_or Missing (expected_step i.steps i.acts) (Closed k)) ≡ Closed n → is_some (find (has_number n) is) ≡ true
closed_found o None k n is e r = cc
closed_found o (Some i) k n is e r = ap (λ m. is_some (find (has_number m) is)) (sym (closed_held k n (holds o i) (expected_step i.steps i.acts) r)) ∙ ap is_some e

closed_known : (b : Bool) (o : List ℕ) (k n : ℕ) (is : List Incident) → if_known b (on_close o k is) ≡ Closed n → is_some (find (has_number n) is) ≡ true
closed_known true o k n is r = closed_found o (numbered k is) k n is refl r
closed_known false o k n is r = cc

some_stood : (f : Incident → Incident) (o : Option Incident) → is_some (option_map f o) ≡ is_some o
some_stood f None = refl
some_stood f (Some i) = refl

pub fits_of : (s : Summary) (e : Event) (at : ℕ) (r : Reply) → r ≡ answer_over s [] e at → Fits e at r s.incidents
fits_of s (Do o k step outcome) at r e = λ n l q.
    subst (FitsAct n (acted_by o step outcome at)) (incidents_begin s)
    (fits_stood (lapse s []) at n (acted_by o step outcome at) (incidents s [])
    (fits_known (knows_operator (force s []) o) (acted_by o step outcome at) k n l (standing s [] at) (sym e ∙ q)))
fits_of s (Close o k code) at r e = λ n q.
    ap (λ (is : List Incident). is_some (find (has_number n) is)) (sym (incidents_begin s))
    ∙ sym (ap is_some (numbered_stood (lapse s []) at n (incidents s [])) ∙ some_stood (stands_at (lapse s []) at) (numbered n (incidents s [])))
    ∙ closed_known (knows_operator (force s []) o) o k n (standing s [] at) (sym e ∙ q)
fits_of s event at r e = tt
