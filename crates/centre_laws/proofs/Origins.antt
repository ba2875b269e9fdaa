-- Each open incident was opened by an entry, or at the beginning, and has the acts that were recorded since.
use Rattle.std.proofs.Common.{◌≡◌, ◌<◌, ◌≤◌, ℕ, ◌+◌, List, [], ◌∷◌, ◌++◌, map, Bool, true, false, cond, refl, sym, ap, ◌∙◌, Some, arith, subst, inl, inr, append_assoc}
use Rattle.std.specs.Prelude.{◌⊎◌, ◌==◌}
use Rattle.std.proofs.lemmas.Bool.{false≢true}
use Rattle.std.proofs.lemmas.List.{append-nil}
use Rattle.arc_data.specs.Incidents.{Each}
use Rattle.arc_data.specs.declared.event.Event.{Event}
use Rattle.arc_data.specs.declared.event.Event.TheVariants.{Adopt, Start, Message as Sent, Beat, Tick, Claim, Next, Act as Do, Release, Close, Show, List as Rows}
use Rattle.arc_data.specs.declared.reply.Reply.{Reply}
use Rattle.arc_data.specs.declared.reply.Reply.TheVariants.{Claimed, Recorded, Released, Closed}
use Rattle.arc_data.specs.declared.step.Acted.{Acted}
use Rattle.arc_data.specs.declared.step.Step.{Step}
use Rattle.alarm_rules.specs.Setups.{Setup, steps_of}
use Rattle.centre_rules.specs.Summary.{Summary}
use Rattle.centre_rules.specs.Marks.{Mark, Carries, Acts, Carried, force}
use Rattle.centre_rules.specs.Cases.{Incident, incidents, opened, opens, acts_at}
use Rattle.centre_rules.specs.Tables.{touched_by, opened_after}
use Rattle.centre_rules.specs.Carrying.{sent, raised}
use Rattle.centre_rules.specs.History.{Entry, marks, marks_of, onto, is_recorded, claim_marks, act_marks, release_marks, close_marks, acted_by}
use Rattle.centre_rules.specs.Desks.{numbered}
use Rattle.centre_rules.proofs.Steps.{incidents_begin, incidents_step, opened_step}
use Rattle.centre_rules.proofs.Tables.{all_found}
use Rattle.centre_laws.specs.Numbers.{IsNumbered, NumbersRise}
use Rattle.centre_laws.specs.Closings.{acted_of, acts_recorded, OpensIt}
use Rattle.centre_laws.proofs.Eaches.{each_weaker, each_both, NewOne, each_table}
use Rattle.centre_laws.proofs.Carried.{IsBy, AllBy, sent_by, raised_by}

-- Acts in marks.

abbrev acts_by : ℕ → Mark → List Acted
acts_by n (Acts number acted) = cond (n == number) (acted ∷ []) []
acts_by n m = []

-- those of marks, the oldest first
abbrev acts_ahead : ℕ → List Mark → List Acted
acts_ahead n [] = []
acts_ahead n (m ∷ xs) = acts_by n m ++ acts_ahead n xs

act_if : (b : Bool) (a : Acted) (before : List Acted) → cond b (before ++ a ∷ []) before ≡ before ++ cond b (a ∷ []) []
act_if true a before = refl
act_if false a before = sym (append-nil before)

acts_more : (i : Incident) (m : Mark) (before : List Acted) → acts_at i m before ≡ before ++ acts_by i.number m
acts_more i (Acts number acted) before = act_if (i.number == number) acted before
acts_more i m before = sym (append-nil before)

none_carried : (n : ℕ) (xs : List Carried) → acts_ahead n (map Carries xs) ≡ []
none_carried n [] = refl
none_carried n (x ∷ xs) = none_carried n xs

recorded_ahead : (n : ℕ) (o : List ℕ) (step : Step) (outcome : _) (at : ℕ) (r : Reply) → acts_ahead n (act_marks (acted_by o step outcome at) r) ≡ acted_of n (Do o 0 step outcome) at r
recorded_ahead n o step outcome at (Recorded k left) = append-nil _
recorded_ahead n o step outcome at r = refl

claim_ahead : (n : ℕ) (o : List ℕ) (at : ℕ) (r : Reply) → acts_ahead n (claim_marks o at r) ≡ []
claim_ahead n o at (Claimed k class account) = refl
claim_ahead n o at r = refl

release_ahead : (n : ℕ) (r : Reply) → acts_ahead n (release_marks r) ≡ []
release_ahead n (Released k) = refl
release_ahead n r = refl

close_ahead : (n : ℕ) (r : Reply) → acts_ahead n (close_marks r) ≡ []
close_ahead n (Closed k) = refl
close_ahead n r = refl

-- the acts in the marks of an entry are what it recorded
acts_of_entry : (s : Summary) (ms : List Mark) (n : ℕ) (e : Event) (at : ℕ) (r : Reply) → acts_ahead n (marks_of s ms e at r) ≡ acted_of n e at r
acts_of_entry s ms n (Adopt text) at r = refl
acts_of_entry s ms n Start at r = refl
acts_of_entry s ms n (Sent m via) at r = none_carried n (sent s ms m via at)
acts_of_entry s ms n (Beat account) at r = refl
acts_of_entry s ms n Tick at r = none_carried n (raised s ms at)
acts_of_entry s ms n (Claim o k) at r = claim_ahead n o at r
acts_of_entry s ms n (Next o) at r = claim_ahead n o at r
acts_of_entry s ms n (Do o k step outcome) at r = recorded_ahead n o step outcome at r
acts_of_entry s ms n (Release o k) at r = release_ahead n r
acts_of_entry s ms n (Close o k code) at r = close_ahead n r
acts_of_entry s ms n (Show k) at r = refl
acts_of_entry s ms n Rows at r = refl

-- a quiet one recorded nothing
none_quiet : (n : ℕ) (e : Event) (at : ℕ) (r : Reply) → is_recorded r ≡ false → acted_of n e at r ≡ []
none_quiet n (Do o k step outcome) at (Recorded j left) q = absurd (false≢true (sym q))
none_quiet n e at r q = refl

-- Where an incident comes from.

-- an entry opened it, and these acts were recorded since
pub record OpenedIn (s : Summary) (h : List Entry) (number : ℕ) (steps : List Step) (acts : List Acted) : Type 0 where
  pub later : List Entry
  pub opening : Entry
  pub before : List Entry
  pub parts : h ≡ later ++ opening ∷ before
  pub incident : Incident
  pub is_it : incident.number ≡ number
  pub opens : OpensIt s before opening incident
  pub same_steps : incident.steps ≡ steps
  pub same_acts : acts_recorded number later ≡ acts

-- it was open at the beginning
pub record OpenFrom (s : Summary) (h : List Entry) (number : ℕ) (steps : List Step) (acts : List Acted) : Type 0 where
  pub incident : Incident
  pub there : numbered number s.incidents ≡ Some incident
  pub same_steps : incident.steps ≡ steps
  pub same_acts : incident.acts ++ acts_recorded number h ≡ acts

abbrev pub Origin : Summary → List Entry → ℕ → List Step → List Acted → Type 0
Origin s h n steps acts = OpenedIn s h n steps acts ⊎ OpenFrom s h n steps acts

abbrev pub OriginOf : Summary → List Entry → Incident → Type 0
OriginOf s h i = Origin s h i.number i.steps i.acts

origin_more : (s : Summary) (e : Entry) (h : List Entry) (n : ℕ) (steps : List Step) (acts : List Acted) → Origin s h n steps acts → Origin s (e ∷ h) n steps (acts ++ acted_of n e.event e.at e.reply)
origin_more s e h n steps acts (inl w) = inl (record {
  later = e ∷ w.later;
  opening = w.opening;
  before = w.before;
  parts = ap (λ (xs : List Entry). e ∷ xs) w.parts;
  incident = w.incident;
  is_it = w.is_it;
  opens = w.opens;
  same_steps = w.same_steps;
  same_acts = ap (λ (xs : List Acted). xs ++ acted_of n e.event e.at e.reply) w.same_acts;
})
origin_more s e h n steps acts (inr w) = inr (record {
  incident = w.incident;
  there = w.there;
  same_steps = w.same_steps;
  same_acts = sym (append_assoc w.incident.acts (acts_recorded n h) (acted_of n e.event e.at e.reply)) ∙ ap (λ (xs : List Acted). xs ++ acted_of n e.event e.at e.reply) w.same_acts;
})

-- While the marks of an entry are put on, one after another.

rises_if : (b : Bool) (n : ℕ) → n ≤ cond b (n + 1) n
rises_if true n = omega arith
rises_if false n = omega arith

rises : (m : Mark) (n : ℕ) (is : List Incident) → n ≤ opened_after m n is
rises (Carries x) n is = rises_if (opens x is) n
rises m n is = omega arith

module _ (s : Summary) (e : Entry) (h : List Entry) where
  -- it was open before the entry
  record Kept (xs : List Mark) (i : Incident) : Type 0 where
    acts : List Acted
    origin : Origin s h i.number i.steps acts
    ahead : i.acts ++ acts_ahead i.number xs ≡ acts ++ acted_of i.number e.event e.at e.reply

  -- the entry opened it
  record New (xs : List Mark) (i : Incident) : Type 0 where
    first : opened s (marks s h) < i.number
    at : i.at ≡ e.at
    setup : Setup
    in_force : force s (marks s h) ≡ Some setup
    steps : i.steps ≡ steps_of setup i.account i.class e.at
    ahead : i.acts ++ acts_ahead i.number xs ≡ []

  abbrev Going : List Mark → Incident → Type 0
  Going xs i = Kept xs i ⊎ New xs i

  acts_on : (m : Mark) (xs : List Mark) (i : Incident) → acts_at i m i.acts ++ acts_ahead i.number xs ≡ i.acts ++ (acts_by i.number m ++ acts_ahead i.number xs)
  acts_on m xs i = ap (λ (ys : List Acted). ys ++ acts_ahead i.number xs) (acts_more i m i.acts) ∙ append_assoc i.acts (acts_by i.number m) (acts_ahead i.number xs)

  going : (m : Mark) (xs : List Mark) (i : Incident) → Going (m ∷ xs) i → Going xs (touched_by m i)
  going m xs i (inl w) = inl (record { acts = w.acts; origin = w.origin; ahead = acts_on m xs i ∙ w.ahead })
  going m xs i (inr w) = inr (record { first = w.first; at = w.at; setup = w.setup; in_force = w.in_force; steps = w.steps; ahead = acts_on m xs i ∙ w.ahead })

  -- a mark that may open an incident, and those after it
  abbrev MayOpen : Mark → List Mark → Type 0
  MayOpen (Carries x) xs = IsBy (force s (marks s h)) e.at x × ((n : ℕ) → acts_ahead n xs ≡ [])
  MayOpen m xs = Unit {0}

  abbrev AllMayOpen : List Mark → Type 0
  AllMayOpen [] = Unit {0}
  AllMayOpen (m ∷ xs) = MayOpen m xs × AllMayOpen xs

  new_one : (m : Mark) (xs ms : List Mark) → MayOpen m xs → opened s (marks s h) ≤ opened s ms → NewOne (Going (m ∷ xs)) m (opened s ms) (incidents s ms)
  new_one (Carries x) xs ms w le = λ t. inr (record { first = omega arith; at = w.0.at; setup = w.0.setup; in_force = w.0.in_force; steps = w.0.steps; ahead = w.1 (opened s ms + 1) })
  new_one m xs ms w le = tt

  each_onto : (xs ms : List Mark) → AllMayOpen xs → opened s (marks s h) ≤ opened s ms → Each (Going xs) (incidents s ms) → Each (Going []) (incidents s (onto xs ms))
  each_onto [] ms o le w = w
  each_onto (m ∷ xs) ms o le w =
      each_onto xs (m ∷ ms) o.1 (omega (arith, le, rises m (opened s ms) (incidents s ms), opened_step s m ms))
      (subst (Each (Going xs)) (sym (incidents_step s m ms)) (each_table (Going (m ∷ xs)) (Going xs) m (opened s ms) (incidents s ms) w (new_one m xs ms o.0 le) (going m xs)))

  open_carried : (xs : List Carried) → AllBy (force s (marks s h)) e.at xs → AllMayOpen (map Carries xs)
  open_carried [] w = tt
  open_carried (x ∷ xs) w = ((w.0, λ n. none_carried n xs), open_carried xs w.1)

  open_claim : (o : List ℕ) (at : ℕ) (r : Reply) → AllMayOpen (claim_marks o at r)
  open_claim o at (Claimed k class account) = (tt, tt)
  open_claim o at r = tt

  open_act : (a : Acted) (r : Reply) → AllMayOpen (act_marks a r)
  open_act a (Recorded k left) = (tt, tt)
  open_act a r = tt

  open_release : (r : Reply) → AllMayOpen (release_marks r)
  open_release (Released k) = (tt, tt)
  open_release r = tt

  open_close : (r : Reply) → AllMayOpen (close_marks r)
  open_close (Closed k) = (tt, tt)
  open_close r = tt

  open_entry : (event : Event) (r : Reply) → AllMayOpen (marks_of s (marks s h) event e.at r)
  open_entry (Adopt text) r = (tt, tt)
  open_entry Start r = (tt, tt)
  open_entry (Sent m via) r = (tt, open_carried (sent s (marks s h) m via e.at) (sent_by s (marks s h) m via e.at))
  open_entry (Beat account) r = (tt, tt)
  open_entry Tick r = open_carried (raised s (marks s h) e.at) (raised_by s (marks s h) e.at)
  open_entry (Claim o n) r = open_claim o e.at r
  open_entry (Next o) r = open_claim o e.at r
  open_entry (Do o n step outcome) r = open_act (acted_by o step outcome e.at) r
  open_entry (Release o n) r = open_release r
  open_entry (Close o n code) r = open_close r
  open_entry (Show n) r = tt
  open_entry Rows r = tt

  -- after the entry, recorded or not
  each_entry : (b : Bool) → is_recorded e.reply ≡ b → Each (OriginOf s h) (incidents s (marks s h)) → Each (Going []) (incidents s (cond b (onto (marks_of s (marks s h) e.event e.at e.reply) (marks s h)) (marks s h)))
  each_entry true is w =
      each_onto (marks_of s (marks s h) e.event e.at e.reply) (marks s h) (open_entry e.event e.reply) (omega arith)
      (each_weaker (OriginOf s h) (Going (marks_of s (marks s h) e.event e.at e.reply))
      (λ i o. inl (record { acts = i.acts; origin = o; ahead = ap (λ (xs : List Acted). i.acts ++ xs) (acts_of_entry s (marks s h) i.number e.event e.at e.reply) }))
      (incidents s (marks s h)) w)
  each_entry false is w =
      each_weaker (OriginOf s h) (Going [])
      (λ i o. inl (record { acts = i.acts; origin = o; ahead = ap (λ (xs : List Acted). i.acts ++ xs) (sym (none_quiet i.number e.event e.at e.reply is)) }))
      (incidents s (marks s h)) w

  ends : (i : Incident) → numbered i.number (incidents s (marks s (e ∷ h))) ≡ Some i → Going [] i → OriginOf s (e ∷ h) i
  ends i found (inl w) = subst (Origin s (e ∷ h) i.number i.steps) (sym w.ahead ∙ append-nil i.acts) (origin_more s e h i.number i.steps w.acts w.origin)
  ends i found (inr w) = inl (record {
    later = [];
    opening = e;
    before = h;
    parts = refl;
    incident = i;
    is_it = refl;
    opens = record { first = w.first; there = found; at = w.at; setup = w.setup; in_force = w.in_force; steps = w.steps };
    same_steps = refl;
    same_acts = sym w.ahead ∙ append-nil i.acts;
  })

from_start : (s : Summary) → IsNumbered s → Each (OriginOf s []) s.incidents
from_start s a =
    each_weaker (λ i. numbered i.number s.incidents ≡ Some i) (OriginOf s [])
    (λ i found. inr (record { incident = i; there = found; same_steps = refl; same_acts = append-nil i.acts }))
    s.incidents (all_found 0 s.incidents s.opened a)

pub origins : NumbersRise → (s : Summary) → IsNumbered s → (h : List Entry) → Each (OriginOf s h) (incidents s (marks s h))
origins rise s a [] = subst (Each (OriginOf s [])) (sym (incidents_begin s)) (from_start s a)
origins rise s a (e ∷ h) =
    each_both (λ i. numbered i.number (incidents s (marks s (e ∷ h))) ≡ Some i) (Going s e h []) (OriginOf s (e ∷ h)) (ends s e h)
    (incidents s (marks s (e ∷ h)))
    (all_found 0 (incidents s (marks s (e ∷ h))) (opened s (marks s (e ∷ h))) (rise s (e ∷ h) a))
    (each_entry s e h (is_recorded e.reply) refl (origins rise s a h))
