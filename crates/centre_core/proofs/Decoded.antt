-- What was read is a summary where each part of it is fine, and the centre that keeps it stands for no entries over it.
use Rattle.std.proofs.Common.{◌≡◌, ◌≤◌, ◌*◌, ℕ, Bool, true, false, cond, List, [], ◌∷◌, map, Option, Some, None, refl, sym, ap, ◌∙◌, subst, arith}
use Rattle.std.specs.Prelude.{IfSome, IsOk}
use Rattle.std.specs.List.{find}
use Rattle.std.specs.Str.{bytes_eq}
use Rattle.arc_data.specs.Incidents.{Each}
use Rattle.arc_data.specs.Moments.{IsMoment}
use Rattle.arc_data.specs.declared.incident.Incident.{Incident}
use Rattle.alarm_rules.specs.Setups.{setup_of}
use Rattle.centre_rules.specs.Marks.{lapse}
use Rattle.centre_rules.specs.Standing.{stands_at}
use Rattle.centre_rules.specs.Summary.{Summary, AccountRow, Opened, row_or}
use Rattle.centre_rules.specs.State.{Same, State, StandsFor}
use Rattle.incidents.specs.Tables.{TableValue}
use Rattle.open_incidents.specs.Marked.{HasActRoom}
use Rattle.summary_rules.specs.Fields.{Given, IsIncident}
use Rattle.summary_rules.specs.Lists.{Every, EveryTwo}
use Rattle.summary_rules.specs.Conditions.{HasRowBy, HasIncidentBy, IsRowBefore, IsHeldApart, AreMessages, IsCount, AreSteps, AreActsOf, AreNamedIn, IsSummary}
use Rattle.summary_rules.proofs.Everies.{every_weaker, every_map}
use Rattle.summary_rules.proofs.Pairs.{every_both}
use Rattle.summary_codec.specs.declared.head.Head.{Head}
use Rattle.summary_codec.specs.declared.reading.ReadRow.{ReadRow}
use Rattle.summary_codec.specs.declared.summary.ReadSummary.{ReadSummary}
use Rattle.summary_codec.specs.Parts.{row_of_read, summary_of_read, IsTextOf, IsNoText}
use Rattle.summary_codec.proofs.Whole.{one_text}
use Rattle.centre_core.specs.Decoding.{IsNoSpelling, IsDecoded, IsNoSummary, IsKeptOf, IsHeadFine, IsRowFine, AreRowsFine, IsIncidentFine, AreIncidentsFine, AreAllApart, IsTextFine}
use Rattle.centre_core.specs.Kept.{IsCentre}
use Rattle.centre_core.proofs.StepRoom.{acts_and_left}

-- Lists of what was made of items.

pub every_back : {A B : Type 0} (Q : B → Type 0) (f : A → B) (xs : List A) → Every Q (map f xs) → Every (λ x. Q (f x)) xs
every_back Q f [] w = tt
every_back Q f (x ∷ xs) w = (w.0, every_back Q f xs w.1)

two_made : {A B : Type 0} (S : B → B → Type 0) (f : A → B) (xs : List A) → EveryTwo (λ x y. S (f x) (f y)) xs → EveryTwo S (map f xs)
two_made S f [] w = tt
two_made S f (x ∷ xs) w = (every_map (λ y. S (f x) (f y)) (S (f x)) f (λ y s. s) xs w.0, two_made S f xs w.1)

two_back : {A B : Type 0} (S : B → B → Type 0) (f : A → B) (xs : List A) → EveryTwo S (map f xs) → EveryTwo (λ x y. S (f x) (f y)) xs
two_back S f [] w = tt
two_back S f (x ∷ xs) w = (every_back (S (f x)) f xs w.0, two_back S f xs w.1)

-- The parts and the whole.

pub of_parts : (version : ℕ) (r : ReadSummary) → IsHeadFine version r.head → AreRowsFine r.head.last r.rows.items → AreIncidentsFine r.head r.incidents.items
    → IsTextFine r.head → AreAllApart (lapse (summary_of_read r) []) r.head.last r.incidents.items → AreNamedIn version r.incidents.items
    → IsSummary version r.head.generation (summary_of_read r)
of_parts version r h rows is text apart names = record {
  last = h.last;
  moments = record {
    start = h.start;
    rows = every_map (IsRowFine r.head.last) (HasRowBy r.head.last) row_of_read (λ x w. w.by) r.rows.items rows.each;
    incidents = every_weaker (IsIncidentFine r.head) (HasIncidentBy r.head.last) (λ i w. w.by) r.incidents.items is.each;
  };
  recorded = h.recorded;
  first = h.first;
  followed = h.followed;
  opened = h.opened;
  text = text;
  rows = two_made IsRowBefore row_of_read r.rows.items rows.order;
  messages = every_map (IsRowFine r.head.last) (λ (x : AccountRow). AreMessages x.messages) row_of_read (λ x w. w.messages) r.rows.items rows.each;
  numbers = is.numbers;
  single = apart.single;
  signals = every_weaker (IsIncidentFine r.head) (λ (i : Incident). IsCount (4000 * r.head.recorded) i.signals) (λ i w. w.signals) r.incidents.items is.each;
  holders = two_made IsHeldApart (stands_at (lapse (summary_of_read r) []) r.head.last) r.incidents.items apart.holders;
  steps = every_weaker (IsIncidentFine r.head) (λ (i : Incident). AreSteps i.steps) (λ i w. w.steps) r.incidents.items is.each;
  acts = every_weaker (IsIncidentFine r.head) (λ (i : Incident). AreActsOf i.steps i.acts) (λ i w. w.acts) r.incidents.items is.each;
  names = names;
}

pub head_of : (version : ℕ) (r : ReadSummary) → IsSummary version r.head.generation (summary_of_read r) → IsHeadFine version r.head
head_of version r w = record { last = w.last; start = w.moments.start; recorded = w.recorded; first = w.first; followed = w.followed; opened = w.opened }

pub rows_of : (version : ℕ) (r : ReadSummary) → IsSummary version r.head.generation (summary_of_read r) → AreRowsFine r.head.last r.rows.items
rows_of version r w = record {
  each = every_both (λ (x : ReadRow). HasRowBy r.head.last (row_of_read x)) (λ (x : ReadRow). AreMessages x.window) (IsRowFine r.head.last)
      (λ x by messages. record { by = by; messages = messages }) r.rows.items
      (every_back (HasRowBy r.head.last) row_of_read r.rows.items w.moments.rows)
      (every_back (λ (x : AccountRow). AreMessages x.messages) row_of_read r.rows.items w.messages);
  order = two_back IsRowBefore row_of_read r.rows.items w.rows;
}

pub incidents_of : (version : ℕ) (r : ReadSummary) → IsSummary version r.head.generation (summary_of_read r) → AreIncidentsFine r.head r.incidents.items
incidents_of version r w =
    let by_count = every_both (HasIncidentBy r.head.last) (λ (i : Incident). IsCount (4000 * r.head.recorded) i.signals)
    (λ (i : Incident). HasIncidentBy r.head.last i × IsCount (4000 * r.head.recorded) i.signals) (λ i a b. (a, b)) r.incidents.items w.moments.incidents w.signals in
    let by_steps = every_both (λ (i : Incident). AreSteps i.steps) (λ (i : Incident). AreActsOf i.steps i.acts)
    (λ (i : Incident). AreSteps i.steps × AreActsOf i.steps i.acts) (λ i a b. (a, b)) r.incidents.items w.steps w.acts in
    record {
      each = every_both (λ (i : Incident). HasIncidentBy r.head.last i × IsCount (4000 * r.head.recorded) i.signals) (λ (i : Incident). AreSteps i.steps × AreActsOf i.steps i.acts)
          (IsIncidentFine r.head) (λ i a b. record { by = a.0; signals = a.1; steps = b.0; acts = b.1 }) r.incidents.items by_count by_steps;
      numbers = w.numbers;
    }

pub apart_of : (version : ℕ) (r : ReadSummary) → IsSummary version r.head.generation (summary_of_read r)
    → AreAllApart (lapse (summary_of_read r) []) r.head.last r.incidents.items
apart_of version r w = record {
  single = w.single;
  holders = two_back IsHeldApart (stands_at (lapse (summary_of_read r) []) r.head.last) r.incidents.items w.holders;
}

-- What a centre has to keep.

each_of : (P : Incident → Type 0) (is : List Incident) → Every P is → Each P is
each_of P [] w = tt
each_of P (i ∷ is) w = (w.0, each_of P is w.1)

given_some : {A : Type 0} (P : A → Type 0) (o : Option A) → Given P o → IfSome o P
given_some P None w = tt
given_some P (Some x) w = w

room_of : (h : Head) (i : Incident) → IsIncidentFine h i → IsIncident i → HasActRoom i
room_of h i w v = omega (arith, acts_and_left i.steps i.acts w.acts, v.few_steps)

pub centre_fine : (version : ℕ) (h : Head) (text : Option (List ℕ)) (t : TableValue) → IsHeadFine version h → Given (λ x. IsOk (setup_of x)) text
    → AreIncidentsFine h t.incidents → Every IsIncident t.incidents → t.opened ≡ h.opened → IsCentre h.recorded h.recorded h.last text t
centre_fine version h text t fine valid is fields opened = record {
  few = omega arith;
  bound = fine.recorded;
  moment = fine.last;
  valid = given_some (λ x. IsOk (setup_of x)) text valid;
  counts = record {
    opened = omega (arith, opened, fine.opened);
    signals = each_of (λ i. i.signals ≤ h.recorded * 4000) t.incidents
        (every_weaker (IsIncidentFine h) (λ (i : Incident). i.signals ≤ h.recorded * 4000) (λ i w. omega (arith, w.signals.within)) t.incidents is.each);
  };
  acts = each_of HasActRoom t.incidents (every_both (IsIncidentFine h) IsIncident HasActRoom (room_of h) t.incidents is.each fields);
}

-- The history of no entries.

pub stands_over : (b : Summary) (s : State) → s.sum ≡ b → s.entries ≡ b.recorded → StandsFor b s []
stands_over b s sum entries = record {
  legal = tt;
  entries = entries ∙ omega arith;
  recorded = ap (λ (x : Summary). x.recorded) sum ∙ omega arith;
  last = ap (λ (x : Summary). x.last) sum;
  same = subst (λ (x : Summary). Same x [] b []) (sym sum) (record {
    text = refl;
    start = refl;
    opened = refl;
    incidents = refl;
    rows = λ a. refl;
    heard = λ a. refl;
    failed = λ a. refl;
    opening = λ a. refl;
    recent = λ a. refl;
  });
}

pub decoded_is : (version : ℕ) (bytes : List ℕ) (r : ReadSummary) (s : State) → IsTextOf version bytes r → IsKeptOf version r s
    → IsDecoded version bytes s r.head.generation
decoded_is version bytes r s text kept = record {
  base = summary_of_read r;
  spelling = record { fields = text.fields; besides = kept.besides; is = text.is };
  stands = stands_over (summary_of_read r) s kept.sum kept.entries;
}

pub no_text : (version : ℕ) (bytes : List ℕ) → IsNoText version bytes → IsNoSpelling version bytes
no_text version bytes none generation s w = none generation s w.fields w.besides.names w.is

pub no_summary : (version : ℕ) (bytes : List ℕ) (r : ReadSummary) → IsTextOf version bytes r → IsNoSummary version r → IsNoSpelling version bytes
no_summary version bytes r text none generation s w =
    let one = one_text version bytes generation r.head.generation s (summary_of_read r) w.fields w.besides.names w.is text.fields text.names text.is in
    none (subst (λ (g : ℕ). IsSummary version g (summary_of_read r)) one.generations (subst (IsSummary version generation) one.summaries w.besides))

-- Openings.

opened_by : (last : ℕ) (o : Option Opened) → IsMoment last → Given (λ x. x.at ≤ last) o → IfSome o (λ x. IsMoment x.at)
opened_by last None moment w = tt
opened_by last (Some x) moment w = omega (arith, w, moment)

opened_if : (b : Bool) (r : AccountRow) (rest : Option AccountRow) (account : List ℕ) (start : Option ℕ) → IfSome r.opening (λ x. IsMoment x.at)
    → IfSome (row_or rest account start).opening (λ x. IsMoment x.at) → IfSome (row_or (cond b (Some r) rest) account start).opening (λ x. IsMoment x.at)
opened_if true r rest account start w v = w
opened_if false r rest account start w v = v

pub opened_rows : (last : ℕ) (start : Option ℕ) (rows : List ReadRow) (account : List ℕ) → IsMoment last → Every (IsRowFine last) rows
    → IfSome (row_or (find (λ (r : AccountRow). bytes_eq r.account account) (map row_of_read rows)) account start).opening (λ x. IsMoment x.at)
opened_rows last start [] account moment w = tt
opened_rows last start (x ∷ rows) account moment w =
    opened_if (bytes_eq x.account account) (row_of_read x) (find (λ (r : AccountRow). bytes_eq r.account account) (map row_of_read rows)) account start
    (opened_by last x.opening moment w.0.by.opening) (opened_rows last start rows account moment w.1)
