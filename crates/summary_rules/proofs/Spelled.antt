-- The summary of a legal history has a spelling in version 2, where the one that it is over has one in either version, or is empty.
use Rattle.std.proofs.Common.{◌≤◌, ◌<◌, ◌+◌, ◌^◌, ◌*◌, ℕ, List, [], ◌∷◌, map, take, length, Option, Some, None, refl, inl, inr, arith}
use Rattle.std.proofs.lemmas.List.{length-take, length-map}
use Rattle.arc_data.specs.Incidents.{Ascends}
use Rattle.arc_data.specs.Moments.{IsMoment}
use Rattle.arc_data.specs.declared.incident.Incident.{Incident}
use Rattle.arc_data.specs.declared.incident.Opened.{Opened}
use Rattle.arc_data.specs.declared.step.Acted.{Acted}
use Rattle.event_codec.specs.Spelling.{IsVersion}
use Rattle.centre_rules.specs.Summary.{Summary, Past}
use Rattle.centre_rules.specs.Marks.{messages}
use Rattle.centre_rules.specs.Cases.{opened}
use Rattle.centre_rules.specs.History.{Entry, marks, last}
use Rattle.centre_rules.specs.Sums.{names, account_row, summary_of}
use Rattle.centre_laws.proofs.Numbering.{rise}
use Rattle.summary_rules.specs.Lists.{Every, EveryTwo}
use Rattle.summary_rules.specs.Fields.{Given, IsLongNumber, IsAccount, IsPastOf, IsRow, IsHolding, IsActed, IsIncident, HasFields}
use Rattle.summary_rules.specs.Conditions.{HasRowBy, HasIncidentBy, IsCount, AreSteps, IsSummary}
use Rattle.summary_rules.specs.Laws.{IsUnheld, IsUntouched, HasSignal, AreIncidents, AreWithin, HasActs, SummariesAreSpelled, NothingIsSpelled}
use Rattle.summary_rules.proofs.Everies.{every_weaker, every_take, every_map}
use Rattle.summary_rules.proofs.Pairs.{every_both}
use Rattle.summary_rules.proofs.Ascending.{rows_ascend}
use Rattle.summary_rules.proofs.Moments.{given_weaker, moments_stay, setups_stay}
use Rattle.summary_rules.proofs.Messages.{messages_stay}
use Rattle.summary_rules.proofs.OpenIncidents.{incidents_stay}
use Rattle.summary_rules.proofs.Counts.{counts_stay}
use Rattle.summary_rules.proofs.Acting.{acts_stay}
use Rattle.summary_rules.proofs.Fine.{IsGoodAct}
use Rattle.summary_rules.proofs.PlanSteps.{IsStep, Differ, ten_at_most}
use Rattle.summary_rules.proofs.Formed.{IsSentBy, IsNamed, IsPlain, IsFormed, formed_all}

-- Numbers fit eight bytes.

moment_fits : (low at : ℕ) → IsMoment at → low ≤ at → IsLongNumber low
moment_fits low at m le = omega (arith, m, le)

given_fits : (at : ℕ) → IsMoment at → (o : Option ℕ) → Given (λ t. t ≤ at) o → Given IsLongNumber o
given_fits at m o w = given_weaker (λ t. t ≤ at) IsLongNumber (λ t le. moment_fits t at m le) o w

-- The incidents of the beginning.

untouched_of : (h : Option (List ℕ)) (touched : ℕ) → IsHolding h touched → IsUnheld h touched
untouched_of None touched w = w
untouched_of (Some operator) touched w = tt

are_incidents : (version generation : ℕ) (s : Summary) → HasFields generation s → IsSummary version generation s → AreIncidents s
are_incidents version generation s f b = record {
  single = b.single;
  holders = b.holders;
  untouched = every_weaker IsIncident IsUntouched (λ i w. untouched_of i.holder i.touched w.holder) s.incidents f.incidents;
  counted = every_weaker (λ (i : Incident). IsCount (4000 * s.recorded) i.signals) HasSignal (λ i w. w.any) s.incidents b.signals;
}

-- Acts, of which none are of one step, are no more than ten.

acted_steps : (acts : List Acted) → Every IsGoodAct acts → Every IsStep (map (λ (a : Acted). a.step) acts)
acted_steps acts w = every_map IsGoodAct IsStep (λ (a : Acted). a.step) (λ a p. p.known) acts w

differ_with : (a : Acted) (acts : List Acted) → Every (λ (other : Acted). Differ a.step other.step) acts → Every (Differ a.step) (map (λ (a : Acted). a.step) acts)
differ_with a [] w = tt
differ_with a (b ∷ acts) w = (w.0, differ_with a acts w.1)

acted_differ : (acts : List Acted) → EveryTwo (λ (a other : Acted). Differ a.step other.step) acts → AreSteps (map (λ (a : Acted). a.step) acts)
acted_differ [] w = tt
acted_differ (a ∷ acts) w = (differ_with a acts w.0, acted_differ acts w.1)

acts_few : (acts : List Acted) → Every IsGoodAct acts → EveryTwo (λ (a other : Acted). Differ a.step other.step) acts → length acts ≤ 10
acts_few acts w v =
    omega (arith, ten_at_most (map (λ (a : Acted). a.step) acts) (acted_steps acts w) (acted_differ acts v), length-map acts (λ (a : Acted). a.step))

-- Each incident of a legal history.

held : (last : ℕ) → IsMoment last → (h : Option (List ℕ)) (touched : ℕ) → IsNamed h → IsUnheld h touched → touched ≤ last → IsHolding h touched
held last m None touched n u le = u
held last m (Some operator) touched n u le = (n, moment_fits touched last m le)

acted_ok : (last : ℕ) → IsMoment last → (a : Acted) → IsGoodAct a → a.at ≤ last → IsActed a
acted_ok last m a w le = record { step = w.known; outcome = w.outcome; at = moment_fits a.at last m le; operator = w.name }

-- what the laws say of an incident
record IsKnown (last most opened : ℕ) (i : Incident) : Type 0 where
  plain : IsPlain i
  moments : HasIncidentBy last i
  untouched : IsUntouched i
  within : i.signals ≤ most
  acts : HasActs i
  number : i.number ≤ opened

incident_ok : (last most opened : ℕ) → IsMoment last → most < 2 ^ 64 → opened < 2 ^ 64 → (i : Incident) → IsKnown last most opened i → IsIncident i
incident_ok last most opened m few many i w = record {
  number = omega (arith, w.number, many);
  account = w.plain.account;
  class = w.plain.class;
  code = w.plain.code;
  via = w.plain.via;
  at = moment_fits i.at last m w.moments.at;
  signals = omega (arith, w.within, few);
  holder = held last m i.holder i.touched w.plain.holder w.untouched w.moments.touched;
  few_steps = ten_at_most i.steps w.plain.steps w.plain.apart;
  steps = w.plain.steps;
  few_acts = acts_few i.acts w.plain.acts w.acts.apart;
  acts = every_both IsGoodAct (λ (a : Acted). a.at ≤ last) IsActed (acted_ok last m) i.acts w.plain.acts w.moments.acts;
}

numbers_below : (low : ℕ) (is : List Incident) (high : ℕ) → Ascends low is high → Every (λ (i : Incident). i.number ≤ high) is
numbers_below low [] high a = tt
numbers_below low (i ∷ is) high a = (highest i.number is high a.1, numbers_below i.number is high a.1)
  where
    highest : (low : ℕ) (is : List Incident) (high : ℕ) → Ascends low is high → low ≤ high
    highest low [] high a = a
    highest low (i ∷ is) high a = omega (arith, a.0, highest i.number is high a.1)

known_all : (last most opened : ℕ) (is : List Incident) → Every IsPlain is → Every (HasIncidentBy last) is → Every IsUntouched is → Every (λ (i : Incident). i.signals ≤ most) is
    → Every HasActs is → Every (λ (i : Incident). i.number ≤ opened) is → Every (IsKnown last most opened) is
known_all last most opened [] a b c d e f = tt
known_all last most opened (i ∷ is) a b c d e f =
    (record { plain = a.0; moments = b.0; untouched = c.0; within = d.0; acts = e.0; number = f.0 }, known_all last most opened is a.1 b.1 c.1 d.1 e.1 f.1)

-- Each row.

past_ok : (last : ℕ) → IsMoment last → (account : List ℕ) (p : Past) → IsSentBy account p → p.at ≤ last → IsPastOf account p
past_ok last m account p w le = record { at = moment_fits p.at last m le; message = w.message; of = w.of }

row_ok : (s : Summary) (h : List Entry) → IsMoment (last s h) → IsFormed s (marks s h) (last s h) → (account : List ℕ) → IsAccount account
    → HasRowBy (last s h) (account_row s (marks s h) account) → IsRow (account_row s (marks s h) account)
row_ok s h m f account ok w =
    let sent = messages s (marks s h) account in
    record {
      account = ok;
      heard = given_fits (last s h) m (account_row s (marks s h) account).heard w.heard;
      opening = given_weaker (λ (o : Opened). o.at ≤ last s h) (λ (o : Opened). IsLongNumber o.at) (λ o le. moment_fits o.at (last s h) m le) (account_row s (marks s h) account).opening w.opening;
      few = omega (arith, length-take 32 sent);
      messages = every_both (IsSentBy account) (λ (p : Past). p.at ≤ last s h) (IsPastOf account) (past_ok (last s h) m account) (take 32 sent) (every_take (IsSentBy account) 32 sent (f.sending account)) w.messages;
    }

rows_ok : (s : Summary) (h : List Entry) → IsMoment (last s h) → IsFormed s (marks s h) (last s h) → (xs : List (List ℕ)) → Every IsAccount xs
    → Every (HasRowBy (last s h)) (map (account_row s (marks s h)) xs) → Every IsRow (map (account_row s (marks s h)) xs)
rows_ok s h m f [] w v = tt
rows_ok s h m f (x ∷ xs) w v = (row_ok s h m f x w.0 v.0, rows_ok s h m f xs w.1 v.1)

-- The whole.

counts_of : (most : ℕ) (is : List Incident) → Every HasSignal is → Every (λ (i : Incident). i.signals ≤ most) is → Every (λ (i : Incident). IsCount most i.signals) is
counts_of most is w v = every_both HasSignal (λ (i : Incident). i.signals ≤ most) (λ (i : Incident). IsCount most i.signals) (λ i p q. record { any = p; within = q }) is w v

pub summaries_spelled : SummariesAreSpelled
summaries_spelled version generation other s h f b legal may =
    let t = summary_of s h in
    let moments = moments_stay s h b.moments legal in
    let numbers : Ascends 0 t.incidents t.opened = rise s h b.numbers in
    let each = incidents_stay s h b.numbers (are_incidents version generation s f b) legal in
    let start : AreWithin (4000 * s.recorded) s.opened s.incidents = record {
      all = b.opened;
      each = every_weaker (λ (i : Incident). IsCount (4000 * s.recorded) i.signals) (λ (i : Incident). i.signals ≤ 4000 * s.recorded) (λ i w. w.within) s.incidents b.signals;
    } in
    let counts = counts_stay s h start in
    let acts = acts_stay s h b.numbers b.acts legal in
    let formed = formed_all generation s h f b.steps legal in
    let few : 4000 * t.recorded < 2 ^ 64 = omega (arith, may.recorded) in
    let many : t.opened < 2 ^ 64 = omega (arith, counts.all, few) in
    record {
      fields = record {
        numbered = omega (arith, may.followed, may.recorded);
        last = moment_fits t.last t.last may.last (omega arith);
        recorded = omega (arith, may.recorded);
        opened = many;
        start = given_fits t.last may.last t.start moments.start;
        text = formed.setup;
        few_rows = may.few_rows;
        rows = rows_ok s h may.last formed (names s (marks s h)) formed.naming moments.rows;
        few_incidents = may.few_incidents;
        incidents = every_weaker (IsKnown t.last (4000 * t.recorded) t.opened) IsIncident (incident_ok t.last (4000 * t.recorded) t.opened may.last few many) t.incidents
            (known_all t.last (4000 * t.recorded) t.opened t.incidents formed.table moments.incidents each.untouched counts.each acts (numbers_below 0 t.incidents t.opened numbers));
      };
      besides = record {
        last = may.last;
        moments = moments;
        recorded = may.recorded;
        first = may.first;
        followed = may.followed;
        opened = counts.all;
        text = setups_stay s h b.text legal;
        rows = rows_ascend s h b.rows;
        messages = messages_stay s h b.moments b.messages legal;
        numbers = numbers;
        single = each.single;
        signals = counts_of (4000 * t.recorded) t.incidents each.counted counts.each;
        holders = each.holders;
        steps = every_weaker IsPlain (λ (i : Incident). AreSteps i.steps) (λ i w. w.apart) t.incidents formed.table;
        acts = acts;
        names = λ one. absurd (omega (arith, one));
      };
      is = refl;
    }

pub nothing_spelled : NothingIsSpelled
nothing_spelled version known = record {
  fields = record {
    numbered = omega arith;
    last = omega arith;
    recorded = omega arith;
    opened = omega arith;
    start = tt;
    text = tt;
    few_rows = omega arith;
    rows = tt;
    few_incidents = omega arith;
    incidents = tt;
  };
  besides = record {
    last = omega arith;
    moments = record { start = tt; rows = tt; incidents = tt };
    recorded = omega arith;
    first = omega arith;
    followed = at_least known;
    opened = omega arith;
    text = tt;
    rows = tt;
    messages = tt;
    numbers = omega arith;
    single = tt;
    signals = tt;
    holders = tt;
    steps = tt;
    acts = tt;
    names = λ one. tt;
  };
  is = refl;
}
  where
    at_least : IsVersion version → 1 ≤ 0 + version
    at_least (inl one) = omega (arith, one)
    at_least (inr two) = omega (arith, two)
