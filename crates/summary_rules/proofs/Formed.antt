-- The accounts, messages and incidents of the summary of a legal history have their fields in their ranges.
use Rattle.std.proofs.Common.{◌≡◌, ◌<◌, ℕ, List, [], ◌∷◌, Bool, true, false, cond, Option, Some, None, refl, sym, subst}
use Rattle.std.specs.Prelude.{◌&&◌, ◌==◌, not, nat_lt}
use Rattle.std.specs.List.{find, list_any}
use Rattle.std.specs.Str.{bytes_eq}
use Rattle.std.proofs.lemmas.Bool.{false≢true, ltb-true}
use Rattle.std.proofs.lemmas.Slice.Eq.{bytes_eq-Decides}
use Rattle.arc_data.specs.Classes.{priority_of}
use Rattle.arc_data.specs.Digits.{is_name}
use Rattle.arc_data.specs.WellFormed.{IsMessage, IsText}
use Rattle.arc_data.specs.declared.incident.Incident.{Incident}
use Rattle.arc_data.specs.declared.step.Acted.{Acted}
use Rattle.centre_rules.specs.Summary.{Summary, AccountRow, Past, row_or}
use Rattle.centre_rules.specs.Marks.{Mark, Adopts, Starts, Sends, Hears, Carries, Claims, Acts, Releases, Closes, text, messages}
use Rattle.centre_rules.specs.Cases.{incidents, opened, is_of, is_new}
use Rattle.centre_rules.specs.Standing.{standing}
use Rattle.centre_rules.specs.Tables.{touched_by}
use Rattle.centre_rules.specs.History.{Entry, marks, last}
use Rattle.centre_rules.specs.Answers.{IsLegal}
use Rattle.centre_rules.specs.Sums.{names}
use Rattle.centre_rules.proofs.Steps.{incidents_begin, incidents_step}
use Rattle.summary_rules.specs.Lists.{Every}
use Rattle.summary_rules.specs.Fields.{Given, IsAccount, IsTextUpTo, IsPastOf, IsRow, IsHolding, IsActed, IsIncident, HasFields}
use Rattle.summary_rules.specs.Conditions.{AreSteps}
use Rattle.summary_rules.proofs.Everies.{every_weaker, every_map}
use Rattle.summary_rules.proofs.Ascending.{every_named}
use Rattle.summary_rules.proofs.Fine.{IsFine, IsGoodAct}
use Rattle.summary_rules.proofs.Keeping.{kept}
use Rattle.summary_rules.proofs.Moments.{NewIs, every_table, every_more}
use Rattle.summary_rules.proofs.PlanSteps.{IsStep}

-- a message of an account
pub record IsSentBy (account : List ℕ) (p : Past) : Type 0 where
  pub message : IsMessage p.message
  pub of : p.message.account ≡ account

abbrev pub IsNamed : Option (List ℕ) → Type 0
IsNamed holder = Given (λ operator. is_name operator ≡ true) holder

-- an incident, but for its moments and counts
pub record IsPlain (i : Incident) : Type 0 where
  pub account : IsAccount i.account
  pub class : 0 < priority_of i.class
  pub code : IsTextUpTo 32 i.code
  pub via : IsTextUpTo 16 i.via
  pub holder : IsNamed i.holder
  pub steps : Every IsStep i.steps
  pub apart : AreSteps i.steps
  pub acts : Every IsGoodAct i.acts

-- what is known of accounts, messages, incidents and the setup text
pub record IsFormed (s : Summary) (ms : List Mark) (at : ℕ) : Type 0 where
  pub naming : Every IsAccount (names s ms)
  pub sending : (a : List ℕ) → Every (IsSentBy a) (messages s ms a)
  pub table : Every IsPlain (incidents s ms)
  pub setup : Given IsText (text s ms)

-- Messages.

sent_if : (a : List ℕ) (b : Bool) (p : Past) (ps : List Past) → bytes_eq p.message.account a ≡ b → IsMessage p.message → Every (IsSentBy a) ps → Every (IsSentBy a) (cond b (p ∷ ps) ps)
sent_if a true p ps e m w = (record { message = m; of = (bytes_eq-Decides p.message.account a).0 e }, w)
sent_if a false p ps e m w = w

-- Incidents.

named_if : (b : Bool) (x h : Option (List ℕ)) → IsNamed x → IsNamed h → IsNamed (cond b x h)
named_if true x h v w = v
named_if false x h v w = w

plain_by : (stood : List Incident) (at : ℕ) (m : Mark) (i : Incident) → IsFine stood at m → IsPlain i → IsPlain (touched_by m i)
plain_by stood at (Claims operator number moment) i fine w = record {
  account = w.account;
  class = w.class;
  code = w.code;
  via = w.via;
  holder = named_if (i.number == number) (Some operator) i.holder fine.name w.holder;
  steps = w.steps;
  apart = w.apart;
  acts = w.acts;
}
plain_by stood at (Acts number acted) i fine w = record {
  account = w.account;
  class = w.class;
  code = w.code;
  via = w.via;
  holder = w.holder;
  steps = w.steps;
  apart = w.apart;
  acts = every_more IsGoodAct (i.number == number) i.acts acted w.acts fine.good;
}
plain_by stood at (Releases number) i fine w = record {
  account = w.account;
  class = w.class;
  code = w.code;
  via = w.via;
  holder = named_if (i.number == number) None i.holder tt w.holder;
  steps = w.steps;
  apart = w.apart;
  acts = w.acts;
}
plain_by stood at (Closes number) i fine w = record {
  account = w.account;
  class = w.class;
  code = w.code;
  via = w.via;
  holder = named_if (i.number == number) None i.holder tt w.holder;
  steps = w.steps;
  apart = w.apart;
  acts = w.acts;
}
plain_by stood at (Adopts words) i fine w = record { account = w.account; class = w.class; code = w.code; via = w.via; holder = tt; steps = w.steps; apart = w.apart; acts = w.acts }
plain_by stood at (Starts moment) i fine w = record { account = w.account; class = w.class; code = w.code; via = w.via; holder = tt; steps = w.steps; apart = w.apart; acts = w.acts }
plain_by stood at m i fine w = record { account = w.account; class = w.class; code = w.code; via = w.via; holder = w.holder; steps = w.steps; apart = w.apart; acts = w.acts }

left : (a b : Bool) → (a && b) ≡ true → a ≡ true
left true b e = refl
left false b e = absurd (false≢true e)

right : (a b : Bool) → (a && b) ≡ true → b ≡ true
right true b e = e
right false b e = absurd (false≢true e)

new_plain : (m : Mark) (at count : ℕ) (is stood : List Incident) → IsFine stood at m → NewIs IsPlain m count is
new_plain (Carries x) at count is stood fine = λ e. record {
  account = fine.account_ok;
  class = ltb-true 0 (priority_of x.signal.class)
      (right (is_new x.signal.kind) (nat_lt 0 (priority_of x.signal.class))
      (left (is_new x.signal.kind && nat_lt 0 (priority_of x.signal.class)) (not (list_any (is_of x.account x.signal.class) is)) e));
  code = fine.code;
  via = fine.via;
  holder = tt;
  steps = fine.good_steps.each;
  apart = fine.good_steps.apart;
  acts = tt;
}
new_plain m at count is stood fine = tt

table_plain : (s : Summary) (ms : List Mark) (at : ℕ) (m : Mark) → IsFine (standing s ms at) at m → Every IsPlain (incidents s ms) → Every IsPlain (incidents s (m ∷ ms))
table_plain s ms at m fine w =
    subst (Every IsPlain) (sym (incidents_step s m ms))
    (every_table IsPlain IsPlain m (opened s ms) (incidents s ms) w (new_plain m at (opened s ms) (incidents s ms) (standing s ms at) fine) (λ i p. plain_by (standing s ms at) at m i fine p))

-- One mark more.

formed_mark : (s : Summary) (ms : List Mark) (at : ℕ) (m : Mark) → IsFine (standing s ms at) at m → IsFormed s ms at → IsFormed s (m ∷ ms) at
formed_mark s ms at (Adopts words) fine w = record { naming = w.naming; sending = w.sending; table = table_plain s ms at (Adopts words) fine w.table; setup = fine.formed }
formed_mark s ms at (Sends m moment) fine w = record {
  naming = every_named IsAccount m.account (names s ms) fine.message.account w.naming;
  sending = λ a. sent_if a (bytes_eq m.account a) (record { message = m; at = moment }) (messages s ms a) refl fine.message (w.sending a);
  table = table_plain s ms at (Sends m moment) fine w.table;
  setup = w.setup;
}
formed_mark s ms at (Hears account moment) fine w = record {
  naming = every_named IsAccount account (names s ms) fine.account_ok w.naming;
  sending = w.sending;
  table = table_plain s ms at (Hears account moment) fine w.table;
  setup = w.setup;
}
formed_mark s ms at (Carries x) fine w = record {
  naming = every_named IsAccount x.account (names s ms) fine.account_ok w.naming;
  sending = w.sending;
  table = table_plain s ms at (Carries x) fine w.table;
  setup = w.setup;
}
formed_mark s ms at m fine w = record { naming = w.naming; sending = w.sending; table = table_plain s ms at m fine w.table; setup = w.setup }

-- The beginning.

past_sent : (account : List ℕ) (p : Past) → IsPastOf account p → IsSentBy account p
past_sent account p w = record { message = w.message; of = w.of }

row_sent : (rows : List AccountRow) (a : List ℕ) (start : Option ℕ) → Every IsRow rows → Every (IsSentBy a) (row_or (find (λ r. bytes_eq r.account a) rows) a start).messages
row_sent [] a start w = tt
row_sent (r ∷ rows) a start w = by (bytes_eq r.account a) refl (row_sent rows a start w.1)
  where
    by : (b : Bool) → bytes_eq r.account a ≡ b → Every (IsSentBy a) (row_or (find (λ r. bytes_eq r.account a) rows) a start).messages
        → Every (IsSentBy a) (row_or (cond b (Some r) (find (λ r. bytes_eq r.account a) rows)) a start).messages
    by true e next =
        subst (λ (x : List ℕ). Every (IsSentBy x) r.messages) ((bytes_eq-Decides r.account a).0 e)
        (every_weaker (IsPastOf r.account) (IsSentBy r.account) (past_sent r.account) r.messages w.0.messages)
    by false e next = next

holding_named : (h : Option (List ℕ)) (touched : ℕ) → IsHolding h touched → IsNamed h
holding_named None touched w = tt
holding_named (Some operator) touched w = w.0

act_good : (a : Acted) → IsActed a → IsGoodAct a
act_good a w = record { known = w.step; outcome = w.outcome; name = w.operator }

-- an incident whose fields are in their ranges, and whose steps differ
record IsBoth (i : Incident) : Type 0 where
  fields : IsIncident i
  apart : AreSteps i.steps

plain_of : (i : Incident) → IsIncident i → AreSteps i.steps → IsPlain i
plain_of i w v = record {
  account = w.account;
  class = w.class;
  code = w.code;
  via = w.via;
  holder = holding_named i.holder i.touched w.holder;
  steps = w.steps;
  apart = v;
  acts = every_weaker IsActed IsGoodAct act_good i.acts w.acts;
}

plain_all : (is : List Incident) → Every IsIncident is → Every (λ i. AreSteps i.steps) is → Every IsPlain is
plain_all [] w v = tt
plain_all (i ∷ is) w v = (plain_of i w.0 v.0, plain_all is w.1 v.1)

begins_formed : (generation : ℕ) (s : Summary) → HasFields generation s → Every (λ i. AreSteps i.steps) s.incidents → IsFormed s [] s.last
begins_formed generation s w v = record {
  naming = every_map IsRow IsAccount (λ (r : AccountRow). r.account) (λ r p. p.account) s.rows w.rows;
  sending = λ a. row_sent s.rows a s.start w.rows;
  table = subst (Every IsPlain) (sym (incidents_begin s)) (plain_all s.incidents w.incidents v);
  setup = w.text;
}

pub formed_all : (generation : ℕ) (s : Summary) (h : List Entry) → HasFields generation s → Every (λ i. AreSteps i.steps) s.incidents → IsLegal s h → IsFormed s (marks s h) (last s h)
formed_all generation s h w v legal =
    kept {J = IsFormed s} s (record { later = λ ms low at le f. record { naming = f.naming; sending = f.sending; table = f.table; setup = f.setup }; mark = formed_mark s })
    (begins_formed generation s w v) h legal
