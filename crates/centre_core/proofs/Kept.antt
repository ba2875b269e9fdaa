-- What a recorded event leaves.
use Rattle.std.proofs.Common.{◌≡◌, ◌≤◌, ◌^◌, ◌*◌, ◌+◌, ℕ, List, [], length, true, Option, Some, None, refl, sym, ap, ◌∙◌, arith, subst}
use Rattle.std.specs.Prelude.{IfSome, IsOk, IsErr, is_ok, Result, Ok, Err}
use Rattle.std.proofs.lemmas.Bool.{false≢true}
use Rattle.arc_data.specs.declared.event.Event.{Event}
use Rattle.arc_data.specs.declared.event.Event.TheVariants.{Adopt, Start, Message as Sent, Beat, Tick, Claim, Next, Act as Do, Release, Close, Show, List as Rows}
use Rattle.arc_data.specs.declared.incident.Incident.{Incident}
use Rattle.arc_data.specs.declared.reply.Reply.{Reply}
use Rattle.arc_data.specs.declared.reply.Reply.TheVariants.{Adopted}
use Rattle.arc_data.specs.declared.setup_fault.SetupFault.{SetupFault}
use Rattle.known_accounts.specs.declared.supervised_accounts.FoundAccount.{FoundAccount}
use Rattle.known_accounts.specs.Rows.{RowsValue, lacking}
use Rattle.alarm_rules.specs.Setups.{Setup, setup_of}
use Rattle.centre_rules.specs.Summary.{Summary}
use Rattle.centre_rules.specs.Marks.{Mark, Adopts, Carried}
use Rattle.centre_rules.specs.Carrying.{carried_by}
use Rattle.centre_rules.specs.History.{is_recorded, marks_of, onto}
use Rattle.centre_rules.specs.Answers.{answer_over, if_known}
use Rattle.centre_rules.specs.State.{Same, State, Plan}
use Rattle.centre_rules.proofs.Marked.{marked_same}
use Rattle.centre_core.specs.Taken.{sum_of, marks_with, Takes, MayTake, Fits, accounts_of, IsFoundFor, IsNoAdopt}
use Rattle.centre_core.proofs.Taking.{few_more}
use Rattle.open_incidents.specs.Marked.{IsFew, marked_table}
use Rattle.incidents.specs.Tables.{TableValue}
use Rattle.centre_core.specs.Kept.{IsReady, IsAdopted, IsSetupOf, CarriesSetup, NoLess, MayRecord, Records, IsCentre}
use Rattle.centre_core.proofs.Ordered.{fits_of}
use Rattle.centre_core.proofs.Owned.{carried_own}
use Rattle.centre_core.proofs.Timely.{carried_timely}

-- the marks of an event are those with the signals that it carries
marks_are : (s : Summary) (e : Event) (at : ℕ) (r : Reply) → marks_of s [] e at r ≡ marks_with (carried_by s [] e at) e at r
marks_are s (Adopt text) at r = refl
marks_are s Start at r = refl
marks_are s (Sent m via) at r = refl
marks_are s (Beat account) at r = refl
marks_are s Tick at r = refl
marks_are s (Claim o n) at r = refl
marks_are s (Next o) at r = refl
marks_are s (Do o n step outcome) at r = refl
marks_are s (Release o n) at r = refl
marks_are s (Close o n code) at r = refl
marks_are s (Show n) at r = refl
marks_are s Rows at r = refl

-- Setups.

adopts_if : (read : Result Setup SetupFault) (r : Reply) → r ≡ if_known (is_ok read) Adopted → is_recorded r ≡ true → IsErr read → ⊥
adopts_if (Ok setup) r e q is = false≢true is
adopts_if (Err fault) r e q is = false≢true (rw e at q)

carries_read : (text : List ℕ) (setup : Option (List ℕ)) (r : Reply) → r ≡ if_known (is_ok (setup_of text)) Adopted → is_recorded r ≡ true → IsSetupOf text setup → (setup ≡ Some text) × IsOk (setup_of text)
carries_read text None r e q is = absurd (adopts_if (setup_of text) r e q is)
carries_read text (Some t) r e q is = (ap Some is.0, is.1)

pub carries_setup : (s : Summary) (e : Event) (at : ℕ) (r : Reply) (setup : Option (List ℕ)) → r ≡ answer_over s [] e at → is_recorded r ≡ true → IsAdopted e setup → CarriesSetup e setup
carries_setup s (Adopt text) at r setup e q is = carries_read text setup r e q is
carries_setup s event at r setup e q is = tt

-- What was worked out can be kept.

pub may_record : (p : Plan) (setup : Option (List ℕ)) (found : FoundAccount) (s t : State) → IsReady p setup found → s.sum ≡ p.of.sum → NoLess p.of.rooms s.rooms → t.entries ≡ s.entries + 1 → t.sum ≡ s.sum → NoLess s.rooms t.rooms
    → s.sum.recorded ≤ s.entries → is_recorded p.reply ≡ true → MayRecord t p.event p.at p.reply setup p.carried
may_record p setup found s t ready sum rooms entries same more few recorded =
    let both : t.sum ≡ p.of.sum = same ∙ sum in
    let room = ready.room recorded in
    record {
      count = omega (arith, few, entries, ap (λ (x : Summary). x.recorded) same);
      moment = ready.sound.moment;
      setup = carries_setup p.of.sum p.event p.at p.reply setup ready.sound.answer recorded ready.adopted;
      worked = record {
        answer = ready.sound.answer ∙ ap (λ (x : Summary). answer_over x [] p.event p.at) (sym both);
        carried = λ q. ready.sound.carried q ∙ ap (λ (x : Summary). carried_by x [] p.event p.at) (sym both);
        few = ready.few;
      };
      recorded = recorded;
      room = record {
        accounts = omega (arith, room.accounts, rooms.accounts, more.accounts, ap (λ (x : Summary). length (lacking x.rows (accounts_of p.event p.carried))) both);
        incidents = omega (arith, room.incidents, rooms.incidents, more.incidents, ap (λ (x : Summary). length x.incidents) both);
      };
    }

-- and the account that was looked up is found there still
pub found_still : (p : Plan) (setup : Option (List ℕ)) (found : FoundAccount) (s t : State) → IsReady p setup found → s.sum ≡ p.of.sum → t.sum ≡ s.sum
    → is_recorded p.reply ≡ true → IsFoundFor p.event found t.sum.text t.sum.rows
found_still p setup found s t ready sum same recorded =
    subst (λ (x : Summary). IsFoundFor p.event found x.text x.rows) (sym (same ∙ sum)) (ready.looked_up recorded)

-- Taken up.

pub no_adopt : (e : Event) → ((text : List ℕ) → e ≡ Adopt text → ⊥) → IsNoAdopt e
no_adopt (Adopt text) other = other text refl
no_adopt event other = tt

pub may_take : (s : State) (e : Event) (at : ℕ) (r : Reply) (setup : Option (List ℕ)) (xs : List Carried) (v : RowsValue) (t : TableValue) (entries last recorded : ℕ) (text : Option (List ℕ))
    → MayRecord s e at r setup xs → s.sum ≡ sum_of last recorded text v t → s.rooms ≡ record { incidents = t.room; accounts = v.room } → IsCentre entries recorded last text t → MayTake e at r xs v t
may_take s e at r setup xs v t entries last recorded text may sum rooms kept = record {
  bound = few_more (recorded * 4000) (2 ^ 61) t.opened t.incidents (omega (arith, kept.few, kept.bound)) kept.counts;
  acts = kept.acts;
  few = may.worked.few;
  moments = carried_timely s.sum e at xs may.moment (may.worked.carried may.recorded);
  own = carried_own s.sum e at xs (may.worked.carried may.recorded);
  accounts = omega (arith, may.room.accounts, ap (λ x. x.accounts) rooms, ap (λ (x : Summary). length (lacking x.rows (accounts_of e xs))) sum);
  incidents = omega (arith, may.room.incidents, ap (λ x. x.incidents) rooms, ap (λ (x : Summary). length x.incidents) sum);
  fits = subst (λ (x : Summary). Fits e at r x.incidents) sum (fits_of s.sum e at r may.worked.answer);
}

-- what a recorded event that is no Adopt leaves
pub records_taken : (s t : State) (e : Event) (at : ℕ) (r : Reply) (setup : Option (List ℕ)) (xs : List Carried) (v w : RowsValue) (b c : TableValue) (last recorded : ℕ) (text : Option (List ℕ))
    → MayRecord s e at r setup xs → s.sum ≡ sum_of last recorded text v b → t.entries ≡ s.entries → t.sum ≡ sum_of at (recorded + 1) text w c
    → Takes (marks_with xs e at r) v w b c → Records s t e at r
records_taken s t e at r setup xs v w b c last recorded text may before entries after takes =
    let marks : marks_with xs e at r ≡ marks_of s.sum [] e at r = ap (λ (ys : List Carried). marks_with ys e at r) (may.worked.carried may.recorded) ∙ sym (marks_are s.sum e at r) in
    record {
      entries = entries;
      recorded = ap (λ (x : Summary). x.recorded) after ∙ ap (λ (x : Summary). x.recorded + 1) (sym before);
      last = ap (λ (x : Summary). x.last) after;
      same = rw (after) (subst (λ (x : Summary). Same (sum_of at (recorded + 1) text w c) [] x (onto (marks_of s.sum [] e at r) [])) (sym before)
          (subst (λ (ms : List Mark). Same (sum_of at (recorded + 1) text w c) [] (sum_of last recorded text v b) (onto ms [])) marks (takes.same last recorded at (recorded + 1) text)));
    }

-- what a recorded Adopt leaves

pub records_adopted : (s t : State) (new : List ℕ) (at : ℕ) (r : Reply) (setup : Option (List ℕ)) (xs : List Carried) (v : RowsValue) (b c : TableValue) (last recorded : ℕ) (text : Option (List ℕ))
    → MayRecord s (Adopt new) at r setup xs → c ≡ marked_table (Adopts new) b → s.sum ≡ sum_of last recorded text v b → t.entries ≡ s.entries
    → t.sum ≡ sum_of at (recorded + 1) setup v c → Records s t (Adopt new) at r
records_adopted s t new at r setup xs v b c last recorded text may table before entries after = record {
  entries = entries;
  recorded = ap (λ (x : Summary). x.recorded) after ∙ ap (λ (x : Summary). x.recorded + 1) (sym before);
  last = ap (λ (x : Summary). x.last) after;
  same = rw (after, before, may.setup.0) (marked_same (Adopts new) (sum_of last recorded text v b) (sum_of at (recorded + 1) (Some new) v c) (record {
    text = refl;
    start = refl;
    opened = ap (λ (y : TableValue). y.opened) table;
    incidents = ap (λ (y : TableValue). y.incidents) table;
    rows = λ a. refl;
    heard = λ a. refl;
    failed = λ a. refl;
    opening = λ a. refl;
    recent = λ a. refl;
  }));
}

-- the setup in force is valid then
pub valid_adopted : (setup : Option (List ℕ)) (new : List ℕ) → CarriesSetup (Adopt new) setup → IfSome setup (λ x. IsOk (setup_of x))
valid_adopted setup new w = subst (λ (o : Option (List ℕ)). IfSome o (λ x. IsOk (setup_of x))) (sym w.0) w.1

pub counts_up : (recorded opened : ℕ) (is : List Incident) → IsFew (recorded * 4000) opened is → IsFew ((recorded + 1) * 4000) opened is
counts_up recorded opened is w = few_more (recorded * 4000) ((recorded + 1) * 4000) opened is (omega arith) w

pub counts_taken : (recorded opened : ℕ) (is : List Incident) → IsFew (recorded * 4000 + 4000) opened is → IsFew ((recorded + 1) * 4000) opened is
counts_taken recorded opened is w = few_more (recorded * 4000 + 4000) ((recorded + 1) * 4000) opened is (omega arith) w
