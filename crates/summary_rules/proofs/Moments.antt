-- No moment of a summary is later than its last one, and the text in force is a setup.
use Rattle.std.proofs.Common.{◌≡◌, ◌≤◌, ℕ, ◌+◌, List, [], ◌∷◌, ◌++◌, Bool, true, false, cond, Option, Some, None, refl, sym, arith, subst}
use Rattle.std.specs.Prelude.{IsOk, ◌==◌, ◌&&◌, is_some, not}
use Rattle.std.specs.List.{find}
use Rattle.std.specs.Option.{option_map}
use Rattle.std.specs.Str.{bytes_eq}
use Rattle.arc_data.specs.declared.incident.Incident.{Incident}
use Rattle.arc_data.specs.declared.incident.Opened.{Opened}
use Rattle.arc_data.specs.declared.signal.Class.TheVariants.{LateClose}
use Rattle.arc_data.specs.declared.signal.Kind.{Kind}
use Rattle.arc_data.specs.declared.signal.Kind.TheVariants.{Opening, Closing}
use Rattle.arc_data.specs.declared.step.Acted.{Acted}
use Rattle.alarm_rules.specs.Setups.{setup_of}
use Rattle.centre_rules.specs.Summary.{Summary, AccountRow, Past, row_or}
use Rattle.centre_rules.specs.Marks.{Mark, Adopts, Starts, Sends, Hears, Carries, Claims, Acts, Releases, Closes, text, start, heard, opening, messages, opening_by, now_late, is_raised}
use Rattle.centre_rules.specs.Cases.{incidents, opened, opens, fresh}
use Rattle.centre_rules.specs.Standing.{standing}
use Rattle.centre_rules.specs.Tables.{touched_by, table_after, with_opened, without_closed}
use Rattle.centre_rules.specs.History.{Entry, marks, last}
use Rattle.centre_rules.specs.Answers.{IsLegal}
use Rattle.centre_rules.specs.Sums.{account_row, names}
use Rattle.centre_rules.proofs.Steps.{incidents_begin, incidents_step}
use Rattle.summary_rules.specs.Lists.{Every}
use Rattle.summary_rules.specs.Fields.{Given}
use Rattle.summary_rules.specs.Conditions.{HasRowBy, HasIncidentBy, AreMomentsBy}
use Rattle.summary_rules.specs.Laws.{MomentsStay, SetupsStay}
use Rattle.summary_rules.proofs.Everies.{every_weaker, every_append, every_take, every_made, every_filter, every_map}
use Rattle.summary_rules.proofs.Fine.{IsFine}
use Rattle.summary_rules.proofs.Keeping.{IsKept, kept}

-- Values that may lack, and numbers.

same_le : (a b : ℕ) → a ≡ b → a ≤ b
same_le a b e = omega (arith, e)

zero_le : (n : ℕ) → 0 ≤ n
zero_le n = omega arith

pub given_weaker : {A : Type 0} (P Q : A → Type 0) → ((x : A) → P x → Q x) → (o : Option A) → Given P o → Given Q o
given_weaker P Q f None w = tt
given_weaker P Q f (Some x) w = f x w

given_if : {A : Type 0} (P : A → Type 0) (b : Bool) (x o : Option A) → Given P x → Given P o → Given P (cond b x o)
given_if P true x o v w = v
given_if P false x o v w = w

-- What is told of accounts, and of incidents.

abbrev UpTo : ℕ → ℕ → Type 0
UpTo last at = at ≤ last

abbrev OpenedBy : ℕ → Opened → Type 0
OpenedBy last o = o.at ≤ last

abbrev PastBy : ℕ → Past → Type 0
PastBy last p = p.at ≤ last

record IsBy (s : Summary) (ms : List Mark) (at : ℕ) : Type 0 where
  started : Given (UpTo at) (start s ms)
  hears : (a : List ℕ) → Given (UpTo at) (heard s ms a)
  opens_by : (a : List ℕ) → Given (OpenedBy at) (opening s ms a)
  sends : (a : List ℕ) → Every (PastBy at) (messages s ms a)
  table : Every (HasIncidentBy at) (incidents s ms)

incident_later : (low at : ℕ) → low ≤ at → (i : Incident) → HasIncidentBy low i → HasIncidentBy at i
incident_later low at le i w = record {
  at = omega (arith, w.at, le);
  touched = omega (arith, w.touched, le);
  acts = every_weaker (λ (a : Acted). a.at ≤ low) (λ (a : Acted). a.at ≤ at) (λ a p. omega (arith, p, le)) i.acts w.acts;
}

by_later : (s : Summary) (ms : List Mark) (low at : ℕ) → low ≤ at → IsBy s ms low → IsBy s ms at
by_later s ms low at le w = record {
  started = given_weaker (UpTo low) (UpTo at) (λ t p. omega (arith, p, le)) (start s ms) w.started;
  hears = λ a. given_weaker (UpTo low) (UpTo at) (λ t p. omega (arith, p, le)) (heard s ms a) (w.hears a);
  opens_by = λ a. given_weaker (OpenedBy low) (OpenedBy at) (λ o p. omega (arith, p, le)) (opening s ms a) (w.opens_by a);
  sends = λ a. every_weaker (PastBy low) (PastBy at) (λ q p. omega (arith, p, le)) (messages s ms a) (w.sends a);
  table = every_weaker (HasIncidentBy low) (HasIncidentBy at) (incident_later low at le) (incidents s ms) w.table;
}

-- Openings.

late_by : (at : ℕ) (o : Option Opened) → Given (OpenedBy at) o → Given (OpenedBy at) (option_map now_late o)
late_by at None w = tt
late_by at (Some o) w = w

late_if : (at : ℕ) (b : Bool) (o : Option Opened) → Given (OpenedBy at) o → Given (OpenedBy at) (cond b (option_map now_late o) o)
late_if at true o w = late_by at o w
late_if at false o w = w

opening_by_moment : (at moment : ℕ) (kind : Kind) (late : Bool) (o : Option Opened) → moment ≤ at → Given (OpenedBy at) o → Given (OpenedBy at) (opening_by kind moment late o)
opening_by_moment at moment Opening late o le w = le
opening_by_moment at moment Closing late o le w = tt
opening_by_moment at moment kind late o le w = late_if at late o w

opening_if : (at moment : ℕ) (b : Bool) (kind : Kind) (late : Bool) (o : Option Opened) → moment ≤ at → Given (OpenedBy at) o → Given (OpenedBy at) (cond b (opening_by kind moment late o) o)
opening_if at moment true kind late o le w = opening_by_moment at moment kind late o le w
opening_if at moment false kind late o le w = w

-- Messages.

sends_if : (at : ℕ) (b : Bool) (p : Past) (ps : List Past) → p.at ≤ at → Every (PastBy at) ps → Every (PastBy at) (cond b (p ∷ ps) ps)
sends_if at true p ps le w = (le, w)
sends_if at false p ps le w = w

-- Incidents.

pub every_more : {A : Type 0} (P : A → Type 0) (b : Bool) (xs : List A) (x : A) → Every P xs → P x → Every P (cond b (xs ++ x ∷ []) xs)
every_more P true xs x w p = every_append P xs (x ∷ []) w (p, tt)
every_more P false xs x w p = w

-- what has to be known of an incident that the mark opens
abbrev pub NewIs : (Incident → Type 0) → Mark → ℕ → List Incident → Type 0
NewIs P (Carries x) opened is = opens x is ≡ true → P (fresh (opened + 1) x)
NewIs P m opened is = Unit {0}

new_more : (P : Incident → Type 0) (b : Bool) (is : List Incident) (i : Incident) → Every P is → (b ≡ true → P i) → Every P (cond b (is ++ i ∷ []) is)
new_more P true is i w p = every_append P is (i ∷ []) w (p refl, tt)
new_more P false is i w p = w

pub with_new : (P : Incident → Type 0) (m : Mark) (opened : ℕ) (is : List Incident) → Every P is → NewIs P m opened is → Every P (with_opened m opened is)
with_new P (Carries x) opened is w p = new_more P (opens x is) is (fresh (opened + 1) x) w p
with_new P m opened is w p = w

without_one : (P : Incident → Type 0) (m : Mark) (is : List Incident) → Every P is → Every P (without_closed m is)
without_one P (Closes number) is w = every_filter P (λ i. not (i.number == number)) is w
without_one P m is w = w

-- what a mark keeps of each incident, all that are open after it have
pub every_table : (P Q : Incident → Type 0) (m : Mark) (opened : ℕ) (is : List Incident) → Every P is → NewIs P m opened is → ((i : Incident) → P i → Q (touched_by m i)) → Every Q (table_after m opened is)
every_table P Q m opened is w p f = without_one Q m _ (every_map P Q (touched_by m) f (with_opened m opened is) (with_new P m opened is w p))

touched_if : (b : Bool) (at x y : ℕ) → x ≤ at → y ≤ at → cond b x y ≤ at
touched_if true at x y p q = p
touched_if false at x y p q = q

acts_if : (b : Bool) (at : ℕ) (a : Acted) (acts : List Acted) → a.at ≤ at → Every (λ (x : Acted). x.at ≤ at) acts → Every (λ (x : Acted). x.at ≤ at) (cond b (acts ++ a ∷ []) acts)
acts_if b at a acts le w = every_more (λ (x : Acted). x.at ≤ at) b acts a w le

incident_by : (stood : List Incident) (at : ℕ) (m : Mark) (i : Incident) → IsFine stood at m → HasIncidentBy at i → HasIncidentBy at (touched_by m i)
incident_by stood at (Claims operator number moment) i fine w = record { at = w.at; touched = touched_if (i.number == number) at moment i.touched (same_le moment at fine.moment_is) w.touched; acts = w.acts }
incident_by stood at (Acts number acted) i fine w = record {
  at = w.at;
  touched = touched_if ((i.number == number) && is_some i.holder) at acted.at i.touched (same_le acted.at at fine.moment_is) w.touched;
  acts = acts_if (i.number == number) at acted i.acts (same_le acted.at at fine.moment_is) w.acts;
}
incident_by stood at (Releases number) i fine w = record { at = w.at; touched = touched_if (i.number == number) at 0 i.touched (zero_le at) w.touched; acts = w.acts }
incident_by stood at (Closes number) i fine w = record { at = w.at; touched = touched_if (i.number == number) at 0 i.touched (zero_le at) w.touched; acts = w.acts }
incident_by stood at (Adopts text) i fine w = record { at = w.at; touched = zero_le at; acts = w.acts }
incident_by stood at (Starts moment) i fine w = record { at = w.at; touched = zero_le at; acts = w.acts }
incident_by stood at m i fine w = record { at = w.at; touched = w.touched; acts = w.acts }

new_by : (at : ℕ) (m : Mark) (opened : ℕ) (is stood : List Incident) → IsFine stood at m → NewIs (HasIncidentBy at) m opened is
new_by at (Carries x) opened is stood fine = λ _. record { at = same_le x.at at fine.moment_is; touched = zero_le at; acts = tt }
new_by at m opened is stood fine = tt

table_by : (s : Summary) (ms : List Mark) (at : ℕ) (m : Mark) → IsFine (standing s ms at) at m → Every (HasIncidentBy at) (incidents s ms) → Every (HasIncidentBy at) (incidents s (m ∷ ms))
table_by s ms at m fine w =
    subst (Every (HasIncidentBy at)) (sym (incidents_step s m ms))
    (every_table (HasIncidentBy at) (HasIncidentBy at) m (opened s ms) (incidents s ms) w (new_by at m (opened s ms) (incidents s ms) (standing s ms at) fine) (λ i p. incident_by (standing s ms at) at m i fine p))

-- One mark more.

by_mark : (s : Summary) (ms : List Mark) (at : ℕ) (m : Mark) → IsFine (standing s ms at) at m → IsBy s ms at → IsBy s (m ∷ ms) at
by_mark s ms at (Starts moment) fine w = record {
  started = same_le moment at fine;
  hears = λ a. same_le moment at fine;
  opens_by = w.opens_by;
  sends = w.sends;
  table = table_by s ms at (Starts moment) fine w.table;
}
by_mark s ms at (Sends m moment) fine w = record {
  started = w.started;
  hears = λ a. given_if (UpTo at) (bytes_eq m.account a) (Some moment) (heard s ms a) (same_le moment at fine.moment_is) (w.hears a);
  opens_by = w.opens_by;
  sends = λ a. sends_if at (bytes_eq m.account a) (record { message = m; at = moment }) (messages s ms a) (same_le moment at fine.moment_is) (w.sends a);
  table = table_by s ms at (Sends m moment) fine w.table;
}
by_mark s ms at (Hears account moment) fine w = record {
  started = w.started;
  hears = λ a. given_if (UpTo at) (bytes_eq account a) (Some moment) (heard s ms a) (same_le moment at fine.moment_is) (w.hears a);
  opens_by = w.opens_by;
  sends = w.sends;
  table = table_by s ms at (Hears account moment) fine w.table;
}
by_mark s ms at (Carries x) fine w = record {
  started = w.started;
  hears = w.hears;
  opens_by = λ a. opening_if at x.at (bytes_eq x.account a) x.signal.kind (is_raised a LateClose x) (opening s ms a) (same_le x.at at fine.moment_is) (w.opens_by a);
  sends = w.sends;
  table = table_by s ms at (Carries x) fine w.table;
}
by_mark s ms at m fine w = record { started = w.started; hears = w.hears; opens_by = w.opens_by; sends = w.sends; table = table_by s ms at m fine w.table }

-- The beginning.

record IsRowBy (last : ℕ) (r : AccountRow) : Type 0 where
  hears : Given (UpTo last) r.heard
  opens_by : Given (OpenedBy last) r.opening
  sends : Every (PastBy last) r.messages

row_by : (last : ℕ) (rows : List AccountRow) (a : List ℕ) (start : Option ℕ) → Given (UpTo last) start → Every (HasRowBy last) rows
    → IsRowBy last (row_or (find (λ r. bytes_eq r.account a) rows) a start)
row_by last [] a start w v = record { hears = w; opens_by = tt; sends = tt }
row_by last (r ∷ rows) a start w v = by (bytes_eq r.account a) (row_by last rows a start w v.1)
  where
    by : (b : Bool) → IsRowBy last (row_or (find (λ r. bytes_eq r.account a) rows) a start) → IsRowBy last (row_or (cond b (Some r) (find (λ r. bytes_eq r.account a) rows)) a start)
    by true next = record { hears = v.0.heard; opens_by = v.0.opening; sends = v.0.messages }
    by false next = next

begins_by : (s : Summary) → AreMomentsBy s → IsBy s [] s.last
begins_by s w = record {
  started = w.start;
  hears = λ a. (row_by s.last s.rows a s.start w.start w.rows).hears;
  opens_by = λ a. (row_by s.last s.rows a s.start w.start w.rows).opens_by;
  sends = λ a. (row_by s.last s.rows a s.start w.start w.rows).sends;
  table = subst (Every (HasIncidentBy s.last)) (sym (incidents_begin s)) w.incidents;
}

by_kept : (s : Summary) → IsKept s (IsBy s)
by_kept s = record { later = by_later s; mark = by_mark s }

by_all : (s : Summary) (h : List Entry) → AreMomentsBy s → IsLegal s h → IsBy s (marks s h) (last s h)
by_all s h w legal = kept s (by_kept s) (begins_by s w) h legal

pub moments_stay : MomentsStay
moments_stay s h w legal =
    let b = by_all s h w legal in
    record {
      start = b.started;
      rows = every_made (HasRowBy (last s h)) (account_row s (marks s h))
          (λ a. record { heard = b.hears a; opening = b.opens_by a; messages = every_take (PastBy (last s h)) 32 (messages s (marks s h) a) (b.sends a) })
          (names s (marks s h));
      incidents = b.table;
    }

-- no message of an account is later
pub messages_by : (s : Summary) (h : List Entry) → AreMomentsBy s → IsLegal s h → (a : List ℕ) → Every (λ (p : Past). p.at ≤ last s h) (messages s (marks s h) a)
messages_by s h w legal a = (by_all s h w legal).sends a

-- The setup in force.

abbrev IsSetup : List ℕ → Type 0
IsSetup text = IsOk (setup_of text)

abbrev HasSetup : Summary → List Mark → ℕ → Type 0
HasSetup s ms at = Given IsSetup (text s ms)

setup_mark : (s : Summary) (ms : List Mark) (at : ℕ) (m : Mark) → IsFine (standing s ms at) at m → HasSetup s ms at → HasSetup s (m ∷ ms) at
setup_mark s ms at (Adopts text) fine w = fine.setup
setup_mark s ms at m fine w = w

pub setups_stay : SetupsStay
setups_stay s h w legal = kept {J = HasSetup s} s (record { later = λ ms low at le p. p; mark = setup_mark s }) w h legal
