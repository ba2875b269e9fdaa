-- Marks taken up in place.
use Rattle.std.proofs.Common.{◌≡◌, ◌<◌, ◌≤◌, ◌^◌, ℕ, zero, suc, ◌+◌, drop, get_or, List, [], ◌∷◌, ◌++◌, map, length, take, Bool, true, false, cond, refl, sym, ap, ◌∙◌, Option, arith, subst, length-append, inl, inr}
use Rattle.std.specs.Prelude.{◌⊎◌, not}
use Rattle.std.proofs.lemmas.List.Elements.{filter-append}
use Rattle.centre_rules.specs.Summary.{AccountRow}
use Rattle.std.proofs.lemmas.List.{take_all, length-map, map-append}
use Rattle.arc_data.specs.Incidents.{Each}
use Rattle.arc_data.specs.declared.event.Event.{Event}
use Rattle.arc_data.specs.declared.event.Event.TheVariants.{Show, List as Rows}
use Rattle.arc_data.specs.declared.event.Message.{Message}
use Rattle.arc_data.specs.declared.incident.Incident.{Incident}
use Rattle.arc_data.specs.declared.reply.Reply.{Reply}
use Rattle.arc_data.specs.declared.reply.Reply.TheVariants.{Claimed, Recorded, Released, Closed}
use Rattle.arc_data.specs.declared.signal.Class.{Class}
use Rattle.arc_data.specs.declared.step.Acted.{Acted}
use Rattle.known_accounts.specs.Rows.{RowsValue, Marked, lacking}
use Rattle.centre_rules.specs.Marks.{Mark, Sends, Hears, Carries, Claims, Acts, Releases, Closes, Carried, has_row, text_at}
use Rattle.centre_rules.specs.Cases.{opens, fresh}
use Rattle.centre_rules.specs.Tables.{touched_by, opened_after, table_after}
use Rattle.centre_rules.specs.History.{onto, claim_marks, act_marks, release_marks, close_marks}
use Rattle.centre_rules.specs.State.{Same, IsMarked}
use Rattle.centre_rules.proofs.Marked.{marked_same, marked_more}
use Rattle.centre_rules.proofs.Sames.{same_trans, same_onto}
use Rattle.open_incidents.specs.Marked.{IsFew, HasFew, HaveActRoom, marked_table}
use Rattle.incidents.specs.Tables.{TableValue}
use Rattle.centre_core.specs.Taken.{sum_of, Takes, marks_with}

-- One mark.

pub is_marked : (m : Mark) (v w : RowsValue) (t u : TableValue) (l r k q : ℕ) (text : Option (List ℕ)) → text_at m text ≡ text → Marked m v w
    → u.opened ≡ opened_after m t.opened t.incidents → u.incidents ≡ table_after m t.opened t.incidents → IsMarked m (sum_of l r text v t) (sum_of k q text w u)
is_marked m v w t u l r k q text keeps rows opened incidents = record {
  text = sym keeps;
  start = rows.start;
  rows = rows.rows;
  opened = opened;
  incidents = incidents;
  heard = rows.heard;
  failed = rows.failed;
  opening = rows.opening;
  recent = rows.recent;
}

few_up : (n k : ℕ) (is : List Incident) → n ≤ k → Each (λ i. i.signals ≤ n) is → Each (λ i. i.signals ≤ k) is
few_up n k [] le w = tt
few_up n k (i ∷ is) le w = (omega (arith, w.0, le), few_up n k is le w.1)

pub few_more : (n k opened : ℕ) (is : List Incident) → n ≤ k → IsFew n opened is → IsFew k opened is
few_more n k opened is le w = record { opened = omega (arith, w.opened, le); signals = few_up n k is le w.signals }

pub one_taken : (m : Mark) (v w : RowsValue) (t u : TableValue) → ((text : Option (List ℕ)) → text_at m text ≡ text) → Marked m v w
    → u.opened ≡ opened_after m t.opened t.incidents → u.incidents ≡ table_after m t.opened t.incidents
    → ((n : ℕ) → IsFew n t.opened t.incidents → IsFew n u.opened u.incidents) → (HaveActRoom t.incidents → HaveActRoom u.incidents) → Takes (m ∷ []) v w t u
one_taken m v w t u keeps rows opened incidents few acts = record {
  same = λ l r k q text. marked_same m _ _ (is_marked m v w t u l r k q text (keeps text) rows opened incidents);
  few = λ n x. few_more n (n + 4000) u.opened u.incidents (omega arith) (few n x);
  acts = acts;
}

-- a mark of the table alone
pub table_taken : (m : Mark) (v : RowsValue) (t u : TableValue) → ((text : Option (List ℕ)) → text_at m text ≡ text) → Marked m v v → u ≡ marked_table m t
    → ((n : ℕ) → IsFew n t.opened t.incidents → IsFew n u.opened u.incidents) → (HaveActRoom t.incidents → HaveActRoom u.incidents) → Takes (m ∷ []) v v t u
table_taken m v t u keeps rows e few acts = one_taken m v v t u keeps rows (ap (λ (y : TableValue). y.opened) e) (ap (λ (y : TableValue). y.incidents) e) few acts

-- no mark
same_sums : (l r k q : ℕ) (text : Option (List ℕ)) (v : RowsValue) (t : TableValue) → Same (sum_of k q text v t) [] (sum_of l r text v t) []
same_sums l r k q text v t = record { text = refl; start = refl; opened = refl; incidents = refl; rows = λ a. refl; heard = λ a. refl; failed = λ a. refl; opening = λ a. refl; recent = λ a. refl }

pub none_taken : (v : RowsValue) (t : TableValue) → Takes [] v v t t
none_taken v t = record {
  same = λ l r k q text. same_sums l r k q text v t;
  few = λ n x. few_more n (n + 4000) t.opened t.incidents (omega arith) x;
  acts = λ x. x;
}

-- a mark of the rows leaves the table

pub map_same : (m : Mark) → ((i : Incident) → touched_by m i ≡ i) → (is : List Incident) → map (touched_by m) is ≡ is
map_same m same [] = refl
map_same m same (i ∷ is) = λ k. same i k ∷ map_same m same is k

pub sent_same : (message : Message) (at : ℕ) (is : List Incident) → map (touched_by (Sends message at)) is ≡ is
sent_same message at is = map_same (Sends message at) (λ i. refl) is

pub heard_same : (account : List ℕ) (at : ℕ) (is : List Incident) → map (touched_by (Hears account at)) is ≡ is
heard_same account at is = map_same (Hears account at) (λ i. refl) is

-- a mark of the table leaves the rows

pub rows_claims : (o : List ℕ) (n at : ℕ) (v : RowsValue) → Marked (Claims o n at) v v
rows_claims o n at v = record { start = refl; rows = λ a. refl; heard = λ a. refl; failed = λ a. refl; opening = λ a. refl; recent = λ a. refl }

pub rows_acts : (n : ℕ) (a : Acted) (v : RowsValue) → Marked (Acts n a) v v
rows_acts n a v = record { start = refl; rows = λ b. refl; heard = λ b. refl; failed = λ b. refl; opening = λ b. refl; recent = λ b. refl }

pub rows_releases : (n : ℕ) (v : RowsValue) → Marked (Releases n) v v
rows_releases n v = record { start = refl; rows = λ a. refl; heard = λ a. refl; failed = λ a. refl; opening = λ a. refl; recent = λ a. refl }

pub rows_closes : (n : ℕ) (v : RowsValue) → Marked (Closes n) v v
rows_closes n v = record { start = refl; rows = λ a. refl; heard = λ a. refl; failed = λ a. refl; opening = λ a. refl; recent = λ a. refl }

-- Signals.

pub onto_last : (xs : List Mark) (m : Mark) (ms : List Mark) → onto (xs ++ m ∷ []) ms ≡ m ∷ onto xs ms
onto_last [] m ms = refl
onto_last (x ∷ xs) m ms = onto_last xs m (x ∷ ms)

length_if : (x : Carried) (opened : ℕ) (is : List Incident) (b : Bool) → length (cond b (is ++ fresh (opened + 1) x ∷ []) is) ≤ length is + 1
length_if x opened is true = omega (arith, length-append is (fresh (opened + 1) x ∷ []))
length_if x opened is false = omega arith

pub length_carries : (x : Carried) (opened : ℕ) (is : List Incident) → length (table_after (Carries x) opened is) ≤ length is + 1
length_carries x opened is = omega (arith, length-map (cond (opens x is) (is ++ fresh (opened + 1) x ∷ []) is) (touched_by (Carries x)), length_if x opened is (opens x is))

few_each : (n : ℕ) (is : List Incident) → n < 2 ^ 62 → Each (λ i. i.signals ≤ n) is → HasFew is
few_each n [] lt w = tt
few_each n (i ∷ is) lt w = (omega (arith, w.0, lt), few_each n is lt w.1)

pub few_signals : (n opened : ℕ) (is : List Incident) → n < 2 ^ 62 → IsFew n opened is → HasFew is
few_signals n opened is lt w = few_each n is lt w.signals

-- so many of the signals are taken up
pub record CarriesSome (n : ℕ) (xs : List Carried) (v w : RowsValue) (t u : TableValue) : Type 0 where
  pub same : (l r k q : ℕ) (text : Option (List ℕ)) → Same (sum_of k q text w u) [] (sum_of l r text v t) (onto (map Carries (take n xs)) [])
  pub few : (m : ℕ) → IsFew m t.opened t.incidents → IsFew (m + n) u.opened u.incidents
  pub acts : HaveActRoom t.incidents → HaveActRoom u.incidents
  pub incidents : length u.incidents + length xs ≤ u.room + n

pub carries_none : (xs : List Carried) (v : RowsValue) (t : TableValue) → length t.incidents + length xs ≤ t.room → CarriesSome 0 xs v v t t
carries_none xs v t incidents = record {
  same = λ l r k q text. same_sums l r k q text v t;
  few = λ m x. few_more m (m + 0) t.opened t.incidents (omega arith) x;
  acts = λ x. x;
  incidents = omega (arith, incidents);
}

pub carries_more : (n : ℕ) (xs : List Carried) (x : Carried) (v w w' : RowsValue) (t u u' : TableValue) → CarriesSome n xs v w t u → take (n + 1) xs ≡ take n xs ++ x ∷ []
    → Marked (Carries x) w w' → u' ≡ marked_table (Carries x) u
    → ((m : ℕ) → IsFew m u.opened u.incidents → IsFew (m + 1) u'.opened u'.incidents) → (HaveActRoom u.incidents → HaveActRoom u'.incidents) → CarriesSome (n + 1) xs v w' t u'
carries_more n xs x v w w' t u u' before next rows table few acts = record {
  same = λ l r k q text.
      subst (λ (ms : List Mark). Same (sum_of k q text w' u') [] (sum_of l r text v t) ms)
      (sym (ap (λ (ys : List Carried). onto (map Carries ys) []) next ∙ ap (λ (ms : List Mark). onto ms []) (map-append Carries (take n xs) (x ∷ [])) ∙ onto_last (map Carries (take n xs)) (Carries x) []))
      (marked_more (Carries x) _ (sum_of l r text w u) _ _ (before.same l r l r text)
      (is_marked (Carries x) w w' u u' l r k q text refl rows (ap (λ (y : TableValue). y.opened) table) (ap (λ (y : TableValue). y.incidents) table)));
  few = λ m y. few_more (m + n + 1) (m + (n + 1)) u'.opened u'.incidents (omega arith) (few (m + n) (before.few m y));
  acts = λ y. acts (before.acts y);
  incidents = omega (arith, before.incidents, ap (λ (y : TableValue). length y.incidents) table, ap (λ (y : TableValue). y.room) table, length_carries x u.opened u.incidents);
}

pub carries_all : (n : ℕ) (xs : List Carried) (v w : RowsValue) (t u : TableValue) → length xs ≤ n → n ≤ 4000 → CarriesSome n xs v w t u → Takes (map Carries xs) v w t u
carries_all n xs v w t u all le c = record {
  same = λ l r k q text. subst (λ (ys : List Carried). Same (sum_of k q text w u) [] (sum_of l r text v t) (onto (map Carries ys) [])) (take_all n xs all) (c.same l r k q text);
  few = λ m x. few_more (m + n) (m + 4000) u.opened u.incidents (omega (arith, le)) (c.few m x);
  acts = c.acts;
}

-- the signals from a place on: first that at the place
pub drop_next : (xs : List Carried) (n : ℕ) (d : Carried) → n < length xs → drop n xs ≡ get_or xs n d ∷ drop (n + 1) xs
drop_next [] n d lt = absurd (omega (arith, lt))
drop_next (y ∷ ys) zero d lt = refl
drop_next (y ∷ ys) (suc n) d lt =
    let up : suc (n + 1) ≡ suc n + 1 = omega arith in
    drop_next ys n d (omega (arith, lt)) ∙ ap (λ k. get_or ys n d ∷ drop k (y ∷ ys)) up

-- how many rows lack for one signal more
pub lacking_more : (rs : List AccountRow) (xs ys : List Carried) (x : Carried) → ys ≡ xs ++ x ∷ []
    → length (lacking rs (map (λ (x : Carried). x.account) ys)) ≡ length (lacking rs (map (λ (x : Carried). x.account) xs)) + length (lacking rs (x.account ∷ []))
lacking_more rs xs ys x next =
    let number : Carried → List ℕ = λ x. x.account in
    ap (λ l. length (lacking rs (map number l))) next ∙ ap (λ l. length (lacking rs l)) (map-append number xs (x ∷ []))
    ∙ ap length (filter-append (λ a. not (has_row rs a)) (map number xs) (x.account ∷ []))
    ∙ length-append (lacking rs (map number xs)) (lacking rs (x.account ∷ []))

-- A message, and then its signals.

pub sent_taken : (message : Message) (at : ℕ) (xs : List Carried) (v w w' : RowsValue) (t u : TableValue) → Marked (Sends message at) v w → Takes (map Carries xs) w w' t u → Takes (Sends message at ∷ map Carries xs) v w' t u
sent_taken message at xs v w w' t u rows carried = record {
  same = λ l r k q text.
      let first = marked_same (Sends message at) (sum_of l r text v t) (sum_of l r text w t) (is_marked (Sends message at) v w t t l r l r text refl rows refl (sym (sent_same message at t.incidents))) in
      same_trans (carried.same l r k q text) (same_onto (map Carries xs) first);
  few = carried.few;
  acts = carried.acts;
}

-- Replies that leave no mark.

pub claim_other : (o : List ℕ) (at : ℕ) (r : Reply) → ((number : ℕ) (class : Class) (account : List ℕ) → r ≡ Claimed number class account → ⊥) → claim_marks o at r ≡ []
claim_other o at (Claimed number class account) neither = absurd (neither number class account refl)
claim_other o at r neither = refl

pub act_other : (a : Acted) (r : Reply) → ((number left : ℕ) → r ≡ Recorded number left → ⊥) → act_marks a r ≡ []
act_other a (Recorded number left) neither = absurd (neither number left refl)
act_other a r neither = refl

pub release_other : (r : Reply) → ((number : ℕ) → r ≡ Released number → ⊥) → release_marks r ≡ []
release_other (Released number) neither = absurd (neither number refl)
release_other r neither = refl

pub close_other : (r : Reply) → ((number : ℕ) → r ≡ Closed number → ⊥) → close_marks r ≡ []
close_other (Closed number) neither = absurd (neither number refl)
close_other r neither = refl

pub asked_none : (xs : List Carried) (e : Event) (at : ℕ) (r : Reply) → ((number : ℕ) × (e ≡ Show number)) ⊎ (e ≡ Rows) → marks_with xs e at r ≡ []
asked_none xs e at r (inl (number, is)) = rw is refl
asked_none xs e at r (inr is) = rw is refl

pub none_by : (ms : List Mark) (v : RowsValue) (t : TableValue) → ms ≡ [] → Takes ms v v t t
none_by ms v t e = rw e (none_taken v t)
