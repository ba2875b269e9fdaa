-- A recorded entry raises no count by more than 4,000.
use Rattle.std.proofs.Common.{◌≡◌, ◌≤◌, ℕ, ◌+◌, ◌*◌, List, [], ◌∷◌, ◌++◌, length, Bool, true, false, cond, Option, Some, None, refl, arith, leb, length-append}
use Rattle.std.specs.Prelude.{◌&&◌, if◌then◌else◌, option_and_then, unwrap_or}
use Rattle.std.specs.List.{filter, filter_map, flat_map}
use Rattle.std.specs.Option.{option_map}
use Rattle.std.specs.Result.{result_ok}
use Rattle.std.proofs.lemmas.Bool.{false≢true, leb-true}
use Rattle.std.proofs.lemmas.List.{length-map}
use Rattle.arc_data.specs.Digits.{is_between}
use Rattle.arc_data.specs.declared.event.Event.{Event}
use Rattle.arc_data.specs.declared.event.Event.TheVariants.{Adopt, Start, Message as Sent, Beat, Tick, Claim, Next, Act as Do, Release, Close, Show, List as Rows}
use Rattle.arc_data.specs.declared.event.Message.{Message}
use Rattle.arc_data.specs.declared.event.Token.{Token}
use Rattle.arc_data.specs.declared.event.Token.TheVariants.{SiaDcs, AdmCid}
use Rattle.arc_data.specs.declared.incident.Incident.{Incident}
use Rattle.arc_data.specs.declared.reply.Reply.{Reply}
use Rattle.arc_data.specs.declared.reply.Reply.TheVariants.{Claimed, Recorded, Released, Closed}
use Rattle.arc_data.specs.declared.signal.Class.{Class}
use Rattle.arc_data.specs.declared.signal.Class.TheVariants.{CommFail, Irregular, LateClose}
use Rattle.arc_data.specs.declared.signal.Signal.{Signal}
use Rattle.arc_data.specs.declared.step.Acted.{Acted}
use Rattle.alarm_rules.specs.ContactId.{contact_id_signal}
use Rattle.alarm_rules.specs.SiaCodes.{sia_signals, sia_items, in_number, signal_of_item, Item}
use Rattle.alarm_rules.specs.Signals.{signals, data_of}
use Rattle.alarm_rules.specs.Setups.{Setup, Account, setup_of, account_of}
use Rattle.centre_rules.specs.Summary.{Summary}
use Rattle.centre_rules.specs.Marks.{Mark, Carries, Carried, text, force}
use Rattle.centre_rules.specs.Cases.{incidents, opened, opens, is_of, is_new}
use Rattle.centre_rules.specs.Carrying.{carried, carried_sent, own_signal, if_in_force, is_irregular, sent, raised, raised_where, is_silent, is_late}
use Rattle.centre_rules.specs.Tables.{touched_by, opened_after}
use Rattle.centre_rules.specs.History.{Entry, recorded, is_recorded, marks, marks_of, onto, claim_marks, act_marks, release_marks, close_marks, acted_by}
use Rattle.centre_rules.proofs.Steps.{incidents_begin, incidents_step, opened_step}
use Rattle.summary_rules.specs.Fields.{Given}
use Rattle.summary_rules.specs.Laws.{AreWithin, CountsStay}
use Rattle.summary_rules.proofs.Everies.{every_weaker}
use Rattle.summary_rules.proofs.SetupMeaning.{IsGoodSetup, setup_good}
use Rattle.summary_rules.proofs.Moments.{NewIs, every_table, given_weaker}

-- How many signals there are.

abbrev Few : {A : Type 0} → ℕ → List A → Type 0
Few n xs = length xs ≤ n

length_filter : {A : Type 0} (test : A → Bool) (xs : List A) → length (filter test xs) ≤ length xs
length_filter test [] = omega arith
length_filter {A = A} test (x ∷ xs) = by (test x) (length_filter test xs)
  where
    by : (b : Bool) → length (filter test xs) ≤ length xs → length (cond b (x ∷ filter test xs) (filter test xs)) ≤ length (x ∷ xs)
    by true le = omega (arith, le)
    by false le = omega (arith, le)

-- at most so many of each item
length_flat : {A B : Type 0} (f : A → List B) → ((x : A) → length (f x) ≤ 2) → (xs : List A) → length (flat_map f xs) ≤ 2 * length xs
length_flat f le [] = omega arith
length_flat f le (x ∷ xs) = omega (arith, le x, length_flat f le xs, length-append (f x) (flat_map f xs))

-- the signals of a content are at most 8
in_number_few : (xs : List Signal) → Given (Few 8) (in_number xs)
in_number_few xs = by (is_between 1 8 (length xs)) refl
  where
    second : (b c : Bool) → (b && c) ≡ true → c ≡ true
    second true c e = e
    second false c e = absurd (false≢true e)

    by : (b : Bool) → is_between 1 8 (length xs) ≡ b → Given (Few 8) (if b then Some xs else None)
    by true e = leb-true _ _ (second (leb 1 (length xs)) (leb (length xs) 8) e)
    by false e = tt

of_items : (o : Option (List Item)) → Given (Few 8) (option_and_then (λ items. in_number (filter_map signal_of_item items)) o)
of_items None = tt
of_items (Some items) = in_number_few (filter_map signal_of_item items)

sia_few : (text : List ℕ) → Given (Few 8) (sia_signals text)
unfolding sia_signals
sia_few text = of_items (sia_items text)

one_of : (o : Option Signal) → Given (Few 8) (option_map (λ (x : Signal). x ∷ []) o)
one_of None = tt
one_of (Some x) = omega arith

signals_few : (token : Token) (content : List ℕ) → Given (Few 8) (signals token content)
signals_few SiaDcs content = sia_few (data_of content)
signals_few AdmCid content = one_of (contact_id_signal (data_of content))

unwrapped : (o : Option (List Signal)) → Given (Few 8) o → length (unwrap_or o []) ≤ 8
unwrapped None w = omega arith
unwrapped (Some xs) w = w

-- the accounts of a setup are at most 2,000

Enough : Setup → Type 0
Enough setup = length setup.accounts ≤ 2000

setup_few : (text : List ℕ) → Given Enough (result_ok (setup_of text))
unfolding Enough
setup_few text = given_weaker IsGoodSetup Enough (λ setup w. w.few) (result_ok (setup_of text)) (setup_good text)

force_few : (o : Option (List ℕ)) → Given Enough (option_and_then (λ text. result_ok (setup_of text)) o)
force_few None = tt
force_few (Some text) = setup_few text

under_few : (n : ℕ) (o : Option Setup) (f : Setup → List Carried) → Given Enough o → ((setup : Setup) → Enough setup → length (f setup) ≤ n) → length (if_in_force o f) ≤ n
under_few n None f w le = omega arith
under_few n (Some setup) f w le = le setup w

irregular_few : (b : Bool) (x y : Carried) → length (x ∷ cond b (y ∷ []) []) ≤ 2
irregular_few true x y = omega arith
irregular_few false x y = omega arith

sent_few : (s : Summary) (ms : List Mark) (m : Message) (via : List ℕ) (at : ℕ) → length (sent s ms m via at) ≤ 16
sent_few s ms m via at =
    under_few 16 (force s ms) (λ setup. flat_map (carried_sent setup m.account via at) (unwrap_or (signals m.token m.content) [])) (force_few (text s ms))
    (λ setup _. omega (
      arith,
      unwrapped (signals m.token m.content) (signals_few m.token m.content),
      length_flat (carried_sent setup m.account via at)
          (λ x. irregular_few (is_irregular (account_of setup m.account) x.kind at) (carried setup m.account at false via x) (carried setup m.account at false [] (own_signal Irregular)))
          (unwrap_or (signals m.token m.content) []),
    ))

where_few : (test : Account → Bool) (class : Class) (at : ℕ) (setup : Setup) → Enough setup → length (raised_where test class at setup) ≤ 2000
unfolding Enough
where_few test class at setup w =
    omega (arith, w, length_filter test setup.accounts, length-map (filter test setup.accounts) (λ (a : Account). carried setup a.number at true [] (own_signal class)))

raised_few : (s : Summary) (ms : List Mark) (at : ℕ) → length (raised s ms at) ≤ 4000
raised_few s ms at =
    under_few 4000 (force s ms) (λ setup. raised_where (is_silent s ms at) CommFail at setup ++ raised_where (is_late s ms at) LateClose at setup) (force_few (text s ms))
    (λ setup w. omega (
      arith,
      where_few (is_silent s ms at) CommFail at setup w,
      where_few (is_late s ms at) LateClose at setup w,
      length-append (raised_where (is_silent s ms at) CommFail at setup) (raised_where (is_late s ms at) LateClose at setup),
    ))

-- How many marks an entry leaves.

claim_few : (at : ℕ) (operator : List ℕ) (r : Reply) → length (claim_marks operator at r) ≤ 4000
claim_few at operator (Claimed number class account) = omega arith
claim_few at operator r = omega arith

act_few : (acted : Acted) (r : Reply) → length (act_marks acted r) ≤ 4000
act_few acted (Recorded number left) = omega arith
act_few acted r = omega arith

release_few : (r : Reply) → length (release_marks r) ≤ 4000
release_few (Released number) = omega arith
release_few r = omega arith

close_few : (r : Reply) → length (close_marks r) ≤ 4000
close_few (Closed number) = omega arith
close_few r = omega arith

marks_few : (s : Summary) (ms : List Mark) (e : Event) (at : ℕ) (r : Reply) → length (marks_of s ms e at r) ≤ 4000
marks_few s ms (Adopt text) at r = omega arith
marks_few s ms Start at r = omega arith
marks_few s ms (Sent m via) at r = omega (arith, sent_few s ms m via at, length-map (sent s ms m via at) Carries)
marks_few s ms (Beat account) at r = omega arith
marks_few s ms Tick at r = omega (arith, raised_few s ms at, length-map (raised s ms at) Carries)
marks_few s ms (Claim operator number) at r = claim_few at operator r
marks_few s ms (Next operator) at r = claim_few at operator r
marks_few s ms (Do operator number step outcome) at r = act_few (acted_by operator step outcome at) r
marks_few s ms (Release operator number) at r = release_few r
marks_few s ms (Close operator number code) at r = close_few r
marks_few s ms (Show number) at r = omega arith
marks_few s ms Rows at r = omega arith

-- Counts.

abbrev SignalsWithin : ℕ → Incident → Type 0
SignalsWithin n i = i.signals ≤ n

opened_if : (b : Bool) (n count : ℕ) → count ≤ n → cond b (count + 1) count ≤ n + 1
opened_if true n count le = omega (arith, le)
opened_if false n count le = omega (arith, le)

opened_within : (m : Mark) (n count : ℕ) (is : List Incident) → count ≤ n → opened_after m count is ≤ n + 1
opened_within (Carries x) n count is le = opened_if (opens x is) n count le
opened_within m n count is le = omega (arith, le)

signals_within : (m : Mark) (n : ℕ) (i : Incident) → SignalsWithin n i → SignalsWithin (n + 1) (touched_by m i)
signals_within (Carries x) n i le = opened_if (is_of x.account x.signal.class i && is_new x.signal.kind) n i.signals le
signals_within m n i le = omega (arith, le)

new_within : (m : Mark) (n count : ℕ) (is : List Incident) → NewIs (SignalsWithin n) m count is
new_within (Carries x) n count is = λ e. omega arith
new_within m n count is = tt

within_mark : (s : Summary) (ms : List Mark) (n : ℕ) (m : Mark) → AreWithin n (opened s ms) (incidents s ms) → AreWithin (n + 1) (opened s (m ∷ ms)) (incidents s (m ∷ ms))
within_mark s ms n m w = rw (incidents_step s m ms, opened_step s m ms) (record {
  all = opened_within m n (opened s ms) (incidents s ms) w.all;
  each = every_table (SignalsWithin n) (SignalsWithin (n + 1)) m (opened s ms) (incidents s ms) w.each (new_within m n (opened s ms) (incidents s ms)) (signals_within m n);
})

within_weaker : (n k count : ℕ) (is : List Incident) → n ≤ k → AreWithin n count is → AreWithin k count is
within_weaker n k count is le w = record {
  all = omega (arith, w.all, le);
  each = every_weaker (SignalsWithin n) (SignalsWithin k) (λ i p. omega (arith, p, le)) is w.each;
}

within_onto : (s : Summary) (xs ms : List Mark) (n : ℕ) → AreWithin n (opened s ms) (incidents s ms) → AreWithin (n + length xs) (opened s (onto xs ms)) (incidents s (onto xs ms))
within_onto s [] ms n w = within_weaker n (n + 0) (opened s ms) (incidents s ms) (omega arith) w
within_onto s (x ∷ xs) ms n w =
    within_weaker (n + 1 + length xs) (n + length (x ∷ xs)) (opened s (onto xs (x ∷ ms))) (incidents s (onto xs (x ∷ ms))) (omega arith)
    (within_onto s xs (x ∷ ms) (n + 1) (within_mark s ms n x w))

within_if : (s : Summary) (xs ms : List Mark) (e : Entry) (h : List Entry) (b : Bool) → length xs ≤ 4000
    → AreWithin (4000 * (s.recorded + length h)) (opened s ms) (incidents s ms)
    → AreWithin (4000 * (s.recorded + length (cond b (e ∷ h) h))) (opened s (cond b (onto xs ms) ms)) (incidents s (cond b (onto xs ms) ms))
within_if s xs ms e h true le w =
    within_weaker (4000 * (s.recorded + length h) + length xs) (4000 * (s.recorded + length (e ∷ h))) (opened s (onto xs ms)) (incidents s (onto xs ms))
    (omega (arith, le)) (within_onto s xs ms (4000 * (s.recorded + length h)) w)
within_if s xs ms e h false le w = w

within_all : (s : Summary) (h : List Entry) → AreWithin (4000 * s.recorded) s.opened s.incidents
    → AreWithin (4000 * (s.recorded + length (recorded h))) (opened s (marks s h)) (incidents s (marks s h))
within_all s [] w =
    rw (incidents_begin s) (within_weaker (4000 * s.recorded) (4000 * (s.recorded + 0)) s.opened s.incidents (omega arith) w)
within_all s (e ∷ h) w =
    within_if s (marks_of s (marks s h) e.event e.at e.reply) (marks s h) e (recorded h) (is_recorded e.reply) (marks_few s (marks s h) e.event e.at e.reply) (within_all s h w)

pub counts_stay : CountsStay
counts_stay s h w = within_all s h w
