-- The steps of a plan: each is a step, none stands twice, and there are ten at most.
use Rattle.std.proofs.Common.{◌≡◌, ◌≤◌, ◌<◌, ℕ, zero, suc, ◌+◌, List, [], ◌∷◌, ◌++◌, map, length, Bool, true, false, cond, leb, eqb, nat_eq, Option, Some, None, refl, sym, ap, ◌∙◌, arith, subst}
use Rattle.std.specs.Prelude.{◌&&◌, ◌||◌, not, unwrap_or}
use Rattle.std.specs.List.{filter, find, flat_map, range_with_len}
use Rattle.std.specs.Option.{option_map, option_map_or, option_or}
use Rattle.std.proofs.lemmas.Bool.{false≢true, eqb-true, eq-eqb, le-leb, leb-true}
use Rattle.arc_data.specs.Digits.{is_between}
use Rattle.arc_data.specs.Steps.{is_step, same_step, step_place}
use Rattle.arc_data.specs.Words.{same_word, word_place, has_word}
use Rattle.arc_data.specs.declared.plan.Planned.{Planned}
use Rattle.arc_data.specs.declared.plan.PlanWord.{PlanWord}
use Rattle.arc_data.specs.declared.plan.PlanWord.TheVariants.{Premises as CallPremises, Holders, Police as SendPolice, Fire as SendFire, Ambulance as SendAmbulance, Guard as SendGuard, Note as WriteNote}
use Rattle.arc_data.specs.declared.signal.Class.{Class}
use Rattle.arc_data.specs.declared.step.Step.{Step}
use Rattle.arc_data.specs.declared.step.Step.TheVariants.{Premises, Holder, Police, Fire, Ambulance, Guard, Note}
use Rattle.alarm_rules.specs.Plans.{steps_of_word, is_counted, steps_in}
use Rattle.alarm_rules.specs.SetupLines.{PlanLine, none_twice}
use Rattle.alarm_rules.specs.Setups.{Setup, Account, account_of, has_number, words_for, is_plan_of, plan_of, steps_of}
use Rattle.alarm_rules.specs.Weeks.{in_hours}
use Rattle.summary_rules.specs.Lists.{Every, EveryTwo}
use Rattle.summary_rules.specs.Fields.{Given}
use Rattle.summary_rules.specs.Conditions.{AreSteps}
use Rattle.summary_rules.proofs.Everies.{every_weaker, every_append, every_flat}
use Rattle.summary_rules.proofs.Pairs.{two_filter}
use Rattle.summary_rules.proofs.SetupMeaning.{IsGoodAccount, IsGoodSetup}

-- Steps told apart.

abbrev pub IsStep : Step → Type 0
IsStep s = is_step s ≡ true

abbrev pub Differ : Step → Step → Type 0
Differ s other = same_step s other ≡ false

not_equal : (a b : ℕ) (t : Bool) → eqb a b ≡ t → (a ≡ b → ⊥) → t ≡ false
not_equal a b true e f = absurd (f (eqb-true a b e))
not_equal a b false e f = refl

-- the place of the word whose step stands at a place
word_at : ℕ → ℕ
word_at zero = 0
word_at (suc zero) = 2
word_at (suc (suc zero)) = 3
word_at (suc (suc (suc zero))) = 4
word_at (suc (suc (suc (suc zero)))) = 5
word_at (suc (suc (suc (suc (suc zero))))) = 6
word_at (suc (suc (suc (suc (suc (suc n)))))) = 1

IsOfWord : ℕ → Step → Type 0
IsOfWord place s = word_at (step_place s) ≡ place

holder_word : (n : ℕ) → IsOfWord 1 (Holder n)
unfolding IsOfWord word_at
holder_word n = let six : n + 6 ≡ suc (suc (suc (suc (suc (suc n))))) = omega arith in ap word_at six

holders_of : (numbers : List ℕ) → Every (IsOfWord 1) (map Holder numbers)
holders_of [] = tt
holders_of (n ∷ numbers) = (holder_word n, holders_of numbers)

word_steps : (holders : ℕ) (word : PlanWord) → Every (IsOfWord (word_place word)) (steps_of_word holders word)
unfolding IsOfWord word_at
word_steps holders CallPremises = (refl, tt)
word_steps holders Holders = holders_of (range_with_len 1 holders)
word_steps holders SendPolice = (refl, tt)
word_steps holders SendFire = (refl, tt)
word_steps holders SendAmbulance = (refl, tt)
word_steps holders SendGuard = (refl, tt)
word_steps holders WriteNote = (refl, tt)

-- steps of different words differ
words_differ : (s t : Step) (v w : ℕ) → IsOfWord v s → IsOfWord w t → (v ≡ w → ⊥) → Differ s t
unfolding IsOfWord
words_differ s t v w p q apart =
    not_equal (step_place s) (step_place t) (same_step s t) refl (λ e. apart (sym p ∙ ap word_at e ∙ q))

-- calls of keyholders differ
later_calls : (k from n : ℕ) → k < from → Every (Differ (Holder k)) (map Holder (range_with_len from n))
later_calls k from zero lt = tt
later_calls k from (suc n) lt =
    (not_equal (k + 6) (from + 6) (same_step (Holder k) (Holder from)) refl (λ e. omega (arith, lt, e)), later_calls k (from + 1) n (omega (arith, lt)))

calls_differ : (from n : ℕ) → AreSteps (map Holder (range_with_len from n))
calls_differ from zero = tt
calls_differ from (suc n) = (later_calls from (from + 1) n (omega arith), calls_differ (from + 1) n)

calls_are : (from n : ℕ) → 1 ≤ from → from + n ≤ 5 → Every IsStep (map Holder (range_with_len from n))
calls_are from zero low high = tt
calls_are from (suc n) low high = (is_one, calls_are (from + 1) n (omega arith) (omega (arith, high)))
  where
    is_one : is_between 1 4 from ≡ true
    is_one = rw (le-leb 1 from low, le-leb from 4 (omega (arith, high))) refl

word_differ : (holders : ℕ) (word : PlanWord) → AreSteps (steps_of_word holders word)
word_differ holders CallPremises = (tt, tt)
word_differ holders Holders = calls_differ 1 holders
word_differ holders SendPolice = (tt, tt)
word_differ holders SendFire = (tt, tt)
word_differ holders SendAmbulance = (tt, tt)
word_differ holders SendGuard = (tt, tt)
word_differ holders WriteNote = (tt, tt)

word_are : (holders : ℕ) (word : PlanWord) → holders ≤ 4 → Every IsStep (steps_of_word holders word)
word_are holders CallPremises le = (refl, tt)
word_are holders Holders le = calls_are 1 holders (omega arith) (omega (arith, le))
word_are holders SendPolice le = (refl, tt)
word_are holders SendFire le = (refl, tt)
word_are holders SendAmbulance le = (refl, tt)
word_are holders SendGuard le = (refl, tt)
word_are holders WriteNote le = (refl, tt)

-- Steps of many words.

abbrev WordsDiffer : Planned → Planned → Type 0
WordsDiffer p other = same_word other.word p.word ≡ false

two_append : {A : Type 0} (R : A → A → Type 0) (xs ys : List A) → EveryTwo R xs → EveryTwo R ys → Every (λ x. Every (R x) ys) xs → EveryTwo R (xs ++ ys)
two_append R [] ys v w c = w
two_append R (x ∷ xs) ys v w c = (every_append (R x) xs ys v.0 c.0, two_append R xs ys v.1 w c.1)

not_same_place : (a b : ℕ) → nat_eq a b ≡ false → b ≡ a → ⊥
not_same_place a b e same = false≢true (sym e ∙ eq-eqb a b (sym same))

-- the steps of the later words are of none that is this one
others_of : (holders : ℕ) (p : Planned) (ps : List Planned) → Every (WordsDiffer p) ps
    → Every (λ t. (s : Step) → IsOfWord (word_place p.word) s → Differ s t) (flat_map (λ q. steps_of_word holders q.word) ps)
others_of holders p [] w = tt
others_of holders p (q ∷ ps) w =
    every_append (λ t. (s : Step) → IsOfWord (word_place p.word) s → Differ s t) (steps_of_word holders q.word) (flat_map (λ q. steps_of_word holders q.word) ps)
    (every_weaker (IsOfWord (word_place q.word)) (λ t. (s : Step) → IsOfWord (word_place p.word) s → Differ s t)
    (λ t of_q s of_p. words_differ s t (word_place p.word) (word_place q.word) of_p of_q (not_same_place (word_place q.word) (word_place p.word) w.0))
    (steps_of_word holders q.word) (word_steps holders q.word))
    (others_of holders p ps w.1)

apply_all : (s : Step) (place : ℕ) (ts : List Step) → IsOfWord place s → Every (λ t. (s : Step) → IsOfWord place s → Differ s t) ts → Every (Differ s) ts
apply_all s place [] of w = tt
apply_all s place (t ∷ ts) of w = (w.0 s of, apply_all s place ts of w.1)

flat_differ : (holders : ℕ) (ps : List Planned) → EveryTwo WordsDiffer ps → AreSteps (flat_map (λ q. steps_of_word holders q.word) ps)
flat_differ holders [] w = tt
flat_differ holders (p ∷ ps) w =
    two_append Differ (steps_of_word holders p.word) (flat_map (λ q. steps_of_word holders q.word) ps) (word_differ holders p.word) (flat_differ holders ps w.1)
    (every_weaker (IsOfWord (word_place p.word)) (λ s. Every (Differ s) (flat_map (λ q. steps_of_word holders q.word) ps))
    (λ s of. apply_all s (word_place p.word) (flat_map (λ q. steps_of_word holders q.word) ps) of (others_of holders p ps w.0))
    (steps_of_word holders p.word) (word_steps holders p.word))

-- the steps of a plan in which no word stands twice
plan_steps : (hours : Bool) (holders : ℕ) (ps : List Planned) → EveryTwo WordsDiffer ps → AreSteps (steps_in hours holders ps)
unfolding steps_in
plan_steps hours holders ps w = flat_differ holders (filter (is_counted hours) ps) (two_filter WordsDiffer (is_counted hours) ps w)

plan_are : (hours : Bool) (holders : ℕ) (ps : List Planned) → holders ≤ 4 → Every IsStep (steps_in hours holders ps)
unfolding steps_in
plan_are hours holders ps le = every_flat IsStep (λ q. steps_of_word holders q.word) (λ q. word_are holders q.word le) (filter (is_counted hours) ps)

-- Ten at most.

one : ℕ → Step → ℕ
one place s = cond (nat_eq (step_place s) place) 1 0

tally : ℕ → List Step → ℕ
tally place [] = 0
tally place (s ∷ ss) = one place s + tally place ss

too_great : (n : ℕ) → is_step (Holder (suc (suc (suc (suc (suc n)))))) ≡ true → ⊥
too_great n e = omega (arith, leb-true _ _ (second (leb 1 (suc (suc (suc (suc (suc n)))))) (leb (suc (suc (suc (suc (suc n))))) 4) e))
  where
    second : (a b : Bool) → (a && b) ≡ true → b ≡ true
    second true b e = e
    second false b e = absurd (false≢true e)

one_step : (s : Step) → IsStep s → one 0 s + one 1 s + one 2 s + one 3 s + one 4 s + one 5 s + one 7 s + one 8 s + one 9 s + one 10 s ≡ 1
unfolding one
one_step Premises w = refl
one_step Police w = refl
one_step Fire w = refl
one_step Ambulance w = refl
one_step Guard w = refl
one_step Note w = refl
one_step (Holder zero) w = absurd (false≢true w)
one_step (Holder (suc zero)) w = refl
one_step (Holder (suc (suc zero))) w = refl
one_step (Holder (suc (suc (suc zero)))) w = refl
one_step (Holder (suc (suc (suc (suc zero))))) w = refl
one_step (Holder (suc (suc (suc (suc (suc n)))))) w = absurd (too_great n w)

all_steps : (ss : List Step) → Every IsStep ss
    → tally 0 ss + tally 1 ss + tally 2 ss + tally 3 ss + tally 4 ss + tally 5 ss + tally 7 ss + tally 8 ss + tally 9 ss + tally 10 ss ≡ length ss
unfolding tally
all_steps [] w = refl
all_steps (s ∷ ss) w = omega (arith, one_step s w.0, all_steps ss w.1)

absent : (s : Step) (ss : List Step) → Every (Differ s) ss → tally (step_place s) ss ≡ 0
unfolding tally one
absent s [] w = refl
absent s (t ∷ ss) w =
    let none : nat_eq (step_place t) (step_place s) ≡ false =
    not_equal (step_place t) (step_place s) (nat_eq (step_place t) (step_place s)) refl (λ e. false≢true (sym w.0 ∙ eq-eqb (step_place s) (step_place t) (sym e))) in
    rw none (omega (arith, absent s ss w.1))

once_if : (b : Bool) (n : ℕ) → n ≤ 1 → (b ≡ true → n ≡ 0) → cond b 1 0 + n ≤ 1
once_if true n le f = omega (arith, f refl)
once_if false n le f = omega arith

once : (place : ℕ) (ss : List Step) → AreSteps ss → tally place ss ≤ 1
unfolding tally one
once place [] w = omega arith
once place (s ∷ ss) w =
    once_if (nat_eq (step_place s) place) (tally place ss) (once place ss w.1) (λ e. subst (λ (k : ℕ). tally k ss ≡ 0) (eqb-true (step_place s) place e) (absent s ss w.0))

pub ten_at_most : (ss : List Step) → Every IsStep ss → AreSteps ss → length ss ≤ 10
ten_at_most ss w v =
    omega (arith, all_steps ss w, once 0 ss v, once 1 ss v, once 2 ss v, once 3 ss v, once 4 ss v, once 5 ss v, once 7 ss v, once 8 ss v, once 9 ss v, once 10 ss v)

-- The steps by a setup.

pub record AreGoodSteps (ss : List Step) : Type 0 where
  pub each : Every IsStep ss
  pub apart : AreSteps ss

words_of : (ps : List Planned) → none_twice ps ≡ true → EveryTwo WordsDiffer ps
words_of [] e = tt
words_of (p ∷ ps) e = (none (has_word p.word ps) p ps refl (left (not (has_word p.word ps)) (none_twice ps) e), words_of ps (right (not (has_word p.word ps)) (none_twice ps) e))
  where
    left : (a b : Bool) → (a && b) ≡ true → a ≡ true
    left true b e = refl
    left false b e = absurd (false≢true e)

    right : (a b : Bool) → (a && b) ≡ true → b ≡ true
    right true b e = e
    right false b e = absurd (false≢true e)

    any_none : (p : Planned) (qs : List Planned) → has_word p.word qs ≡ false → Every (WordsDiffer p) qs
    any_none p [] e = tt
    any_none p (q ∷ qs) e = (or_left (same_word q.word p.word) (has_word p.word qs) e, any_none p qs (or_right (same_word q.word p.word) (has_word p.word qs) e))
      where
        or_left : (a b : Bool) → (a || b) ≡ false → a ≡ false
        or_left true b e = absurd (false≢true (sym e))
        or_left false b e = refl

        or_right : (a b : Bool) → (a || b) ≡ false → b ≡ false
        or_right true b e = absurd (false≢true (sym e))
        or_right false b e = e

    none : (b : Bool) (p : Planned) (ps : List Planned) → has_word p.word ps ≡ b → not b ≡ true → Every (WordsDiffer p) ps
    none true p ps is e = absurd (false≢true e)
    none false p ps is e = any_none p ps is

abbrev IsGoodPlanned : List Planned → Type 0
IsGoodPlanned ps = EveryTwo WordsDiffer ps

found_good : (test : PlanLine → Bool) (plans : List PlanLine) → Every (λ (p : PlanLine). none_twice p.words ≡ true) plans
    → Given IsGoodPlanned (option_map (λ plan. plan.words) (find test plans))
found_good test [] w = tt
found_good test (p ∷ plans) w = by (test p) (found_good test plans w.1)
  where
    by : (b : Bool) → Given IsGoodPlanned (option_map (λ plan. plan.words) (find test plans)) → Given IsGoodPlanned (option_map (λ plan. plan.words) (cond b (Some p) (find test plans)))
    by true rest = words_of p.words w.0
    by false rest = rest

chosen_good : (a b : Option (List Planned)) (d : List Planned) → Given IsGoodPlanned a → Given IsGoodPlanned b → IsGoodPlanned d → IsGoodPlanned (unwrap_or (option_or a b) d)
chosen_good (Some a) b d v w u = v
chosen_good None (Some b) d v w u = w
chosen_good None None d v w u = u

plan_good : (setup : Setup) (number : List ℕ) (class : Class) → IsGoodSetup setup → IsGoodPlanned (plan_of setup number class)
plan_good setup number class w =
    chosen_good (words_for setup (Some number) class) (words_for setup None class) (record { word = WriteNote; closed = false } ∷ [])
    (found_good (is_plan_of (Some number) class) setup.plans w.plans) (found_good (is_plan_of None class) setup.plans w.plans) (tt, tt)

found_account : (test : Account → Bool) (accounts : List Account) → Every IsGoodAccount accounts → Given IsGoodAccount (find test accounts)
found_account test [] w = tt
found_account test (a ∷ accounts) w = by (test a) (found_account test accounts w.1)
  where
    by : (b : Bool) → Given IsGoodAccount (find test accounts) → Given IsGoodAccount (cond b (Some a) (find test accounts))
    by true rest = w.0
    by false rest = rest

pub steps_good : (setup : Setup) (number : List ℕ) (class : Class) (moment : ℕ) → IsGoodSetup setup → AreGoodSteps (steps_of setup number class moment)
steps_good setup number class moment w = by (account_of setup number) (found_account (has_number number) setup.accounts w.accounts)
  where
    by : (o : Option Account) → Given IsGoodAccount o
        → AreGoodSteps (option_map_or (λ account. steps_in (in_hours account.week moment) account.holders (plan_of setup number class)) o [])
    by None v = record { each = tt; apart = tt }
    by (Some account) v = record {
      each = plan_are (in_hours account.week moment) account.holders (plan_of setup number class) v.holders;
      apart = plan_steps (in_hours account.week moment) account.holders (plan_of setup number class) (plan_good setup number class w);
    }
