-- What the meaning of each setup text has: accounts in capitals, at most 2,000 of them and four keyholders of each, and plans in which
-- no word stands twice.
use Rattle.std.proofs.Common.{◌≡◌, ◌≤◌, ℕ, ◌+◌, List, [], ◌∷◌, map, length, Bool, true, false, cond, Option, Some, None, refl, ap, ◌∙◌, arith}
use Rattle.std.specs.Prelude.{◌&&◌, if◌then◌else◌, option_and_then, not, nat_lt, codes, Ok, Err}
use Rattle.std.specs.Char.{to_ascii_uppercase}
use Rattle.std.specs.List.{enumerate_from, list_all, cons_option}
use Rattle.std.specs.Option.{option_map, option_map_or}
use Rattle.std.specs.Result.{result_ok}
use Rattle.std.specs.Str.{bytes_eq}
use Rattle.std.specs.Str.Lines.{lines}
use Rattle.std.proofs.lemmas.Bool.{false≢true}
use Rattle.std.proofs.lemmas.Bool.Decides.{nat_tests}
use Rattle.std.proofs.lemmas.List.{length-map}
use Rattle.arc_data.specs.Digits.{is_between, is_hex, is_capital_hex, is_account, capitals}
use Rattle.arc_data.specs.declared.plan.Planned.{Planned}
use Rattle.arc_data.specs.declared.setup_fault.SetupFault.{SetupFault}
use Rattle.arc_data.specs.declared.setup_fault.SetupFault.TheVariants.{TooLarge}
use Rattle.arc_data.specs.declared.signal.Class.{Class}
use Rattle.zone_rules.specs.Zones.{Zone}
use Rattle.alarm_rules.specs.SetupLines.{Said, Nothing, OfAccount, OfHours, OfKeyholder, OfPlan, OfOperator, OfLapse, AccountLine, PlanLine}
use Rattle.alarm_rules.specs.SetupLines.{after, optional, provided, is_nil, none_twice, plan_words, each_read, target_named, zone_named, account_line, hours_line, keyholder_line, plan_line, operator_line, lapse_line, declared, words_of, is_skipped, says}
use Rattle.alarm_rules.specs.SetupWords.{key_spelled, number_between, class_named, planned_named}
use Rattle.alarm_rules.specs.Setups.{Setup, Account, Line, setup_of, setup_of_lines, said_lines, first_fault, told, account_part, plan_part, account_with, accounts_in, plans_in, things}
use Rattle.accounts.specs.Standing.{entry_in}
use Rattle.accounts.proofs.LimitLemmas.{few-accounts, few-holders}
use Rattle.summary_rules.specs.Lists.{Every}
use Rattle.summary_rules.specs.Fields.{Given, IsAccount}
use Rattle.summary_rules.proofs.Everies.{every_map}

-- Accounts in capitals.

both : (a b : Bool) → a ≡ true → b ≡ true → (a && b) ≡ true
both a b p q = rw (p, q) refl

first : (a b : Bool) → (a && b) ≡ true → a ≡ true
first true b e = refl
first false b e = absurd (false≢true e)

pub second : (a b : Bool) → (a && b) ≡ true → b ≡ true
second true b e = e
second false b e = absurd (false≢true e)

capital_one : (b : ℕ) → is_hex b ≡ true → is_capital_hex (to_ascii_uppercase b) ≡ true
capital_one b h = grind (arith, nat_tests)

capital_all : (bs : List ℕ) → list_all is_hex bs ≡ true → list_all is_capital_hex (capitals bs) ≡ true
capital_all [] h = refl
capital_all (b ∷ bs) h = both _ _ (capital_one b (first _ _ h)) (capital_all bs (second _ _ h))

capital_account : (word : List ℕ) → is_account word ≡ true → IsAccount (capitals word)
capital_account word h = both _ _ (ap (is_between 3 16) (length-map word to_ascii_uppercase) ∙ first _ _ h) (capital_all word (second _ _ h))

-- What a line says.

abbrev IsGoodPlan : PlanLine → Type 0
IsGoodPlan line = none_twice line.words ≡ true

abbrev IsGoodNumber : AccountLine → Type 0
IsGoodNumber line = IsAccount line.number

abbrev IsGoodSaid : Said → Type 0
IsGoodSaid (OfAccount line) = IsGoodNumber line
IsGoodSaid (OfPlan line) = IsGoodPlan line
IsGoodSaid other = Unit {0}

given_cond : {A : Type 0} (P : A → Type 0) (b : Bool) (x y : Option A) → Given P x → Given P y → Given P (cond b x y)
given_cond P true x y v w = v
given_cond P false x y v w = w

pub given_map : {A B : Type 0} (P : A → Type 0) (Q : B → Type 0) (f : A → B) → ((x : A) → P x → Q (f x)) → (o : Option A) → Given P o → Given Q (option_map f o)
given_map P Q f g None w = tt
given_map P Q f g (Some x) w = g x w

given_all : {A B : Type 0} (Q : B → Type 0) (f : A → B) → ((x : A) → Q (f x)) → (o : Option A) → Given Q (option_map f o)
given_all Q f g None = tt
given_all Q f g (Some x) = g x

Words : Type 0
Words = List (List ℕ)

by_zone : (account : List ℕ) (key : Option (List ℕ)) (beat : Option ℕ) (o : Option (Option Zone × List (List ℕ))) → IsAccount account
    → Given IsGoodNumber (after o (λ zone. provided (is_nil zone.1) (record { number = account; key = key; beat = beat; zone = zone.0 })))
by_zone account key beat None ok = tt
by_zone account key beat (Some zone) ok = by (is_nil zone.1)
  where
    by : (b : Bool) → Given IsGoodNumber (provided b (record { number = account; key = key; beat = beat; zone = zone.0 }))
    by true = ok
    by false = tt

by_beat : (account : List ℕ) (key : Option (List ℕ)) (o : Option (Option ℕ × List (List ℕ))) → IsAccount account
    → Given IsGoodNumber (after o (λ beat. after (zone_named beat.1) (λ zone.
    provided (is_nil zone.1) (record { number = account; key = key; beat = beat.0; zone = zone.0 }))))
by_beat account key None ok = tt
by_beat account key (Some beat) ok = by_zone account key beat.0 (zone_named beat.1) ok

by_key : (account : List ℕ) (o : Option (Option (List ℕ) × List (List ℕ))) → IsAccount account
    → Given IsGoodNumber (after o (λ key. after (optional (codes "beat") (number_between 1 1_000_000) key.1) (λ beat. after (zone_named beat.1) (λ zone.
    provided (is_nil zone.1) (record { number = account; key = key.0; beat = beat.0; zone = zone.0 })))))
by_key account None ok = tt
by_key account (Some key) ok = by_beat account key.0 (optional (codes "beat") (number_between 1 1_000_000) key.1) ok

account_good : (words : List (List ℕ)) → Given IsGoodNumber (account_line words)
account_good [] = tt
account_good (number ∷ words) = by (is_account number) refl
  where
    by : (b : Bool) → is_account number ≡ b → Given IsGoodNumber (after (option_map capitals (if b then Some number else None)) (λ account.
        after (optional (codes "key") key_spelled words) (λ key. after (optional (codes "beat") (number_between 1 1_000_000) key.1) (λ beat.
        after (zone_named beat.1) (λ zone.
        provided (is_nil zone.1) (record { number = account; key = key.0; beat = beat.0; zone = zone.0 }))))))
    by true e = by_key (capitals number) (optional (codes "key") key_spelled words) (capital_account number e)
    by false e = tt

words_good : (o : Option (List Planned)) → Given (λ plan. none_twice plan ≡ true) (after o (λ plan. provided (not (is_nil plan) && none_twice plan) plan))
words_good None = tt
words_good (Some plan) = by (not (is_nil plan) && none_twice plan) refl
  where
    by : (b : Bool) → (not (is_nil plan) && none_twice plan) ≡ b → Given (λ plan. none_twice plan ≡ true) (provided b plan)
    by true e = second (not (is_nil plan)) (none_twice plan) e
    by false e = tt

by_plan : (account : Option (List ℕ)) (class : Class) (o : Option (List Planned)) → Given (λ plan. none_twice plan ≡ true) o
    → Given IsGoodPlan (after o (λ plan. Some (record { account = account; class = class; words = plan })))
by_plan account class None w = tt
by_plan account class (Some plan) w = w

by_class : (account : Option (List ℕ)) (words : List (List ℕ)) (o : Option Class)
    → Given IsGoodPlan (after o (λ class. after (plan_words words) (λ plan. Some (record { account = account; class = class; words = plan }))))
by_class account words None = tt
by_class account words (Some class) = by_plan account class (plan_words words) (words_good (each_read planned_named words))

by_target : (name : List ℕ) (words : List (List ℕ)) (o : Option (Option (List ℕ)))
    → Given IsGoodPlan (after o (λ account. after (class_named name) (λ class. after (plan_words words) (λ plan. Some (record { account = account; class = class; words = plan })))))
by_target name words None = tt
by_target name words (Some account) = by_class account words (class_named name)

plan_good : (words : List (List ℕ)) → Given IsGoodPlan (plan_line words)
plan_good [] = tt
plan_good (whose ∷ []) = tt
plan_good (whose ∷ name ∷ words) = by_target name words (target_named whose)

declared_good : (words : List (List ℕ)) → Given IsGoodSaid (declared words)
declared_good [] = tt
declared_good (word ∷ words) =
    given_cond IsGoodSaid (bytes_eq word (codes "account")) _ _ (given_map IsGoodNumber IsGoodSaid OfAccount (λ x w. w) (account_line words) (account_good words))
    (given_cond IsGoodSaid (bytes_eq word (codes "hours")) _ _ (given_all IsGoodSaid OfHours (λ x. tt) (hours_line words))
    (given_cond IsGoodSaid (bytes_eq word (codes "keyholder")) _ _ (given_all IsGoodSaid OfKeyholder (λ x. tt) (keyholder_line words))
    (given_cond IsGoodSaid (bytes_eq word (codes "plan")) _ _ (given_map IsGoodPlan IsGoodSaid OfPlan (λ x w. w) (plan_line words) (plan_good words))
    (given_cond IsGoodSaid (bytes_eq word (codes "operator")) _ _ (given_all IsGoodSaid OfOperator (λ x. tt) (operator_line words))
    (given_cond IsGoodSaid (bytes_eq word (codes "lapse")) _ _ (given_all IsGoodSaid OfLapse (λ x. tt) (lapse_line words)) tt)))))

says_good : (line : List ℕ) → Given IsGoodSaid (says line)
says_good line =
    given_cond IsGoodSaid (nat_lt 1024 (length line)) None _ tt
    (given_cond IsGoodSaid (is_skipped line) (Some Nothing) _ tt (declared_good (words_of line)))

-- What all lines say.

abbrev IsGoodLine : Line → Type 0
IsGoodLine line = Given IsGoodSaid line.1

lines_good : (n : ℕ) (ls : List (List ℕ)) → Every IsGoodLine (enumerate_from n (map says ls))
lines_good n [] = tt
lines_good n (l ∷ ls) = (says_good l, lines_good (n + 1) ls)

every_cons : {A : Type 0} (P : A → Type 0) (o : Option A) (xs : List A) → Given P o → Every P xs → Every P (cons_option o xs)
every_cons P None xs v w = w
every_cons P (Some x) xs v w = (v, w)

part_good : {A : Type 0} (part : Said → Option A) (P : A → Type 0) → ((said : Said) → IsGoodSaid said → Given P (part said))
    → (o : Option Said) → Given IsGoodSaid o → Given P (option_and_then part o)
part_good part P g None w = tt
part_good part P g (Some said) w = g said w

told_good : {A : Type 0} (part : Said → Option A) (P : A → Type 0) → ((said : Said) → IsGoodSaid said → Given P (part said))
    → (ls : List Line) → Every IsGoodLine ls → Every (λ t. P t.1) (told part ls)
told_good part P g [] w = tt
told_good {A = A} part P g (l ∷ ls) w =
    every_cons (λ (t : ℕ × A). P t.1) (option_map (λ thing. (l.0, thing)) (option_and_then part l.1)) (told part ls)
    (given_map P (λ (t : ℕ × A). P t.1) (λ thing. (l.0, thing)) (λ x v. v) (option_and_then part l.1) (part_good part P g l.1 w.0))
    (told_good part P g ls w.1)

account_told : (said : Said) → IsGoodSaid said → Given IsGoodNumber (account_part said)
account_told (OfAccount line) w = w
account_told said w = tt

plan_told : (said : Said) → IsGoodSaid said → Given IsGoodPlan (plan_part said)
plan_told (OfPlan line) w = w
plan_told said w = tt

-- Setups.

pub record IsGoodAccount (a : Account) : Type 0 where
  pub number : IsAccount a.number
  pub holders : a.holders ≤ 4

pub record IsGoodSetup (setup : Setup) : Type 0 where
  pub few : length setup.accounts ≤ 2000
  pub accounts : Every IsGoodAccount setup.accounts
  pub plans : Every (λ (p : PlanLine). none_twice p.words ≡ true) setup.plans

things_good : {A : Type 0} (P : A → Type 0) (ts : List (ℕ × A)) → Every (λ t. P t.1) ts → Every P (things ts)
things_good P [] w = tt
things_good P (t ∷ ts) w = (w.0, things_good P ts w.1)

lines_setup : (ls : List Line) → Every IsGoodLine ls → first_fault [] ls ≡ None → IsGoodSetup (setup_of_lines ls)
lines_setup ls w none = record {
  few = omega (arith, few-accounts ls none, length-map (things (accounts_in ls)) (account_with ls), length-map (accounts_in ls) (λ thing. thing.1));
  accounts = every_map IsGoodNumber IsGoodAccount (account_with ls) (λ line number. record { number = number; holders = few-holders ls none 0 (entry_in ls (0, line)) ((0, line) ∷ []) refl })
      (things (accounts_in ls)) (things_good IsGoodNumber (accounts_in ls) (told_good account_part IsGoodNumber account_told ls w));
  plans = things_good IsGoodPlan (plans_in ls) (told_good plan_part IsGoodPlan plan_told ls w);
}

pub setup_good : (text : List ℕ) → Given IsGoodSetup (result_ok (setup_of text))
unfolding setup_of
setup_good text = by (nat_lt 4194304 (length text)) (first_fault [] (said_lines text)) refl
  where
    by : (b : Bool) (f : Option SetupFault) → first_fault [] (said_lines text) ≡ f
        → Given IsGoodSetup (result_ok (if b then Err TooLarge else option_map_or Err f (Ok (setup_of_lines (said_lines text)))))
    by true f e = tt
    by false None e = lines_setup (said_lines text) (lines_good 1 (lines text)) e
    by false (Some fault) e = tt
