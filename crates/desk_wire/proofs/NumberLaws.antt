-- Numbers, steps, outcomes and codes by their names.
use Rattle.std.proofs.Common.{◌≡◌, ◌<◌, ◌≤◌, ◌+◌, ◌%◌, ◌^◌, ℕ, zero, suc, List, [], ◌∷◌, Bool, true, false, cond, eqb, leb, Option, Some, None, refl, sym, ◌∙◌, ap, arith}
use Rattle.std.specs.Prelude.{decimal}
use Rattle.std.specs.List.{find, list_any, list_all}
use Rattle.std.specs.Str.{bytes_eq}
use Rattle.std.proofs.lemmas.Bool.{false_from_ne_true, ne_eqb, or_from, and_parts, leb-true}
use Rattle.std.proofs.lemmas.Fmt.{decimal_injective, decimal_by_steps, decimal_digit}
use Rattle.std.proofs.lemmas.List.Folds.{list_any-append}
use Rattle.std.proofs.lemmas.Slice.Eq.{bytes_eq-Decides}
use Rattle.alarm_rules.proofs.FirstNumbers.{first_from-first, first_from-none, first_from-found}
use Rattle.arc_data.specs.Steps.{is_step}
use Rattle.arc_data.specs.declared.event.CloseCode.{CloseCode}
use Rattle.arc_data.specs.declared.event.CloseCode.TheVariants.{Real, False, Test}
use Rattle.arc_data.specs.declared.step.Outcome.{Outcome}
use Rattle.arc_data.specs.declared.step.Outcome.TheVariants.{Reached, NoAnswer, Done}
use Rattle.arc_data.specs.declared.step.Step.{Step}
use Rattle.arc_data.specs.declared.step.Step.TheVariants.{Premises, Holder, Police, Fire, Ambulance, Guard, Note}
use Rattle.desk_wire.specs.Names.{step_name, outcome_name, code_name, all_steps, step_named, outcome_named, code_named, number_spelled}
use Rattle.desk_wire.specs.Laws.{IsTyped}

-- Numbers.

pub number_found : (word : List ℕ) (n : ℕ) → word ≡ decimal n → 1 ≤ n → n < 2 ^ 64 → number_spelled word ≡ Some n
number_found word n is some small =
    first_from-first (λ u. bytes_eq word (decimal u)) 1 18_446_744_073_709_551_615 n (record {
      passes = (bytes_eq-Decides word (decimal n)).1 is;
      low = some;
      high = omega arith;
      first = λ u from below. false_from_ne_true (bytes_eq word (decimal u)) (λ same.
          let other : u ≡ n = decimal_injective u n (omega arith) small (sym ((bytes_eq-Decides word (decimal u)).0 same) ∙ is) in
          absurd (omega arith));
    })

pub number_none : (word : List ℕ) → ((n : ℕ) → 1 ≤ n → n < 2 ^ 64 → word ≡ decimal n → ⊥) → number_spelled word ≡ None
number_none word none =
    first_from-none (λ u. bytes_eq word (decimal u)) 1 18_446_744_073_709_551_615 (λ u from below.
    false_from_ne_true (bytes_eq word (decimal u)) (λ same. none u from (omega arith) ((bytes_eq-Decides word (decimal u)).0 same)))

-- zero is no number of an incident
pub zero_none : (word : List ℕ) (n : ℕ) → word ≡ decimal n → n ≡ 0 → number_spelled word ≡ None
zero_none word n is zero_is =
    number_none word (λ u some small same.
    let other : u ≡ n = decimal_injective u n small (omega arith) (sym same ∙ is) in
    absurd (omega arith))

-- what a number word is
pub record IsNumber (word : List ℕ) (n : ℕ) : Type 0 where
  pub spelled : word ≡ decimal n
  pub typed : IsTyped n

pub number_is : (word : List ℕ) (n : ℕ) → number_spelled word ≡ Some n → IsNumber word n
number_is word n is =
    let f = first_from-found (λ u. bytes_eq word (decimal u)) 1 18_446_744_073_709_551_615 n is in
    record {
      spelled = (bytes_eq-Decides word (decimal n)).0 f.passes;
      typed = record { some = f.low; fits = omega (arith, f.high) };
    }

-- Names.

found_step : {A : Type 0} (name : A → List ℕ) (good : A → Bool) (word : List ℕ) (t : Bool) (x a : A) (rest : Option A) → bytes_eq word (name x) ≡ t → good x ≡ true
    → (rest ≡ Some a → (word ≡ name a) × (good a ≡ true)) → cond t (Some x) rest ≡ Some a → (word ≡ name a) × (good a ≡ true)
found_step {A} name good word true x a rest same ok next is =
    let it : x ≡ a = cc in
    ((bytes_eq-Decides word (name x)).0 same ∙ ap name it, ap good (sym it) ∙ ok)
found_step {A} name good word false x a rest same ok next is = next is

-- what is found among these by its name has that name, and passes what all of them pass
pub found_named : {A : Type 0} (name : A → List ℕ) (good : A → Bool) (word : List ℕ) (xs : List A) (a : A) → list_all good xs ≡ true → find (λ x. bytes_eq word (name x)) xs ≡ Some a
    → (word ≡ name a) × (good a ≡ true)
found_named {A} name good word [] a all is = absurd cc
found_named {A} name good word (x ∷ xs) a all is =
    let h = and_parts (good x) (list_all good xs) all in
    found_step name good word (bytes_eq word (name x)) x a (find (λ y. bytes_eq word (name y)) xs) refl h.0 (found_named name good word xs a h.1) is

any : {A : Type 0} → A → Bool
any x = true

pub step_is : (word : List ℕ) (step : Step) → step_named word ≡ Some step → (word ≡ step_name step) × (is_step step ≡ true)
step_is word step is = found_named step_name is_step word all_steps step refl is

pub outcome_is : (word : List ℕ) (outcome : Outcome) → outcome_named word ≡ Some outcome → word ≡ outcome_name outcome
unfolding any
outcome_is word outcome is = (found_named outcome_name any word (Reached ∷ NoAnswer ∷ Done ∷ []) outcome refl is).0

pub code_is : (word : List ℕ) (code : CloseCode) → code_named word ≡ Some code → word ≡ code_name code
unfolding any
code_is word code is = (found_named code_name any word (Real ∷ False ∷ Test ∷ []) code refl is).0

-- and each is found by its name

holder_found : (n : ℕ) → 1 ≤ n → n ≤ 4 → step_named (step_name (Holder n)) ≡ Some (Holder n)
holder_found zero low high = absurd (omega arith)
holder_found (suc zero) low high = rw (decimal_digit 1 (omega arith)) refl
holder_found (suc (suc zero)) low high = rw (decimal_digit 1 (omega arith), decimal_digit 2 (omega arith)) refl
holder_found (suc (suc (suc zero))) low high = rw (decimal_digit 1 (omega arith), decimal_digit 2 (omega arith), decimal_digit 3 (omega arith)) refl
holder_found (suc (suc (suc (suc zero)))) low high = rw (decimal_digit 1 (omega arith), decimal_digit 2 (omega arith), decimal_digit 3 (omega arith), decimal_digit 4 (omega arith)) refl
holder_found (suc (suc (suc (suc (suc n))))) low high = absurd (omega arith)

pub step_found : (step : Step) → is_step step ≡ true → step_named (step_name step) ≡ Some step
step_found Premises known = refl
step_found (Holder n) known =
    let h = and_parts (leb 1 n) (leb n 4) known in
    holder_found n (leb-true 1 n h.0) (leb-true n 4 h.1)
step_found Police known = refl
step_found Fire known = refl
step_found Ambulance known = refl
step_found Guard known = refl
step_found Note known = refl

pub outcome_found : (outcome : Outcome) → outcome_named (outcome_name outcome) ≡ Some outcome
outcome_found Reached = refl
outcome_found NoAnswer = refl
outcome_found Done = refl

pub code_found : (code : CloseCode) → code_named (code_name code) ≡ Some code
code_found Real = refl
code_found False = refl
code_found Test = refl

-- No name has a space.

abbrev pub is_space : ℕ → Bool
is_space b = eqb b 32

abbrev pub IsWord : List ℕ → Type 0
IsWord word = list_any is_space word ≡ false

digit_word : (m : ℕ) → m < 10 → IsWord ((48 + m) ∷ [])
digit_word m small = or_from _ _ (ne_eqb (48 + m) 32 (λ is. omega arith)) refl

pub decimal_word : (n : ℕ) → n < 2 ^ 64 → IsWord (decimal n)
decimal_word =
    decimal_by_steps (λ m ds. IsWord ds) (λ m small. digit_word m small)
    (λ m ds big before. list_any-append is_space ds ((48 + m % 10) ∷ []) ∙ or_from _ _ before (digit_word (m % 10) (omega arith)))
