-- No two accounts of a setup have the same number.
use Rattle.std.proofs.Common.{◌≡◌, ℕ, List, [], ◌∷◌, ◌++◌, Bool, true, false, Option, None, Some, Result, Ok, Err, map, length, nat_lt}
use Rattle.std.proofs.Common.{inl, inr, refl, sym, ap, ◌∙◌, append_assoc, append-nil}
use Rattle.std.specs.Prelude.{if◌then◌else◌, IsOk}
use Rattle.std.specs.List.{find, list_any, IsDistinct}
use Rattle.std.specs.Option.{option_map, option_map_or, option_or}
use Rattle.std.specs.Result.{result_unwrap_or}
use Rattle.std.specs.Str.{bytes_eq}
use Rattle.std.proofs.lemmas.Bool.{cases_Bool, cond-true, cond-false}
use Rattle.std.proofs.lemmas.Cmp.{nat_list_eq_equiv}
use Rattle.std.proofs.lemmas.List.{map-append}
use Rattle.std.proofs.lemmas.Map.Keys.{IsDistinct-push}
use Rattle.arc_data.specs.declared.setup_fault.SetupFault.{SetupFault}
use Rattle.arc_data.specs.declared.setup_fault.SetupFault.TheVariants.{TooLarge}
use Rattle.alarm_rules.specs.SetupLines.{AccountLine, Nothing, OfAccount, OfHours, OfKeyholder, OfPlan, OfOperator, OfLapse}
use Rattle.alarm_rules.specs.Setups.{Account, Setup, Line, said_lines, account_part, accounts_in, account_declared, account_with, things}
use Rattle.alarm_rules.specs.Setups.{fault_at, first_fault, setup_of, setup_of_lines, meaning, bad_zone, two_same, too_many}
use Rattle.accounts.proofs.LimitLemmas.{or-none}
use Rattle.accounts.proofs.StandLemmas.{map-map, told-more}

-- the numbers of the accounts that lines declare
abbrev numbers_in : List Line → List (List ℕ)
numbers_in lines = map (λ (thing : ℕ × AccountLine). thing.1.number) (accounts_in lines)

-- and those that one more line adds
numbers-more : (lines : List Line) (l : Line) → numbers_in (lines ++ l ∷ []) ≡ numbers_in lines ++ numbers_in (l ∷ [])
numbers-more lines l =
    ap (map (λ (thing : ℕ × AccountLine). thing.1.number)) (told-more account_part lines l)
    ∙ map-append (λ (thing : ℕ × AccountLine). thing.1.number) (accounts_in lines) (accounts_in (l ∷ []))

-- what is mapped to nothing is nothing
map-none : {A B : Type 0} (f : A → B) (found : Option A) → option_map f found ≡ None → found ≡ None
map-none f None none = refl
map-none f (Some thing) none = cc

-- where no account of the number is found, the numbers are others
not-found : (number : List ℕ) (accounts : List (ℕ × AccountLine)) → find (λ thing. bytes_eq number thing.1.number) accounts ≡ None
    → list_any (bytes_eq number) (map (λ (thing : ℕ × AccountLine). thing.1.number) accounts) ≡ false
not-found number [] none = refl
not-found number (thing ∷ more) none =
    let rest : Option (ℕ × AccountLine) = find (λ (t : ℕ × AccountLine). bytes_eq number t.1.number) more in
    elim (cases_Bool (bytes_eq number thing.1.number)) [
      | inl same ↦ let here = sym (cond-true (bytes_eq number thing.1.number) (Some thing) rest same) ∙ none in cc
      | inr other ↦
          rw other (not-found number more (sym (cond-false (bytes_eq number thing.1.number) (Some thing) rest other) ∙ none))
    ]

-- and where none is declared
not-declared : (number : List ℕ) (lines : List Line) → account_declared number lines ≡ None → list_any (bytes_eq number) (numbers_in lines) ≡ false
not-declared number lines none =
    let test : ℕ × AccountLine → Bool = λ thing. bytes_eq number thing.1.number in
    not-found number (accounts_in lines) (map-none (λ (thing : ℕ × AccountLine). thing.0) (find test (accounts_in lines)) none)

-- a line without a fault after these lines
distinct-more : (earlier : List Line) (l : Line) → fault_at earlier l ≡ None → IsDistinct bytes_eq (numbers_in earlier)
    → IsDistinct bytes_eq (numbers_in earlier ++ numbers_in (l ∷ []))
distinct-more earlier (n, None) none distinct = rw (append-nil (numbers_in earlier)) distinct
distinct-more earlier (n, Some Nothing) none distinct = rw (append-nil (numbers_in earlier)) distinct
distinct-more earlier (n, Some (OfAccount line)) none distinct =
    let declared = account_declared line.number earlier in
    let many = too_many n 2000 (length (accounts_in earlier)) in
    let zoned = (or-none (bad_zone n line.zone) (option_or (two_same n declared) many) none).1 in
    let same : two_same n declared ≡ None = (or-none (two_same n declared) many zoned).0 in
    let fresh = not-declared line.number earlier (map-none _ declared same) in
    IsDistinct-push nat_list_eq_equiv (numbers_in earlier) line.number distinct fresh
distinct-more earlier (n, Some (OfHours line)) none distinct = rw (append-nil (numbers_in earlier)) distinct
distinct-more earlier (n, Some (OfKeyholder line)) none distinct = rw (append-nil (numbers_in earlier)) distinct
distinct-more earlier (n, Some (OfPlan line)) none distinct = rw (append-nil (numbers_in earlier)) distinct
distinct-more earlier (n, Some (OfOperator line)) none distinct = rw (append-nil (numbers_in earlier)) distinct
distinct-more earlier (n, Some (OfLapse seconds)) none distinct = rw (append-nil (numbers_in earlier)) distinct

-- lines without a fault after these lines
distinct-from : (earlier lines : List Line) → IsDistinct bytes_eq (numbers_in earlier) → first_fault earlier lines ≡ None → IsDistinct bytes_eq (numbers_in (earlier ++ lines))
unfolding first_fault
distinct-from earlier [] distinct none = rw (append-nil earlier) distinct
distinct-from earlier (l ∷ lines) distinct none =
    let faultless = or-none (fault_at earlier l) (first_fault (earlier ++ l ∷ []) lines) none in
    let more : IsDistinct bytes_eq (numbers_in (earlier ++ l ∷ [])) = rw (numbers-more earlier l) (distinct-more earlier l faultless.0 distinct) in
    rw (← append_assoc earlier (l ∷ []) lines) (distinct-from (earlier ++ l ∷ []) lines more faultless.1)

-- of lines without a fault
distinct-lines : (lines : List Line) → first_fault [] lines ≡ None → IsDistinct bytes_eq (map (λ (a : Account). a.number) (setup_of_lines lines).accounts)
unfolding IsDistinct
distinct-lines lines none =
    let named = map-map (account_with lines) (λ (a : Account). true) (λ (a : Account). a.number) (things (accounts_in lines))
    ∙ map-map (λ (thing : ℕ × AccountLine). thing.1) (λ (a : AccountLine). true) (λ (a : AccountLine). a.number) (accounts_in lines) in
    rw named (distinct-from [] lines tt none)

-- the setup of a text by whether it is too large and by the fault of its lines
distinct-result : (lines : List Line) (large : Bool) (fault : Option SetupFault) → first_fault [] lines ≡ fault
    → (let result : Result Setup SetupFault = if large then Err TooLarge else option_map_or Err fault (Ok (setup_of_lines lines)) in
    IsOk result → IsDistinct bytes_eq (map (λ (a : Account). a.number) (result_unwrap_or result (record { accounts = []; plans = []; operators = []; lapse = None })).accounts))
distinct-result lines true fault is ok = cc
distinct-result lines false None is ok = distinct-lines lines is
distinct-result lines false (Some fault) is ok = cc

-- of a text that is a setup
pub distinct_numbers : (text : List ℕ) → IsOk (setup_of text) → IsDistinct bytes_eq (map (λ (a : Account). a.number) (meaning text).accounts)
unfolding setup_of
distinct_numbers text ok = distinct-result (said_lines text) (nat_lt 4_194_304 (length text)) (first_fault [] (said_lines text)) refl ok
