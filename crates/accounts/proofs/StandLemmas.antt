-- What one more line adds to what the lines before it declare.
use Rattle.std.proofs.Common.{◌≡◌, ◌<◌, ℕ, zero, suc, List, [], ◌∷◌, ◌++◌, Bool, true, false, cond, Option, Some, None, map, length, nat_lt, slice_get}
use Rattle.std.proofs.Common.{inl, inr, refl, sym, ap, ◌∙◌, arith, append-nil}
use Rattle.std.specs.Prelude.{if◌then◌else◌, option_and_then, IfSome}
use Rattle.std.specs.List.{find, position, position_or_len}
use Rattle.std.specs.Option.{option_map}
use Rattle.std.specs.Str.{bytes_eq}
use Rattle.std.proofs.lemmas.Bool.{cases_Bool, cond-true, cond-false, false_from_ne_true, ltb-false}
use Rattle.std.proofs.lemmas.List.Elements.{filter_map-append}
use Rattle.std.proofs.lemmas.List.Folds.{find_at}
use Rattle.std.proofs.lemmas.Option.{cond_some, slice_get_past}
use Rattle.std.proofs.lemmas.Slice.Eq.{bytes_eq-Decides}
use Rattle.arc_data.specs.declared.window.Window.{Window}
use Rattle.alarm_rules.specs.SetupLines.{Said}
use Rattle.alarm_rules.specs.SetupLines.{AccountLine, PlanLine}
use Rattle.alarm_rules.specs.Setups.{Line, told, things, account_part, hours_part, keyholder_part, operator_part, lapse_part}
use Rattle.alarm_rules.specs.Setups.{accounts_in, windows_in, keyholders_in, operators_in, account_declared, zone_or_gmt}
use Rattle.accounts.specs.declared.entry.Entry.{Entry}
use Rattle.accounts.specs.declared.keyholders.Keyholder.{Keyholder}
use Rattle.accounts.specs.declared.plan_list.ClassPlan.{ClassPlan}
use Rattle.accounts.specs.declared.table.Table.{Table}
use Rattle.accounts.specs.Entries.{is_numbered, find_number, changed}
use Rattle.accounts.specs.Standing.{keyholder_entry, plan_entry, operator_entry, lapse_entry, first_lapse, plan_for, plans_for, entry_in, IsSilent, Stands}
use Rattle.accounts.proofs.LineLemmas.{cond_none}

-- Finding.

module _ {A B : Type 0} (f : A → B) (p : B → Bool) where
  found-first : (b : Bool) (x : A) (rest : Option B) (rest_of : Option A) → rest ≡ option_map f rest_of → cond b (Some (f x)) rest ≡ option_map f (cond b (Some x) rest_of)
  found-first true x rest rest_of is = refl
  found-first false x rest rest_of is = is

  pub find-map : (xs : List A) → find p (map f xs) ≡ option_map f (find (λ x. p (f x)) xs)
  find-map [] = refl
  find-map (x ∷ xs) = found-first (p (f x)) x (find p (map f xs)) (find (λ y. p (f y)) xs) (find-map xs)

  pub map-map : {C : Type 0} (g : B → C) (xs : List A) → map g (map f xs) ≡ map (λ x. g (f x)) xs
  map-map g [] = refl
  map-map g (x ∷ xs) = ap (λ ys. g (f x) ∷ ys) (map-map g xs)

module _ {A : Type 0} (p : A → Bool) where
  pub find-passes : (xs : List A) (x : A) → find p xs ≡ Some x → p x ≡ true
  find-passes [] x is = cc
  find-passes (y ∷ ys) x is =
      elim (cases_Bool (p y)) [
        | inl passes ↦
            let here = sym (cond-true (p y) (Some y) (find p ys) passes) ∙ is in
            let same : y ≡ x = cc in
            rw (← same) passes
        | inr fails ↦ find-passes ys x (sym (cond-false (p y) (Some y) (find p ys) fails) ∙ is)
      ]

  find-front : (xs ys : List A) → find p (xs ++ ys) ≡ None → find p xs ≡ None
  find-front [] ys none = refl
  find-front (x ∷ xs) ys none =
      elim (cases_Bool (p x)) [
        | inl passes ↦ let here = sym (cond-true (p x) (Some x) (find p (xs ++ ys)) passes) ∙ none in cc
        | inr fails ↦ cond-false (p x) (Some x) (find p xs) fails ∙ find-front xs ys (sym (cond-false (p x) (Some x) (find p (xs ++ ys)) fails) ∙ none)
      ]

  -- the place of what is found first
  pub place-there : (xs : List A) (place : Option ℕ) → place ≡ position p xs → IfSome place (λ i. slice_get xs i ≡ find p xs)
  place-there xs None is = tt
  place-there xs (Some i) is =
      let n = position_or_len p xs in
      let here = cond_some (nat_lt n (length xs)) n i (sym is) in
      sym (find_at p xs ∙ ap (slice_get xs) here.1)

  pub place-none : (xs : List A) → None ≡ position p xs → find p xs ≡ None
  place-none xs is =
      let n = position_or_len p xs in
      find_at p xs ∙ slice_get_past xs n (ltb-false n (length xs) (cond_none (nat_lt n (length xs)) n is))

there-some : {A : Type 0} (xs : List A) (i : ℕ) → i < length xs → slice_get xs i ≡ None → ⊥
there-some [] i low none = omega arith
there-some (x ∷ xs) zero low none = cc
there-some (x ∷ xs) (suc i) low none = there-some xs i (omega arith) none

number-none : {A : Type 0} (found : Option (ℕ × A)) → option_map (λ thing. thing.0) found ≡ None → found ≡ None
number-none None is = refl
number-none (Some thing) is = cc

-- One more line.

pub told-more : {A : Type 0} (part : Said → Option A) (lines : List Line) (l : Line) → told part (lines ++ l ∷ []) ≡ told part lines ++ told part (l ∷ [])
told-more part lines l = filter_map-append (λ (l : Line). option_map (λ thing. (l.0, thing)) (option_and_then part l.1)) lines (l ∷ [])

told-same : {A : Type 0} (part : Said → Option A) (lines : List Line) (l : Line) → told part (l ∷ []) ≡ [] → told part (lines ++ l ∷ []) ≡ told part lines
told-same part lines l none = told-more part lines l ∙ ap (λ more. told part lines ++ more) none ∙ append-nil (told part lines)

-- an account with its windows, keyholders and plans
abbrev pub shaped : ℕ × AccountLine → List Window → ℕ → List Keyholder → List ClassPlan → Entry
shaped thing windows holders keyholders plans =
    let account = thing.1 in
    record {
      account = record {
        number = account.number;
        key = account.key;
        beat = account.beat;
        week = record { zone = zone_or_gmt account.zone; windows = windows };
        holders = holders;
      };
      line = thing.0;
      keyholders = keyholders;
      plans = plans;
    }

-- and by what is said of it
abbrev pub built : ℕ × AccountLine → List (ℕ × Window) → List (ℕ × List ℕ) → List (ℕ × PlanLine) → Entry
built thing windows keyholders plans = shaped thing (things windows) (length keyholders) (map keyholder_entry keyholders) (map plan_entry plans)

module _ (lines : List Line) (l : Line) where
  abbrev more : List Line
  more = lines ++ l ∷ []

  -- an account with what the line adds
  pub entry-more : (thing : ℕ × AccountLine) → (let number = thing.1.number in
      entry_in more thing ≡ built thing (windows_in number lines ++ windows_in number (l ∷ [])) (keyholders_in number lines ++ keyholders_in number (l ∷ []))
      (plans_for (Some number) lines ++ plans_for (Some number) (l ∷ [])))
  entry-more thing =
      let number = thing.1.number in
      let windows = told-more (hours_part number) lines l in
      let keyholders = told-more (keyholder_part number) lines l in
      let plans = told-more (plan_for (Some number)) lines l in
      λ i. built thing (windows i) (keyholders i) (plans i)

  entry-silent : (thing : ℕ × AccountLine) → IsSilent thing.1.number (l ∷ []) → entry_in lines thing ≡ entry_in more thing
  entry-silent thing silent =
      let number = thing.1.number in
      let windows = sym (told-same (hours_part number) lines l silent.windows) in
      let keyholders = sym (told-same (keyholder_part number) lines l silent.keyholders) in
      let plans = sym (told-same (plan_for (Some number)) lines l silent.plans) in
      λ i. built thing (windows i) (keyholders i) (plans i)

  -- the accounts, where the line says nothing of any
  pub entries-silent : ((number : List ℕ) → IsSilent number (l ∷ [])) → (accounts : List (ℕ × AccountLine)) → map (entry_in lines) accounts ≡ map (entry_in more) accounts
  entries-silent silent accounts = ap (λ (f : ℕ × AccountLine → Entry). map f accounts) (λ i thing. entry-silent thing (silent thing.1.number) i)

  undeclared-before : (number : List ℕ) → account_declared number more ≡ None → account_declared number lines ≡ None
  undeclared-before number none =
      let test : ℕ × AccountLine → Bool = λ thing. bytes_eq number thing.1.number in
      let all = number-none (find test (accounts_in more)) none in
      ap (λ found. option_map (λ (thing : ℕ × AccountLine). thing.0) found)
      (find-front test (accounts_in lines) (accounts_in (l ∷ [])) (sym (ap (find test) (told-more account_part lines l)) ∙ all))

  silent-joined : (number : List ℕ) → IsSilent number lines → IsSilent number (l ∷ []) → IsSilent number more
  silent-joined number before here = record {
    windows = told-same (hours_part number) lines l here.windows ∙ before.windows;
    keyholders = told-same (keyholder_part number) lines l here.keyholders ∙ before.keyholders;
    plans = told-same (plan_for (Some number)) lines l here.plans ∙ before.plans;
  }

  pub stands-more : (old new : Table) → Stands lines old
      → new.accounts ≡ map (entry_in more) (accounts_in lines ++ accounts_in (l ∷ []))
      → new.plans ≡ map plan_entry (plans_for None lines ++ plans_for None (l ∷ []))
      → new.operators ≡ map operator_entry (operators_in lines ++ operators_in (l ∷ []))
      → new.lapse ≡ option_map lapse_entry (first_lapse (told lapse_part lines ++ told lapse_part (l ∷ [])))
      → ((number : List ℕ) → account_declared number lines ≡ None → IsSilent number (l ∷ []))
      → Stands more new
  stands-more old new stands accounts plans operators lapse silent = record {
    accounts = accounts ∙ sym (ap (λ xs. map (entry_in more) xs) (told-more account_part lines l));
    plans = plans ∙ sym (ap (λ xs. map plan_entry xs) (told-more (plan_for None) lines l));
    operators = operators ∙ sym (ap (λ xs. map operator_entry xs) (told-more operator_part lines l));
    lapse = lapse ∙ sym (ap (λ xs. option_map lapse_entry (first_lapse xs)) (told-more lapse_part lines l));
    silent = λ number none.
        let before = undeclared-before number none in
        silent-joined number (stands.silent number before) (silent number before);
  }

  -- the same parts of the table, where the line says nothing of them
  pub accounts-silent : (old : Table) → Stands lines old → ((number : List ℕ) → IsSilent number (l ∷ [])) → old.accounts ≡ map (entry_in more) (accounts_in lines ++ [])
  accounts-silent old stands silent =
      stands.accounts ∙ entries-silent silent (accounts_in lines) ∙ ap (λ xs. map (entry_in more) xs) (sym (append-nil (accounts_in lines)))

  pub plans-silent : (old : Table) → Stands lines old → old.plans ≡ map plan_entry (plans_for None lines ++ [])
  plans-silent old stands = stands.plans ∙ ap (λ xs. map plan_entry xs) (sym (append-nil (plans_for None lines)))

  pub operators-silent : (old : Table) → Stands lines old → old.operators ≡ map operator_entry (operators_in lines ++ [])
  operators-silent old stands = stands.operators ∙ ap (λ xs. map operator_entry xs) (sym (append-nil (operators_in lines)))

  pub lapse-silent : (old : Table) → Stands lines old → old.lapse ≡ option_map lapse_entry (first_lapse (told lapse_part lines ++ []))
  lapse-silent old stands = stands.lapse ∙ ap (λ xs. option_map lapse_entry (first_lapse xs)) (sym (append-nil (told lapse_part lines)))

  -- the accounts after a change of the one of this number
  pub accounts-changed : (old : Table) (number : List ℕ) (change : Entry → Entry) → Stands lines old
      → ((thing : ℕ × AccountLine) (b : Bool) → bytes_eq thing.1.number number ≡ b → (if b then change (entry_in lines thing) else entry_in lines thing) ≡ entry_in more thing)
      → changed number change old.accounts ≡ map (entry_in more) (accounts_in lines ++ [])
  accounts-changed old number change stands each =
      ap (changed number change) stands.accounts
      ∙ map-map (entry_in lines) (λ (entry : Entry). true) (λ entry. if bytes_eq entry.account.number number then change entry else entry) (accounts_in lines)
      ∙ ap (λ (f : ℕ × AccountLine → Entry). map f (accounts_in lines)) (λ i thing. each thing (bytes_eq thing.1.number number) refl i)
      ∙ ap (λ xs. map (entry_in more) xs) (sym (append-nil (accounts_in lines)))

-- An account that is declared.

pub record Located (lines : List Line) (table : Table) (number : List ℕ) (place : ℕ) : Type 0 where
  pub thing : ℕ × AccountLine
  pub at : slice_get table.accounts place ≡ Some (entry_in lines thing)
  pub same : thing.1.number ≡ number
  pub declared : account_declared number lines ≡ Some thing.0

module _ (lines : List Line) (table : Table) (stands : Stands lines table) (number : List ℕ) where
  abbrev test : ℕ × AccountLine → Bool
  test thing = bytes_eq number thing.1.number

  found-is : find_number number table.accounts ≡ option_map (entry_in lines) (find test (accounts_in lines))
  found-is = ap (find_number number) stands.accounts ∙ find-map (entry_in lines) (is_numbered number) (accounts_in lines)

  line-same : (found : Option (ℕ × AccountLine)) → option_map (λ thing. thing.0) found ≡ option_map (λ (entry : Entry). entry.line) (option_map (entry_in lines) found)
  line-same None = refl
  line-same (Some thing) = refl

  -- the line that declares an account
  pub declared-is : account_declared number lines ≡ option_map (λ (entry : Entry). entry.line) (find_number number table.accounts)
  declared-is = line-same (find test (accounts_in lines)) ∙ sym (ap (option_map (λ (entry : Entry). entry.line)) found-is)

  pub declared-none : None ≡ position (is_numbered number) table.accounts → account_declared number lines ≡ None
  declared-none none = declared-is ∙ ap (option_map (λ (entry : Entry). entry.line)) (place-none (is_numbered number) table.accounts none)

  pub located : (place : ℕ) → place < length table.accounts → slice_get table.accounts place ≡ find_number number table.accounts → Located lines table number place
  located place within there = by (find test (accounts_in lines)) refl
    where
      by : (found : Option (ℕ × AccountLine)) → find test (accounts_in lines) ≡ found → Located lines table number place
      by None is = absurd (there-some table.accounts place within (there ∙ found-is ∙ ap (option_map (entry_in lines)) is))
      by (Some thing) is = record {
        thing = thing;
        at = there ∙ found-is ∙ ap (option_map (entry_in lines)) is;
        same = sym ((bytes_eq-Decides number thing.1.number).0 (find-passes test (accounts_in lines) thing is));
        declared = ap (λ found. option_map (λ (t : ℕ × AccountLine). t.0) found) is;
      }

  -- another account that is not declared has another number
  pub undeclared-other : (line : ℕ) → account_declared number lines ≡ Some line → (other : List ℕ) → account_declared other lines ≡ None → bytes_eq other number ≡ false
  undeclared-other line declared other none =
      false_from_ne_true (bytes_eq other number) (λ same.
      let is = (bytes_eq-Decides other number).0 same in
      let clash = sym (ap (λ n. account_declared n lines) is ∙ declared) ∙ none in
      cc)
