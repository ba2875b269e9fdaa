-- Each kind of line taken up, and its faults.
use Rattle.std.proofs.Common.{◌≡◌, ◌<◌, ◌≤◌, ℕ, List, [], ◌∷◌, ◌++◌, Bool, true, false, cond, ◌&&◌, Option, Some, None, map, length, nat_lt, is_some, slice_get}
use Rattle.std.proofs.Common.{refl, sym, ap, ◌∙◌, arith, append-nil}
use Rattle.std.specs.Prelude.{if◌then◌else◌, IfSome}
use Rattle.std.specs.Bool.{OnTrue}
use Rattle.std.specs.List.{find, cons_option, position}
use Rattle.std.specs.Option.{option_eq, option_map, option_or}
use Rattle.std.specs.Str.{bytes_eq}
use Rattle.std.proofs.lemmas.Bool.{le-ltb, lt-ltb}
use Rattle.std.proofs.lemmas.List.{length-map, map-append}
use Rattle.arc_data.specs.Classes.{same_class}
use Rattle.arc_data.specs.declared.setup_fault.LineKind.TheVariants.{BadZone, NoAccount}
use Rattle.arc_data.specs.declared.setup_fault.SetupFault.{SetupFault}
use Rattle.arc_data.specs.declared.setup_fault.SetupFault.TheVariants.{BadLine, TwoSame, TooMany}
use Rattle.arc_data.specs.declared.signal.Class.{Class}
use Rattle.arc_data.specs.declared.window.Window.{Window}
use Rattle.alarm_rules.specs.SetupLines.{Said, Nothing, OfAccount, OfHours, OfKeyholder, OfPlan, OfOperator, OfLapse}
use Rattle.alarm_rules.specs.SetupLines.{AccountLine, HoursLine, KeyholderLine, PlanLine, Operator}
use Rattle.alarm_rules.specs.Setups.{Line, told, things, accounts_in, windows_in, keyholders_in, plans_in, operators_in, lapse_part}
use Rattle.alarm_rules.specs.Setups.{line_with, account_declared, is_plan_of, bad_zone, no_account, two_same, too_many, fault_of}
use Rattle.accounts.specs.declared.entry.Entry.{Entry}
use Rattle.accounts.specs.declared.keyholders.Keyholder.{Keyholder}
use Rattle.accounts.specs.declared.line.AccountLine.{AccountLine as KeptAccount}
use Rattle.accounts.specs.declared.operator.Operator.{Operator as KeptOperator}
use Rattle.accounts.specs.declared.operator_table.OperatorEntry.{OperatorEntry}
use Rattle.accounts.specs.declared.plan_list.ClassPlan.{ClassPlan}
use Rattle.accounts.specs.declared.table.LapseEntry.{LapseEntry}
use Rattle.accounts.specs.declared.table.Table.{Table}
use Rattle.accounts.specs.Entries.{new_entry, is_numbered, find_number, find_name, is_named, changed, with_window, with_keyholder, with_plan}
use Rattle.accounts.specs.Said.{said_account, said_operator}
use Rattle.accounts.specs.Standing.{keyholder_entry, plan_entry, operator_entry, lapse_entry, first_lapse, plan_said, plans_for, entry_in, IsSilent, Stands}
use Rattle.accounts.proofs.StandLemmas.{shaped, built, find-map, entry-more, stands-more, accounts-silent, plans-silent, operators-silent, lapse-silent, accounts-changed}
use Rattle.accounts.proofs.StandLemmas.{Located, declared-is, declared-none, undeclared-other}

at-some : {A : Type 0} (found : Option A) (P : A → Type 0) (x : A) → found ≡ Some x → IfSome found P → P x
at-some found P x is holds = rw is at holds

when-true : (b : Bool) (P : Type 0) → OnTrue b P → b ≡ true → P
when-true true P holds is = holds
when-true false P holds is = cc

fits-below : (number limit count : ℕ) → count < limit → too_many number limit count ≡ None
fits-below number limit count below = ap (λ b. if b then None else Some (TooMany number limit)) (lt-ltb count limit below)

fits-no-more : (number limit count : ℕ) → limit ≤ count → too_many number limit count ≡ Some (TooMany number limit)
fits-no-more number limit count above = ap (λ b. if b then None else Some (TooMany number limit)) (le-ltb count limit above)

-- The plan of an account, or of all, for a class, among all plans and among its own.

own-plan : (own for_class : Bool) (thing : ℕ × PlanLine) (all its_own : List (ℕ × PlanLine)) (tests : ℕ × PlanLine → Bool) (test : ℕ × PlanLine → Bool)
    → test thing ≡ for_class → find tests all ≡ find test its_own
    → cond (own && for_class) (Some thing) (find tests all) ≡ find test (cons_option (option_map (λ said. (thing.0, said)) (if own then Some thing.1 else None)) its_own)
own-plan true for_class thing all its_own tests test is rest = λ i. cond (sym is i) (Some thing) (rest i)
own-plan false for_class thing all its_own tests test is rest = rest

pub plans-found : (account : Option (List ℕ)) (class : Class) (lines : List Line)
    → find (λ thing. is_plan_of account class thing.1) (plans_in lines) ≡ find (λ thing. same_class class thing.1.class) (plans_for account lines)
plans-found account class [] = refl
plans-found account class ((n, None) ∷ lines) = plans-found account class lines
plans-found account class ((n, Some Nothing) ∷ lines) = plans-found account class lines
plans-found account class ((n, Some (OfAccount line)) ∷ lines) = plans-found account class lines
plans-found account class ((n, Some (OfHours line)) ∷ lines) = plans-found account class lines
plans-found account class ((n, Some (OfKeyholder line)) ∷ lines) = plans-found account class lines
plans-found account class ((n, Some (OfPlan line)) ∷ lines) =
    own-plan (option_eq bytes_eq account line.account) (same_class class line.class) (n, line) (plans_in lines) (plans_for account lines)
    (λ thing. is_plan_of account class thing.1) (λ thing. same_class class thing.1.class) refl (plans-found account class lines)
plans-found account class ((n, Some (OfOperator line)) ∷ lines) = plans-found account class lines
plans-found account class ((n, Some (OfLapse seconds)) ∷ lines) = plans-found account class lines

module _ (lines : List Line) (n : ℕ) (old : Table) (stands : Stands lines old) where
  abbrev more : Said → List Line
  more said = lines ++ (n, Some said) ∷ []

  abbrev one : Said → List Line
  one said = (n, Some said) ∷ []

  -- nothing is said
  pub nothing-taken : Stands (more Nothing) old
  nothing-taken =
      let quiet : (number : List ℕ) → IsSilent number (one Nothing) = λ number. record { windows = refl; keyholders = refl; plans = refl } in
      stands-more lines (n, Some Nothing) old old stands (accounts-silent lines (n, Some Nothing) old stands quiet) (plans-silent lines (n, Some Nothing) old stands)
      (operators-silent lines (n, Some Nothing) old stands) (lapse-silent lines (n, Some Nothing) old stands) (λ number none. quiet number)

  -- An account.

  module _ (kept : KeptAccount) where
    abbrev account : AccountLine
    account = said_account kept

    abbrev account-fault : Bool → Option ℕ → ℕ → Option SetupFault
    account-fault named declared count =
        option_or (if named then None else Some (BadLine n BadZone)) (option_or (two_same n declared) (too_many n 2000 count))

    pub account-nowhere : is_some kept.zone ≡ false → fault_of lines n (OfAccount account) ≡ Some (BadLine n BadZone)
    account-nowhere none = ap (λ named. account-fault named (account_declared account.number lines) (length (accounts_in lines))) none

    count-is : length (accounts_in lines) ≡ length old.accounts
    count-is = sym (ap length stands.accounts ∙ length-map (accounts_in lines) (entry_in lines))

    account-declared : (found : Option Entry) → find_number account.number old.accounts ≡ found
        → account_declared account.number lines ≡ option_map (λ (entry : Entry). entry.line) found
    account-declared found is = declared-is lines old stands account.number ∙ ap (option_map (λ (entry : Entry). entry.line)) is

    pub account-same : (entry : Entry) → is_some kept.zone ≡ true → Some entry ≡ find_number account.number old.accounts → fault_of lines n (OfAccount account) ≡ Some (TwoSame n entry.line)
    account-same entry zone is = λ i. account-fault (zone i) (account-declared (Some entry) (sym is) i) (length (accounts_in lines))

    pub account-many : is_some kept.zone ≡ true → None ≡ find_number account.number old.accounts → 2000 ≤ length old.accounts → fault_of lines n (OfAccount account) ≡ Some (TooMany n 2000)
    account-many zone none full =
        (λ i. account-fault (zone i) (account-declared None (sym none) i) (length (accounts_in lines)))
        ∙ fits-no-more n 2000 (length (accounts_in lines)) (omega (arith, count-is))

    pub account-faultless : is_some kept.zone ≡ true → None ≡ find_number account.number old.accounts → length old.accounts < 2000 → fault_of lines n (OfAccount account) ≡ None
    account-faultless zone none room =
        (λ i. account-fault (zone i) (account-declared None (sym none) i) (length (accounts_in lines)))
        ∙ fits-below n 2000 (length (accounts_in lines)) (omega (arith, count-is))

    pub account-taken : (new : Table) → None ≡ find_number account.number old.accounts → new.accounts ≡ old.accounts ++ new_entry kept n ∷ []
        → new.plans ≡ old.plans → new.operators ≡ old.operators → new.lapse ≡ old.lapse → Stands (more (OfAccount account)) new
    account-taken new none accounts plans operators lapse =
        let l : Line = (n, Some (OfAccount account)) in
        let quiet : (number : List ℕ) → IsSilent number (one (OfAccount account)) = λ number. record { windows = refl; keyholders = refl; plans = refl } in
        let silent = stands.silent account.number (account-declared None (sym none)) in
        let same = accounts-silent lines l old stands quiet ∙ ap (λ xs. map (entry_in (more (OfAccount account))) xs) (append-nil (accounts_in lines)) in
        stands-more lines l old new stands
        (accounts ∙ ap (λ entries. entries ++ new_entry kept n ∷ []) same
        ∙ ap (λ entry. map (entry_in (more (OfAccount account))) (accounts_in lines) ++ entry ∷ []) (fresh silent)
        ∙ sym (map-append (entry_in (more (OfAccount account))) (accounts_in lines) ((n, account) ∷ [])))
        (plans ∙ plans-silent lines l old stands) (operators ∙ operators-silent lines l old stands) (lapse ∙ lapse-silent lines l old stands)
        (λ number undeclared. quiet number)
      where
        fresh : IsSilent account.number lines → new_entry kept n ≡ entry_in (more (OfAccount account)) (n, account)
        fresh silent = sym (entry-more lines (n, Some (OfAccount account)) (n, account)
            ∙ (λ i. built (n, account) (silent.windows i ++ []) (silent.keyholders i ++ []) (silent.plans i ++ [])))

  -- An operator.

  module _ (kept : KeptOperator) where
    abbrev operator : Operator
    operator = said_operator kept

    abbrev operator-fault : Option ℕ → ℕ → Option SetupFault
    operator-fault same count = option_or (two_same n same) (too_many n 64 count)

    abbrev line_of : Option OperatorEntry → Option ℕ
    line_of found = option_map (λ (entry : OperatorEntry). entry.line) found

    abbrev same_name : ℕ × Operator → Bool
    same_name thing = bytes_eq operator.name thing.1.name

    operators-count : length (operators_in lines) ≡ length old.operators
    operators-count = sym (ap length stands.operators ∙ length-map (operators_in lines) operator_entry)

    line-same : (found : Option (ℕ × Operator)) → option_map (λ thing. thing.0) found ≡ line_of (option_map operator_entry found)
    line-same None = refl
    line-same (Some thing) = refl

    operator-declared : (found : Option OperatorEntry) → find_name operator.name old.operators ≡ found
        → line_with (λ other. bytes_eq operator.name other.name) (operators_in lines) ≡ line_of found
    operator-declared found is =
        line-same (find same_name (operators_in lines))
        ∙ ap line_of (sym (find-map operator_entry (is_named operator.name) (operators_in lines)) ∙ sym (ap (find_name operator.name) stands.operators) ∙ is)

    pub operator-same : (entry : OperatorEntry) → Some entry ≡ find_name operator.name old.operators → fault_of lines n (OfOperator operator) ≡ Some (TwoSame n entry.line)
    operator-same entry is = ap (λ same. operator-fault same (length (operators_in lines))) (operator-declared (Some entry) (sym is))

    pub operator-many : None ≡ find_name operator.name old.operators → 64 ≤ length old.operators → fault_of lines n (OfOperator operator) ≡ Some (TooMany n 64)
    operator-many none full =
        ap (λ same. operator-fault same (length (operators_in lines))) (operator-declared None (sym none))
        ∙ fits-no-more n 64 (length (operators_in lines)) (omega (arith, operators-count))

    pub operator-faultless : None ≡ find_name operator.name old.operators → length old.operators < 64 → fault_of lines n (OfOperator operator) ≡ None
    operator-faultless none room =
        ap (λ same. operator-fault same (length (operators_in lines))) (operator-declared None (sym none))
        ∙ fits-below n 64 (length (operators_in lines)) (omega (arith, operators-count))

    pub operator-taken : (new : Table) → new.accounts ≡ old.accounts → new.plans ≡ old.plans
        → new.operators ≡ old.operators ++ record { operator = kept; line = n } ∷ [] → new.lapse ≡ old.lapse → Stands (more (OfOperator operator)) new
    operator-taken new accounts plans operators lapse =
        let l : Line = (n, Some (OfOperator operator)) in
        let quiet : (number : List ℕ) → IsSilent number (one (OfOperator operator)) = λ number. record { windows = refl; keyholders = refl; plans = refl } in
        stands-more lines l old new stands (accounts ∙ accounts-silent lines l old stands quiet) (plans ∙ plans-silent lines l old stands)
        (operators ∙ ap (λ entries. entries ++ operator_entry (n, operator) ∷ []) stands.operators
        ∙ sym (map-append operator_entry (operators_in lines) ((n, operator) ∷ [])))
        (lapse ∙ lapse-silent lines l old stands) (λ number undeclared. quiet number)

  -- A lapse.

  module _ (seconds : ℕ) where
    line-of-lapse : (found : Option (ℕ × ℕ)) → option_map (λ thing. thing.0) found ≡ option_map (λ (entry : LapseEntry). entry.line) (option_map lapse_entry found)
    line-of-lapse None = refl
    line-of-lapse (Some thing) = refl

    lapse-declared : (found : Option LapseEntry) → old.lapse ≡ found → fault_of lines n (OfLapse seconds) ≡ two_same n (option_map (λ (entry : LapseEntry). entry.line) found)
    lapse-declared found is =
        ap (two_same n) (line-of-lapse (first_lapse (told lapse_part lines)) ∙ ap (option_map (λ (entry : LapseEntry). entry.line)) (sym stands.lapse ∙ is))

    pub lapse-same : (entry : LapseEntry) → old.lapse ≡ Some entry → fault_of lines n (OfLapse seconds) ≡ Some (TwoSame n entry.line)
    lapse-same entry is = lapse-declared (Some entry) is

    pub lapse-faultless : old.lapse ≡ None → fault_of lines n (OfLapse seconds) ≡ None
    lapse-faultless none = lapse-declared None none

    -- the first one is the one behind those before, where these are none
    first-behind : (lapses : List (ℕ × ℕ)) → None ≡ option_map lapse_entry (first_lapse lapses) → first_lapse (lapses ++ (n, seconds) ∷ []) ≡ Some (n, seconds)
    first-behind [] none = refl
    first-behind (lapse ∷ lapses) none = cc

    pub lapse-taken : (new : Table) → old.lapse ≡ None → new.accounts ≡ old.accounts → new.plans ≡ old.plans → new.operators ≡ old.operators
        → new.lapse ≡ Some (record { seconds = seconds; line = n }) → Stands (more (OfLapse seconds)) new
    lapse-taken new none accounts plans operators lapse =
        let l : Line = (n, Some (OfLapse seconds)) in
        let quiet : (number : List ℕ) → IsSilent number (one (OfLapse seconds)) = λ number. record { windows = refl; keyholders = refl; plans = refl } in
        stands-more lines l old new stands (accounts ∙ accounts-silent lines l old stands quiet) (plans ∙ plans-silent lines l old stands)
        (operators ∙ operators-silent lines l old stands)
        (lapse ∙ sym (ap (option_map lapse_entry) (first-behind (told lapse_part lines) (sym none ∙ stands.lapse)))) (λ number undeclared. quiet number)

  -- What was said of an account before.

  abbrev windows_before : ℕ × AccountLine → List (ℕ × Window)
  windows_before thing = windows_in thing.1.number lines

  abbrev keyholders_before : ℕ × AccountLine → List (ℕ × List ℕ)
  keyholders_before thing = keyholders_in thing.1.number lines

  abbrev plans_before : ℕ × AccountLine → List (ℕ × PlanLine)
  plans_before thing = plans_for (Some thing.1.number) lines

  -- A line of an account that is not declared.

  account-missing : (number : List ℕ) → None ≡ position (is_numbered number) old.accounts → no_account n number lines ≡ Some (BadLine n NoAccount)
  account-missing number none = ap (λ declared. if is_some declared then None else Some (BadLine n NoAccount)) (declared-none lines old stands number none)

  pub hours-missing : (hours : HoursLine) → None ≡ position (is_numbered hours.account) old.accounts → fault_of lines n (OfHours hours) ≡ Some (BadLine n NoAccount)
  hours-missing hours none = ap (λ fault. option_or fault (too_many n 28 (length (windows_in hours.account lines)))) (account-missing hours.account none)

  pub keyholder-missing : (keyholder : KeyholderLine) → None ≡ position (is_numbered keyholder.account) old.accounts
      → fault_of lines n (OfKeyholder keyholder) ≡ Some (BadLine n NoAccount)
  keyholder-missing keyholder none =
      let there = keyholders_in keyholder.account lines in
      ap (λ fault. option_or fault (option_or (two_same n (line_with (bytes_eq keyholder.name) there)) (too_many n 4 (length there)))) (account-missing keyholder.account none)

  pub plan-missing : (account : List ℕ) (plan : ClassPlan) → None ≡ position (is_numbered account) old.accounts
      → fault_of lines n (plan_said (Some account) plan) ≡ Some (BadLine n NoAccount)
  plan-missing account plan none =
      ap (λ fault. option_or fault (two_same n (line_with (is_plan_of (Some account) plan.class) (plans_in lines)))) (account-missing account none)

  account-there : (number : List ℕ) (line : ℕ) → account_declared number lines ≡ Some line → no_account n number lines ≡ None
  account-there number line declared = ap (λ found. if is_some found then None else Some (BadLine n NoAccount)) declared

  -- A window.

  module _ (hours : HoursLine) (place : ℕ) (at : Located lines old hours.account place) where
    abbrev windows_there : List (ℕ × Window)
    windows_there = windows_in hours.account lines

    hours-count : length (things (windows_in at.thing.1.number lines)) ≡ length windows_there
    hours-count = length-map (windows_in at.thing.1.number lines) (λ thing. thing.1) ∙ ap (λ number. length (windows_in number lines)) at.same

    hours-by : (b : Bool) → IfSome (slice_get old.accounts place) (λ (e : Entry). b ≡ nat_lt (length e.account.week.windows) 28)
        → fault_of lines n (OfHours hours) ≡ (if b then None else Some (TooMany n 28))
    hours-by b room =
        let has = at-some (slice_get old.accounts place) _ (entry_in lines at.thing) at.at room ∙ ap (λ count. nat_lt count 28) hours-count in
        ap (λ fault. option_or fault (too_many n 28 (length windows_there))) (account-there hours.account at.thing.0 at.declared)
        ∙ ap (λ fits. if fits then None else Some (TooMany n 28)) (sym has)

    -- an account with the window, where it is its own
    abbrev hours-told : ℕ × AccountLine → Bool → Entry
    hours-told thing own =
        built thing (windows_before thing ++ cons_option (option_map (λ window. (n, window)) (if own then Some hours.window else None)) [])
        (keyholders_before thing ++ []) (plans_before thing ++ [])

    hours-built : (thing : ℕ × AccountLine) (own : Bool) → hours-told thing own ≡ (if own then with_window hours.window (entry_in lines thing) else entry_in lines thing)
    hours-built thing true =
        let before = windows_before thing in
        let windows : things (before ++ (n, hours.window) ∷ []) ≡ things before ++ hours.window ∷ [] = map-append (λ t. t.1) before ((n, hours.window) ∷ []) in
        let keyholders = append-nil (keyholders_before thing) in
        λ i. shaped thing (windows i) (length (keyholders i)) (map keyholder_entry (keyholders i)) (map plan_entry (append-nil (plans_before thing) i))
    hours-built thing false = λ i. built thing (append-nil (windows_before thing) i) (append-nil (keyholders_before thing) i) (append-nil (plans_before thing) i)

    hours-entry : (thing : ℕ × AccountLine) (b : Bool) → bytes_eq thing.1.number hours.account ≡ b
        → (if b then with_window hours.window (entry_in lines thing) else entry_in lines thing) ≡ entry_in (more (OfHours hours)) thing
    hours-entry thing b is = sym (entry-more lines (n, Some (OfHours hours)) thing ∙ ap (hours-told thing) is ∙ hours-built thing b)

    hours-silent : (number : List ℕ) → account_declared number lines ≡ None → IsSilent number (one (OfHours hours))
    hours-silent number none =
        let other = undeclared-other lines old stands hours.account at.thing.0 at.declared number none in
        record {
          windows = ap (λ own. cons_option (option_map (λ window. (n, window)) (if own then Some hours.window else None)) []) other;
          keyholders = refl;
          plans = refl;
        }

    pub hours-many : (b : Bool) → b ≡ false → IfSome (slice_get old.accounts place) (λ (e : Entry). b ≡ nat_lt (length e.account.week.windows) 28)
        → fault_of lines n (OfHours hours) ≡ Some (TooMany n 28)
    hours-many b full room = hours-by b room ∙ ap (λ fits. if fits then None else Some (TooMany n 28)) full

    pub hours-taken : (b : Bool) (new : Table) → b ≡ true → IfSome (slice_get old.accounts place) (λ (e : Entry). b ≡ nat_lt (length e.account.week.windows) 28)
        → OnTrue b (IfSome (slice_get old.accounts place) (λ (e : Entry). new.accounts ≡ changed e.account.number (with_window hours.window) old.accounts))
        → new.plans ≡ old.plans → new.operators ≡ old.operators → new.lapse ≡ old.lapse
        → (fault_of lines n (OfHours hours) ≡ None) × Stands (more (OfHours hours)) new
    hours-taken b new fits room added plans operators lapse =
        let l : Line = (n, Some (OfHours hours)) in
        let wrote = at-some (slice_get old.accounts place) _ (entry_in lines at.thing) at.at (when-true b _ added fits) in (
          hours-by b room ∙ ap (λ t. if t then None else Some (TooMany n 28)) fits,
          stands-more lines l old new stands
              (wrote ∙ ap (λ number. changed number (with_window hours.window) old.accounts) at.same
              ∙ accounts-changed lines l old hours.account (with_window hours.window) stands hours-entry)
              (plans ∙ plans-silent lines l old stands) (operators ∙ operators-silent lines l old stands) (lapse ∙ lapse-silent lines l old stands) hours-silent,
        )

  -- A keyholder.

  module _ (keyholder : KeyholderLine) (place : ℕ) (at : Located lines old keyholder.account place) where
    abbrev keyholders_there : List (ℕ × List ℕ)
    keyholders_there = keyholders_in keyholder.account lines

    abbrev kept_keyholder : Keyholder
    kept_keyholder = keyholder_entry (n, keyholder.name)

    keyholders-count : length (map keyholder_entry (keyholders_in at.thing.1.number lines)) ≡ length keyholders_there
    keyholders-count = length-map (keyholders_in at.thing.1.number lines) keyholder_entry ∙ ap (λ number. length (keyholders_in number lines)) at.same

    abbrev keyholder-fault : Option ℕ → Option SetupFault
    keyholder-fault same = option_or (two_same n same) (too_many n 4 (length keyholders_there))

    keyholder-declared : (same : Option ℕ) → line_with (bytes_eq keyholder.name) keyholders_there ≡ same → fault_of lines n (OfKeyholder keyholder) ≡ keyholder-fault same
    keyholder-declared same is =
        ap (λ fault. option_or fault (keyholder-fault (line_with (bytes_eq keyholder.name) keyholders_there))) (account-there keyholder.account at.thing.0 at.declared)
        ∙ ap keyholder-fault is

    line-of-keyholder : (found : Option (ℕ × List ℕ)) → option_map (λ (k : Keyholder). k.line) (option_map keyholder_entry found) ≡ option_map (λ thing. thing.0) found
    line-of-keyholder None = refl
    line-of-keyholder (Some thing) = refl

    -- the line of the keyholder of this name, by the account at the place
    same-keyholder : (e : Entry) → slice_get old.accounts place ≡ Some e
        → option_map (λ (k : Keyholder). k.line) (find (λ k. bytes_eq keyholder.name k.name) e.keyholders) ≡ line_with (bytes_eq keyholder.name) keyholders_there
    same-keyholder e there =
        let is : e ≡ entry_in lines at.thing = let both = sym there ∙ at.at in cc in
        ap (λ (x : Entry). option_map (λ (k : Keyholder). k.line) (find (λ k. bytes_eq keyholder.name k.name) x.keyholders)) is
        ∙ ap (option_map (λ (k : Keyholder). k.line)) (find-map keyholder_entry (λ k. bytes_eq keyholder.name k.name) (keyholders_in at.thing.1.number lines))
        ∙ line-of-keyholder (find (λ thing. bytes_eq keyholder.name thing.1) (keyholders_in at.thing.1.number lines))
        ∙ ap (λ number. line_with (bytes_eq keyholder.name) (keyholders_in number lines)) at.same

    pub keyholder-same : (e : Entry) (first : ℕ) → slice_get old.accounts place ≡ Some e
        → Some first ≡ option_map (λ (k : Keyholder). k.line) (find (λ k. bytes_eq keyholder.name k.name) e.keyholders)
        → fault_of lines n (OfKeyholder keyholder) ≡ Some (TwoSame n first)
    keyholder-same e first there is = keyholder-declared (Some first) (sym (same-keyholder e there) ∙ sym is)

    keyholder-by : (e : Entry) (b : Bool) → slice_get old.accounts place ≡ Some e
        → None ≡ option_map (λ (k : Keyholder). k.line) (find (λ k. bytes_eq keyholder.name k.name) e.keyholders)
        → IfSome (slice_get old.accounts place) (λ (x : Entry). b ≡ nat_lt (length x.keyholders) 4)
        → fault_of lines n (OfKeyholder keyholder) ≡ (if b then None else Some (TooMany n 4))
    keyholder-by e b there none room =
        let has = at-some (slice_get old.accounts place) _ (entry_in lines at.thing) at.at room ∙ ap (λ count. nat_lt count 4) keyholders-count in
        keyholder-declared None (sym (same-keyholder e there) ∙ sym none) ∙ ap (λ fits. if fits then None else Some (TooMany n 4)) (sym has)

    abbrev keyholder-told : ℕ × AccountLine → Bool → Entry
    keyholder-told thing own =
        built thing (windows_before thing ++ [])
        (keyholders_before thing ++ cons_option (option_map (λ name. (n, name)) (if own then Some keyholder.name else None)) []) (plans_before thing ++ [])

    keyholder-built : (thing : ℕ × AccountLine) (own : Bool)
        → keyholder-told thing own ≡ (if own then with_keyholder kept_keyholder (entry_in lines thing) else entry_in lines thing)
    keyholder-built thing true =
        let before = keyholders_before thing in
        let after : List (ℕ × List ℕ) = before ++ (n, keyholder.name) ∷ [] in
        let kept : map keyholder_entry after ≡ map keyholder_entry before ++ kept_keyholder ∷ [] = map-append keyholder_entry before ((n, keyholder.name) ∷ []) in
        let count : length after ≡ length (map keyholder_entry before ++ kept_keyholder ∷ []) = sym (length-map after keyholder_entry) ∙ ap length kept in
        λ i. shaped thing (things (append-nil (windows_before thing) i)) (count i) (kept i) (map plan_entry (append-nil (plans_before thing) i))
    keyholder-built thing false = λ i. built thing (append-nil (windows_before thing) i) (append-nil (keyholders_before thing) i) (append-nil (plans_before thing) i)

    keyholder-entered : (thing : ℕ × AccountLine) (b : Bool) → bytes_eq thing.1.number keyholder.account ≡ b
        → (if b then with_keyholder kept_keyholder (entry_in lines thing) else entry_in lines thing) ≡ entry_in (more (OfKeyholder keyholder)) thing
    keyholder-entered thing b is = sym (entry-more lines (n, Some (OfKeyholder keyholder)) thing ∙ ap (keyholder-told thing) is ∙ keyholder-built thing b)

    keyholder-silent : (number : List ℕ) → account_declared number lines ≡ None → IsSilent number (one (OfKeyholder keyholder))
    keyholder-silent number none =
        let other = undeclared-other lines old stands keyholder.account at.thing.0 at.declared number none in
        record {
          windows = refl;
          keyholders = ap (λ own. cons_option (option_map (λ name. (n, name)) (if own then Some keyholder.name else None)) []) other;
          plans = refl;
        }

    pub keyholder-many : (e : Entry) (b : Bool) → b ≡ false → slice_get old.accounts place ≡ Some e
        → None ≡ option_map (λ (k : Keyholder). k.line) (find (λ k. bytes_eq keyholder.name k.name) e.keyholders)
        → IfSome (slice_get old.accounts place) (λ (x : Entry). b ≡ nat_lt (length x.keyholders) 4)
        → fault_of lines n (OfKeyholder keyholder) ≡ Some (TooMany n 4)
    keyholder-many e b full there none room = keyholder-by e b there none room ∙ ap (λ fits. if fits then None else Some (TooMany n 4)) full

    pub keyholder-taken : (e : Entry) (b : Bool) (new : Table) → b ≡ true → slice_get old.accounts place ≡ Some e
        → None ≡ option_map (λ (k : Keyholder). k.line) (find (λ k. bytes_eq keyholder.name k.name) e.keyholders)
        → IfSome (slice_get old.accounts place) (λ (x : Entry). b ≡ nat_lt (length x.keyholders) 4)
        → OnTrue b (IfSome (slice_get old.accounts place) (λ (x : Entry). new.accounts ≡ changed x.account.number (with_keyholder kept_keyholder) old.accounts))
        → new.plans ≡ old.plans → new.operators ≡ old.operators → new.lapse ≡ old.lapse
        → (fault_of lines n (OfKeyholder keyholder) ≡ None) × Stands (more (OfKeyholder keyholder)) new
    keyholder-taken e b new fits there none room added plans operators lapse =
        let l : Line = (n, Some (OfKeyholder keyholder)) in
        let wrote = at-some (slice_get old.accounts place) _ (entry_in lines at.thing) at.at (when-true b _ added fits) in (
          keyholder-by e b there none room ∙ ap (λ t. if t then None else Some (TooMany n 4)) fits,
          stands-more lines l old new stands
              (wrote ∙ ap (λ number. changed number (with_keyholder kept_keyholder) old.accounts) at.same
              ∙ accounts-changed lines l old keyholder.account (with_keyholder kept_keyholder) stands keyholder-entered)
              (plans ∙ plans-silent lines l old stands) (operators ∙ operators-silent lines l old stands) (lapse ∙ lapse-silent lines l old stands) keyholder-silent,
        )

  -- Plans.

  line-of-plan : (found : Option (ℕ × PlanLine)) → option_map (λ thing. thing.0) found ≡ option_map (λ (p : ClassPlan). p.line) (option_map plan_entry found)
  line-of-plan None = refl
  line-of-plan (Some thing) = refl

  -- the line of the plan of an account, or of all, for a class, by the plans that are kept of it
  same-plan : (account : Option (List ℕ)) (class : Class) (kept : List ClassPlan) → kept ≡ map plan_entry (plans_for account lines)
      → line_with (is_plan_of account class) (plans_in lines) ≡ option_map (λ (p : ClassPlan). p.line) (find (λ p. same_class class p.class) kept)
  same-plan account class kept is =
      ap (option_map (λ (thing : ℕ × PlanLine). thing.0)) (plans-found account class lines)
      ∙ line-of-plan (find (λ thing. same_class class thing.1.class) (plans_for account lines))
      ∙ ap (option_map (λ (p : ClassPlan). p.line)) (sym (ap (find (λ p. same_class class p.class)) is ∙ find-map plan_entry (λ p. same_class class p.class) (plans_for account lines)))

  -- a plan of all accounts

  module _ (plan : ClassPlan) where
    pub plan-same : (same : ClassPlan) → Some same ≡ find (λ p. same_class plan.class p.class) old.plans → fault_of lines n (plan_said None plan) ≡ Some (TwoSame n same.line)
    plan-same same is =
        ap (two_same n) (same-plan None plan.class old.plans stands.plans ∙ ap (option_map (λ (p : ClassPlan). p.line)) (sym is))

    pub plan-faultless : None ≡ find (λ p. same_class plan.class p.class) old.plans → fault_of lines n (plan_said None plan) ≡ None
    plan-faultless is =
        ap (two_same n) (same-plan None plan.class old.plans stands.plans ∙ ap (option_map (λ (p : ClassPlan). p.line)) (sym is))

    pub plan-taken : (new : Table) → plan.line ≡ n → new.accounts ≡ old.accounts → new.plans ≡ old.plans ++ plan ∷ [] → new.operators ≡ old.operators
        → new.lapse ≡ old.lapse → Stands (more (plan_said None plan)) new
    plan-taken new number accounts plans operators lapse =
        let l : Line = (n, Some (plan_said None plan)) in
        let said : PlanLine = record { account = None; class = plan.class; words = plan.plan } in
        let quiet : (number : List ℕ) → IsSilent number (one (plan_said None plan)) = λ number. record { windows = refl; keyholders = refl; plans = refl } in
        let kept : plan ≡ plan_entry (n, said) = λ i. record { class = plan.class; plan = plan.plan; line = number i } in
        stands-more lines l old new stands (accounts ∙ accounts-silent lines l old stands quiet)
        (plans ∙ (λ i. stands.plans i ++ kept i ∷ []) ∙ sym (map-append plan_entry (plans_for None lines) ((n, said) ∷ [])))
        (operators ∙ operators-silent lines l old stands) (lapse ∙ lapse-silent lines l old stands) (λ number undeclared. quiet number)

  -- the plan of an account

  module _ (account : List ℕ) (plan : ClassPlan) (place : ℕ) (at : Located lines old account place) where
    abbrev said_plan_of : PlanLine
    said_plan_of = record { account = Some account; class = plan.class; words = plan.plan }

    plan-declared : (e : Entry) → slice_get old.accounts place ≡ Some e
        → fault_of lines n (plan_said (Some account) plan) ≡ two_same n (option_map (λ (p : ClassPlan). p.line) (find (λ p. same_class plan.class p.class) e.plans))
    plan-declared e there =
        let is : e ≡ entry_in lines at.thing = let both = sym there ∙ at.at in cc in
        let kept : e.plans ≡ map plan_entry (plans_for (Some account) lines) =
        ap (λ (x : Entry). x.plans) is ∙ ap (λ number. map plan_entry (plans_for (Some number) lines)) at.same in
        ap (λ fault. option_or fault (two_same n (line_with (is_plan_of (Some account) plan.class) (plans_in lines)))) (account-there account at.thing.0 at.declared)
        ∙ ap (two_same n) (same-plan (Some account) plan.class e.plans kept)

    pub plan-of-same : (e : Entry) (same : ClassPlan) → slice_get old.accounts place ≡ Some e → Some same ≡ find (λ p. same_class plan.class p.class) e.plans
        → fault_of lines n (plan_said (Some account) plan) ≡ Some (TwoSame n same.line)
    plan-of-same e same there is = plan-declared e there ∙ ap (λ found. two_same n (option_map (λ (p : ClassPlan). p.line) found)) (sym is)

    abbrev plan-told : ℕ × AccountLine → Bool → Entry
    plan-told thing own =
        built thing (windows_before thing ++ []) (keyholders_before thing ++ [])
        (plans_before thing ++ cons_option (option_map (λ said. (n, said)) (if own then Some said_plan_of else None)) [])

    plan-built : plan.line ≡ n → (thing : ℕ × AccountLine) (own : Bool) → plan-told thing own ≡ (if own then with_plan plan (entry_in lines thing) else entry_in lines thing)
    plan-built line thing true =
        let before = plans_before thing in
        let kept : map plan_entry (before ++ (n, said_plan_of) ∷ []) ≡ map plan_entry before ++ plan_entry (n, said_plan_of) ∷ [] = map-append plan_entry before ((n, said_plan_of) ∷ []) in
        let own : plan_entry (n, said_plan_of) ≡ plan = λ i. record { class = plan.class; plan = plan.plan; line = sym line i } in
        let all = kept ∙ ap (λ p. map plan_entry before ++ p ∷ []) own in
        let keyholders = append-nil (keyholders_before thing) in
        λ i. shaped thing (things (append-nil (windows_before thing) i)) (length (keyholders i)) (map keyholder_entry (keyholders i)) (all i)
    plan-built line thing false = λ i. built thing (append-nil (windows_before thing) i) (append-nil (keyholders_before thing) i) (append-nil (plans_before thing) i)

    plan-entered : plan.line ≡ n → (thing : ℕ × AccountLine) (b : Bool) → bytes_eq thing.1.number account ≡ b
        → (if b then with_plan plan (entry_in lines thing) else entry_in lines thing) ≡ entry_in (more (plan_said (Some account) plan)) thing
    plan-entered line thing b is =
        sym (entry-more lines (n, Some (plan_said (Some account) plan)) thing ∙ ap (plan-told thing) is ∙ plan-built line thing b)

    plan-silent : (number : List ℕ) → account_declared number lines ≡ None → IsSilent number (one (plan_said (Some account) plan))
    plan-silent number none =
        let other = undeclared-other lines old stands account at.thing.0 at.declared number none in
        record {
          windows = refl;
          keyholders = refl;
          plans = ap (λ own. cons_option (option_map (λ said. (n, said)) (if own then Some said_plan_of else None)) []) other;
        }

    pub plan-of-taken : (e : Entry) (new : Table) → plan.line ≡ n → slice_get old.accounts place ≡ Some e → None ≡ find (λ p. same_class plan.class p.class) e.plans
        → IfSome (slice_get old.accounts place) (λ (x : Entry). new.accounts ≡ changed x.account.number (with_plan plan) old.accounts)
        → new.plans ≡ old.plans → new.operators ≡ old.operators → new.lapse ≡ old.lapse
        → (fault_of lines n (plan_said (Some account) plan) ≡ None) × Stands (more (plan_said (Some account) plan)) new
    plan-of-taken e new line there none added plans operators lapse =
        let l : Line = (n, Some (plan_said (Some account) plan)) in
        let wrote = at-some (slice_get old.accounts place) _ (entry_in lines at.thing) at.at added in (
          plan-declared e there ∙ ap (λ found. two_same n (option_map (λ (p : ClassPlan). p.line) found)) (sym none),
          stands-more lines l old new stands
              (wrote ∙ ap (λ number. changed number (with_plan plan) old.accounts) at.same
              ∙ accounts-changed lines l old account (with_plan plan) stands (plan-entered line))
              (plans ∙ plans-silent lines l old stands) (operators ∙ operators-silent lines l old stands) (lapse ∙ lapse-silent lines l old stands) plan-silent,
        )
