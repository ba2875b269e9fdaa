-- What a setup text means.
use Rattle.std.specs.Prelude.{ℕ, ◌&&◌, pos, Bool, true, false, if◌then◌else◌, List, [], ◌∷◌, ◌++◌, Option, Some, None, is_some}
use Rattle.std.specs.Prelude.{option_and_then, Result, Ok, Err, nat_lt, length, map}
use Rattle.std.specs.List.{enumerate_from, filter_map, find, position}
use Rattle.std.specs.Option.{option_eq, option_map, option_map_or, option_or, unwrap_or}
use Rattle.std.specs.Result.{result_unwrap_or}
use Rattle.std.specs.Str.{bytes_eq}
use Rattle.std.specs.Str.Lines.{lines}
use Rattle.arc_data.specs.Classes.{same_class}
use Rattle.arc_data.specs.declared.plan.Planned.{Planned}
use Rattle.arc_data.specs.declared.plan.PlanWord.TheVariants.{Note}
use Rattle.arc_data.specs.declared.setup_fault.LineKind.TheVariants.{Form, BadZone, NoAccount}
use Rattle.arc_data.specs.declared.setup_fault.SetupFault.{SetupFault}
use Rattle.arc_data.specs.declared.setup_fault.SetupFault.TheVariants.{TooLarge, BadLine, TwoSame, TooMany}
use Rattle.arc_data.specs.declared.signal.Class.{Class}
use Rattle.arc_data.specs.declared.step.Step.{Step}
use Rattle.arc_data.specs.declared.window.Window.{Window}
use Rattle.zone_rules.specs.Zones.{Zone, fixed_zone}
use Rattle.alarm_rules.specs.Limits.{largest_setup, most_accounts, most_windows, most_keyholders, most_operators}
use Rattle.alarm_rules.specs.Plans.{steps_in}
use Rattle.alarm_rules.specs.SetupLines.{Said, AccountLine, PlanLine, Operator, says}
use Rattle.alarm_rules.specs.SetupLines.{Nothing, OfAccount, OfHours, OfKeyholder, OfPlan, OfOperator, OfLapse}
use Rattle.alarm_rules.specs.Weeks.{Week, in_hours}

-- an account: its number in capitals, the bytes of its key and the seconds of its interval, where it has them, its opening
-- hours, and how many keyholders it has
pub record Account : Type 0 where
  pub number : List ℕ
  pub key : Option (List ℕ)
  pub beat : Option ℕ
  pub week : Week
  pub holders : ℕ

-- accounts, plans and operators, each in the order of their lines, and after how many seconds a hold lapses, where a line says so
pub record Setup : Type 0 where
  pub accounts : List Account
  pub plans : List PlanLine
  pub operators : List Operator
  pub lapse : Option ℕ

-- Lines. Lines end with a line feed, before which one carriage return is dropped; what is left after the last line feed is a
-- line where it is not empty. Lines are numbered from 1. A line is a pair of its number and what it says, which is none where it is
-- of no form.

abbrev pub Line : Type 0
Line = ℕ × Option Said

abbrev pub said_lines : List ℕ → List Line
said_lines text = enumerate_from 1 (map says (lines text))

-- what the lines tell of one kind of thing, each with the number of its line
abbrev pub told : {A : Type 0} → (Said → Option A) → List Line → List (ℕ × A)
told part lines = filter_map (λ line. option_map (λ thing. (line.0, thing)) (option_and_then part line.1)) lines

-- the parts of what is said

abbrev pub account_part : Said → Option AccountLine
account_part (OfAccount line) = Some line
account_part other = None

abbrev pub hours_part : List ℕ → Said → Option Window
hours_part number (OfHours line) = if bytes_eq number line.account then Some line.window else None
hours_part number other = None

abbrev pub keyholder_part : List ℕ → Said → Option (List ℕ)
keyholder_part number (OfKeyholder line) = if bytes_eq number line.account then Some line.name else None
keyholder_part number other = None

abbrev pub plan_part : Said → Option PlanLine
plan_part (OfPlan line) = Some line
plan_part other = None

abbrev pub operator_part : Said → Option Operator
operator_part (OfOperator line) = Some line
operator_part other = None

abbrev pub lapse_part : Said → Option ℕ
lapse_part (OfLapse seconds) = Some seconds
lapse_part other = None

-- the accounts that lines declare, an account's windows and names of keyholders, the plans, and the operators
abbrev pub accounts_in : List Line → List (ℕ × AccountLine)
accounts_in lines = told account_part lines

abbrev pub windows_in : List ℕ → List Line → List (ℕ × Window)
windows_in number lines = told (hours_part number) lines

abbrev pub keyholders_in : List ℕ → List Line → List (ℕ × List ℕ)
keyholders_in number lines = told (keyholder_part number) lines

abbrev pub plans_in : List Line → List (ℕ × PlanLine)
plans_in lines = told plan_part lines

abbrev pub operators_in : List Line → List (ℕ × Operator)
operators_in lines = told operator_part lines

-- Faults of a line, after the lines before it, where those have none.

-- the number of the first of these lines whose thing passes the test
abbrev pub line_with : {A : Type 0} → (A → Bool) → List (ℕ × A) → Option ℕ
line_with test things = option_map (λ thing. thing.0) (find (λ thing. test thing.1) things)

-- the number of the line that declares the account
abbrev pub account_declared : List ℕ → List Line → Option ℕ
account_declared number lines = line_with (λ account. bytes_eq number account.number) (accounts_in lines)

-- the plan is for this class, and for this account, or for all accounts where none is named
abbrev pub is_plan_of : Option (List ℕ) → Class → PlanLine → Bool
is_plan_of account class plan = option_eq bytes_eq account plan.account && same_class class plan.class

-- BadZone, where the text that names the zone is no rule
abbrev pub bad_zone : ℕ → Option Zone → Option SetupFault
bad_zone number zone = if is_some zone then None else Some (BadLine number BadZone)

-- NoAccount, where no earlier line declares the account
abbrev pub no_account : ℕ → List ℕ → List Line → Option SetupFault
no_account number account earlier = if is_some (account_declared account earlier) then None else Some (BadLine number NoAccount)

-- TwoSame, where an earlier line declares the same
abbrev pub two_same : ℕ → Option ℕ → Option SetupFault
two_same number first = option_map (TwoSame number) first

-- TooMany, where there are as many already as there may be
abbrev pub too_many : ℕ → ℕ → ℕ → Option SetupFault
too_many number limit count = if nat_lt count limit then None else Some (TooMany number limit)

-- the first fault of those that come in this order: BadZone, NoAccount, TwoSame, TooMany
abbrev pub fault_of : List Line → ℕ → Said → Option SetupFault
fault_of earlier number Nothing = None
fault_of earlier number (OfAccount line) =
    option_or (bad_zone number line.zone)
    (option_or (two_same number (account_declared line.number earlier))
    (too_many number most_accounts (length (accounts_in earlier))))
fault_of earlier number (OfHours line) =
    option_or (no_account number line.account earlier)
    (too_many number most_windows (length (windows_in line.account earlier)))
fault_of earlier number (OfKeyholder line) =
    option_or (no_account number line.account earlier)
    (option_or (two_same number (line_with (bytes_eq line.name) (keyholders_in line.account earlier)))
    (too_many number most_keyholders (length (keyholders_in line.account earlier))))
fault_of earlier number (OfPlan line) =
    option_or (option_and_then (λ account. no_account number account earlier) line.account)
    (two_same number (line_with (is_plan_of line.account line.class) (plans_in earlier)))
fault_of earlier number (OfOperator line) =
    option_or (two_same number (line_with (λ operator. bytes_eq line.name operator.name) (operators_in earlier)))
    (too_many number most_operators (length (operators_in earlier)))
fault_of earlier number (OfLapse seconds) = two_same number (line_with (λ any. true) (told lapse_part earlier))

-- the fault of a line: that it is of no form, or else what is wrong with what it says
abbrev pub fault_at : List Line → Line → Option SetupFault
fault_at earlier (number, None) = Some (BadLine number Form)
fault_at earlier (number, Some said) = fault_of earlier number said

-- the fault of the first of these lines that has one, after the lines before them
unfoldable pub first_fault : List Line → List Line → Option SetupFault
first_fault earlier [] = None
first_fault earlier (line ∷ more) = option_or (fault_at earlier line) (first_fault (earlier ++ line ∷ []) more)

-- The setup of lines without a fault.

abbrev pub things : {A : Type 0} → List (ℕ × A) → List A
things numbered = map (λ thing. thing.1) numbered

-- the zone that a line names; in lines without a fault there is one
abbrev pub zone_or_gmt : Option Zone → Zone
zone_or_gmt zone = unwrap_or zone (fixed_zone (pos 0))

-- an account with all that the lines say of it
abbrev pub account_with : List Line → AccountLine → Account
account_with lines account = record {
  number = account.number;
  key = account.key;
  beat = account.beat;
  week = record { zone = zone_or_gmt account.zone; windows = things (windows_in account.number lines) };
  holders = length (keyholders_in account.number lines);
}

abbrev pub setup_of_lines : List Line → Setup
setup_of_lines lines = record {
  accounts = map (account_with lines) (things (accounts_in lines));
  plans = things (plans_in lines);
  operators = things (operators_in lines);
  lapse = find (λ any. true) (things (told lapse_part lines));
}

-- The setup that a text means, or its fault: that it has more than 4,194,304 bytes, and otherwise the fault of the first
-- line that has one.
unfoldable pub setup_of : List ℕ → Result Setup SetupFault
setup_of text =
    if nat_lt largest_setup (length text) then Err TooLarge
    else option_map_or Err (first_fault [] (said_lines text)) (Ok (setup_of_lines (said_lines text)))

-- the setup of a text; a text that is no setup means one of nothing
abbrev pub meaning : List ℕ → Setup
meaning text = result_unwrap_or (setup_of text) (record { accounts = []; plans = []; operators = []; lapse = None })

-- What is asked of a setup. Accounts are named in capitals.

abbrev pub has_number : List ℕ → Account → Bool
has_number number account = bytes_eq number account.number

abbrev pub account_of : Setup → List ℕ → Option Account
account_of setup number = find (has_number number) setup.accounts

-- the bytes of the account's key, where the setup has the account and the account has a key
abbrev pub key_of : Setup → List ℕ → Option (List ℕ)
key_of setup number = option_and_then (λ account. account.key) (account_of setup number)

abbrev pub has_account : Setup → List ℕ → Bool
has_account setup number = is_some (account_of setup number)

-- where the account stands among the accounts of the setup, counted from 0
abbrev pub place_of : Setup → List ℕ → Option ℕ
place_of setup number = position (has_number number) setup.accounts

abbrev pub operator_of : Setup → List ℕ → Option Operator
operator_of setup name = find (λ operator. bytes_eq name operator.name) setup.operators

abbrev pub has_operator : Setup → List ℕ → Bool
has_operator setup name = is_some (operator_of setup name)

-- the words of the account's plan for the class, or of the plan for all accounts, where there are such
abbrev pub words_for : Setup → Option (List ℕ) → Class → Option (List Planned)
words_for setup account class = option_map (λ plan. plan.words) (find (is_plan_of account class) setup.plans)

-- the plan of an account for a class: its own, or else that for all accounts, or else the one word `note`
abbrev pub plan_of : Setup → List ℕ → Class → List Planned
plan_of setup number class =
    unwrap_or (option_or (words_for setup (Some number) class) (words_for setup None class)) (record { word = Note; closed = false } ∷ [])

-- the steps of an incident of the account and class that opens at the moment; of an account that the setup lacks there are none
abbrev pub steps_of : Setup → List ℕ → Class → ℕ → List Step
steps_of setup number class moment =
    option_map_or (λ account. steps_in (in_hours account.week moment) account.holders (plan_of setup number class))
    (account_of setup number) []
