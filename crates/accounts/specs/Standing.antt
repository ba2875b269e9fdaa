-- What the lines so far declare, as it is kept.
use Rattle.std.specs.Prelude.{◌≡◌, ◌⊎◌, ℕ, List, [], ◌∷◌, ◌++◌, true, Option, Some, None, Result, Ok, Err, if◌then◌else◌, length, map}
use Rattle.std.specs.List.{find}
use Rattle.std.specs.Option.{option_eq, option_map}
use Rattle.std.specs.Str.{bytes_eq}
use Rattle.arc_data.specs.declared.setup_fault.SetupFault.{SetupFault}
use Rattle.arc_data.specs.declared.setup_fault.SetupFault.TheVariants.{Memory}
use Rattle.alarm_rules.specs.SetupLines.{Said, OfPlan, AccountLine, PlanLine, Operator}
use Rattle.alarm_rules.specs.Setups.{Line, told, things, account_declared, fault_at, zone_or_gmt}
use Rattle.alarm_rules.specs.Setups.{accounts_in, windows_in, keyholders_in, operators_in, lapse_part}
use Rattle.accounts.specs.declared.entry.Entry.{Entry}
use Rattle.accounts.specs.declared.keyholders.Keyholder.{Keyholder}
use Rattle.accounts.specs.declared.operator_table.OperatorEntry.{OperatorEntry}
use Rattle.accounts.specs.declared.plan_list.ClassPlan.{ClassPlan}
use Rattle.accounts.specs.declared.table.LapseEntry.{LapseEntry}
use Rattle.accounts.specs.declared.table.Table.{Table}

-- Things with the numbers of their lines.

abbrev pub keyholder_entry : ℕ × List ℕ → Keyholder
keyholder_entry thing = record { name = thing.1; line = thing.0 }

abbrev pub plan_entry : ℕ × PlanLine → ClassPlan
plan_entry thing = record { class = thing.1.class; plan = thing.1.words; line = thing.0 }

abbrev pub operator_entry : ℕ × Operator → OperatorEntry
operator_entry thing = record { operator = record { name = thing.1.name; pin = thing.1.pin }; line = thing.0 }

abbrev pub lapse_entry : ℕ × ℕ → LapseEntry
lapse_entry thing = record { seconds = thing.1; line = thing.0 }

-- the first line that says after how many seconds a hold lapses
abbrev pub first_lapse : List (ℕ × ℕ) → Option (ℕ × ℕ)
first_lapse lapses = find (λ any. true) lapses

-- a plan as it is said, of an account or of all
abbrev pub plan_said : Option (List ℕ) → ClassPlan → Said
plan_said account plan = OfPlan (record { account = account; class = plan.class; words = plan.plan })

-- the plans of an account, or of all
abbrev pub plan_for : Option (List ℕ) → Said → Option PlanLine
plan_for account (OfPlan line) = if option_eq bytes_eq account line.account then Some line else None
plan_for account other = None

abbrev pub plans_for : Option (List ℕ) → List Line → List (ℕ × PlanLine)
plans_for account lines = told (plan_for account) lines

-- an account with all that the lines say of it
abbrev pub entry_in : List Line → ℕ × AccountLine → Entry
entry_in lines thing =
    let account = thing.1 in
    record {
      account = record {
        number = account.number;
        key = account.key;
        beat = account.beat;
        week = record { zone = zone_or_gmt account.zone; windows = things (windows_in account.number lines) };
        holders = length (keyholders_in account.number lines);
      };
      line = thing.0;
      keyholders = map keyholder_entry (keyholders_in account.number lines);
      plans = map plan_entry (plans_for (Some account.number) lines);
    }

-- the lines say nothing of an account
pub record IsSilent (number : List ℕ) (lines : List Line) : Type 0 where
  pub windows : windows_in number lines ≡ []
  pub keyholders : keyholders_in number lines ≡ []
  pub plans : plans_for (Some number) lines ≡ []

-- what the lines declare is what the table has, and they say nothing of an account that they do not declare
pub record Stands (lines : List Line) (table : Table) : Type 0 where
  pub accounts : table.accounts ≡ map (entry_in lines) (accounts_in lines)
  pub plans : table.plans ≡ map plan_entry (plans_for None lines)
  pub operators : table.operators ≡ map operator_entry (operators_in lines)
  pub lapse : table.lapse ≡ option_map lapse_entry (first_lapse (told lapse_part lines))
  pub silent : (number : List ℕ) → account_declared number lines ≡ None → IsSilent number lines

-- A line that is taken up, or its fault, after lines without a fault.
abbrev pub IsTaken : Table → ℕ → Option Said → Result Unit SetupFault → Table → Type 0
IsTaken old number said (Ok done) new =
    (lines : List Line) → Stands lines old → (fault_at lines (number, said) ≡ None) × Stands (lines ++ (number, said) ∷ []) new
IsTaken old number said (Err fault) new =
    (fault ≡ Memory) ⊎ ((lines : List Line) → Stands lines old → fault_at lines (number, said) ≡ Some fault)
