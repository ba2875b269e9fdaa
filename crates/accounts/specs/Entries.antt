-- What a setup keeps of its accounts and operators.
use Rattle.std.specs.Prelude.{ℕ, List, [], ◌∷◌, ◌++◌, Bool, Option, if◌then◌else◌, length, map}
use Rattle.std.specs.List.{find}
use Rattle.std.specs.Str.{bytes_eq}
use Rattle.arc_data.specs.declared.window.Window.{Window}
use Rattle.alarm_rules.specs.Setups.{zone_or_gmt}
use Rattle.accounts.specs.declared.entry.Entry.{Entry}
use Rattle.accounts.specs.declared.keyholders.Keyholder.{Keyholder}
use Rattle.accounts.specs.declared.line.AccountLine.{AccountLine}
use Rattle.accounts.specs.declared.operator_table.OperatorEntry.{OperatorEntry}
use Rattle.accounts.specs.declared.plan_list.ClassPlan.{ClassPlan}

-- that of an account of which no line says more than its own
abbrev pub new_entry : AccountLine → ℕ → Entry
new_entry account line = record {
  account = record {
    number = account.number;
    key = account.key;
    beat = account.beat;
    week = record { zone = zone_or_gmt account.zone; windows = [] };
    holders = 0;
  };
  line = line;
  keyholders = [];
  plans = [];
}

-- By number.

abbrev pub entry_number : Entry → List ℕ
entry_number entry = entry.account.number

abbrev pub is_numbered : List ℕ → Entry → Bool
is_numbered number entry = bytes_eq number entry.account.number

abbrev pub find_number : List ℕ → List Entry → Option Entry
find_number number entries = find (is_numbered number) entries

-- One more thing of an account.

abbrev pub with_window : Window → Entry → Entry
with_window window entry =
    let week = entry.account.week in
    record entry { account = record entry.account { week = record week { windows = week.windows ++ window ∷ [] } } }

abbrev pub with_keyholder : Keyholder → Entry → Entry
with_keyholder keyholder entry =
    let keyholders = entry.keyholders ++ keyholder ∷ [] in
    record entry { account = record entry.account { holders = length keyholders }; keyholders = keyholders }

abbrev pub with_plan : ClassPlan → Entry → Entry
with_plan plan entry = record entry { plans = entry.plans ++ plan ∷ [] }

-- the entries after a change of the one that has this number
abbrev pub changed : List ℕ → (Entry → Entry) → List Entry → List Entry
changed number change entries = map (λ entry. if bytes_eq entry.account.number number then change entry else entry) entries

-- By name.

abbrev pub operator_name : OperatorEntry → List ℕ
operator_name entry = entry.operator.name

abbrev pub is_named : List ℕ → OperatorEntry → Bool
is_named name entry = bytes_eq name entry.operator.name

abbrev pub find_name : List ℕ → List OperatorEntry → Option OperatorEntry
find_name name entries = find (is_named name) entries
