-- What a setup that was read hands out, and what it means.
use Rattle.std.specs.Prelude.{◌≡◌, ◌≤◌, ℕ, List, [], None, length}
use Rattle.alarm_rules.specs.Setups.{Account, said_lines, first_fault}
use Rattle.accounts.specs.declared.account.Account.{Account as Kept}
use Rattle.accounts.specs.declared.table.Table.{Table}
use Rattle.accounts.specs.Standing.{Stands}

abbrev pub defined : Kept → Account
defined account = record {
  number = account.number;
  key = account.key;
  beat = account.beat;
  week = account.week;
  holders = account.holders;
}

-- the text is a setup, and its lines declare what the table has
pub record IsReadFrom (text : List ℕ) (table : Table) : Type 0 where
  pub size : length text ≤ 4194304
  pub faultless : first_fault [] (said_lines text) ≡ None
  pub stands : Stands (said_lines text) table
