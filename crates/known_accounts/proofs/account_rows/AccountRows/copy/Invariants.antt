use Rattle.std.proofs.Common.{◌≡◌, map, take}
use Rattle.known_accounts.specs.Rows.{row_at}
use Rattle.known_accounts.proofs.account_rows.AccountRows.copy.Given as goal

abbrev pub invariant-loop-place : goal.invariant-loop-place
invariant-loop-place l = record {
  start : l.copy.start ≡ l.self.start;
  rows : l.copy.rows ≡ take l.place l.self.rows;
}
