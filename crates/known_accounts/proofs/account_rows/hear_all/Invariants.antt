use Rattle.std.proofs.Common.{◌≡◌, length, map}
use Rattle.indexmap.specs.IndexMap.{spare}
use Rattle.known_accounts.specs.Rows.{row_at}
use Rattle.known_accounts.proofs.Heard.{heard_first}
use Rattle.known_accounts.proofs.account_rows.hear_all.Given as goal

abbrev pub invariant-loop-place : goal.invariant-loop-place
invariant-loop-place l = record {
  rows : map row_at l.rows.entries ≡ heard_first l.at l.place (map row_at l.initial.rows.entries);
  count : length l.rows.entries ≡ length l.initial.rows.entries;
  spare : spare l.rows ≡ spare l.initial.rows;
}
