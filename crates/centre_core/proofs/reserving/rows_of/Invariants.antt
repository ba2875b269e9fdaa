-- So many rows lack for so many of the signals.
use Rattle.std.proofs.Common.{◌≡◌, ◌≤◌, length, map, take}
use Rattle.centre_rules.specs.Marks.{Carried}
use Rattle.known_accounts.specs.Rows.{lacking}
use Rattle.centre_core.proofs.reserving.rows_of.Given as goal

abbrev pub invariant-loop-x : goal.invariant-loop-x
invariant-loop-x l = record {
  so_far : l.count ≡ length (lacking l.rows.rows (map (λ (x : Carried). x.account) (take l.x-index l.carried)));
  few : l.count ≤ l.x-index;
}
