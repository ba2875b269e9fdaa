use Rattle.std.proofs.Common.{◌≡◌, ◌≤◌, length, []}
use Rattle.std.specs.Prelude.{max}
use Rattle.std.specs.List.{All}
use Rattle.known_accounts.proofs.account_rows.fill.Given as goal

abbrev pub invariant-loop : goal.invariant-loop
invariant-loop l = record {
  count : length l.windows.items ≡ l.counter;
  bound : l.counter ≤ max (length l.initial.windows.items) l.wanted;
  empty : All (λ w. w ≡ []) l.windows.items;
}
