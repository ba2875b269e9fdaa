use Rattle.std.proofs.Common.{◌≡◌, ◌++◌, [], take}
use Rattle.std.specs.List.{flat_map}
use Rattle.centre_rules.specs.Sums.{account_row}
use Rattle.known_accounts.specs.Supervised.{rows_sum}
use Rattle.summary_rules.specs.Spelling.{row_text}
use Rattle.std.specs.Prelude.{map}
use Rattle.centre_core.proofs.summing.put_rows.Given as goal

abbrev pub invariant-loop-i : goal.invariant-loop-i
invariant-loop-i l = l.out.items ≡ l.initial.out.items ++ flat_map row_text (map (account_row (rows_sum l.rows) []) (take l.i l.accounts))
