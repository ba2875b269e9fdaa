-- So many of the signals are taken up, and there is room for the rows of the others.
use Rattle.std.proofs.Common.{◌≡◌, map, drop}
use Rattle.centre_rules.specs.Marks.{Carried}
use Rattle.known_accounts.specs.Rows.{HasRoom}
use Rattle.centre_core.proofs.Taking.{CarriesSome}
use Rattle.centre_core.proofs.marks.carry_each.Given as goal

abbrev pub invariant-loop-x : goal.invariant-loop-x
invariant-loop-x l = record {
  text : l.accounts.text ≡ l.initial.accounts.text;
  some : CarriesSome l.x-index l.carried l.initial.accounts.rows l.accounts.rows l.initial.table l.table;
  room : HasRoom (map (λ (x : Carried). x.account) (drop l.x-index l.carried)) l.accounts.rows;
}
