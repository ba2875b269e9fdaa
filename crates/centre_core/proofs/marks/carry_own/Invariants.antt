-- So many of the signals are taken up, and the account stands where it stood.
use Rattle.std.proofs.Common.{◌≡◌, ℕ, List}
use Rattle.known_accounts.specs.Supervised.{IsPlaceOf}
use Rattle.centre_core.proofs.Taking.{CarriesSome}
use Rattle.centre_core.proofs.marks.carry_own.Given as goal

abbrev pub invariant-loop-x : goal.invariant-loop-x
invariant-loop-x l = record {
  text : l.accounts.text ≡ l.initial.accounts.text;
  some : CarriesSome l.x-index l.carried l.initial.accounts.rows l.accounts.rows l.initial.table l.table;
  there : (account : List ℕ) → IsPlaceOf account l.place l.initial.accounts → IsPlaceOf account l.place l.accounts;
}
