-- Where an account stands stays, as rows and the setup in force do.
use Rattle.std.proofs.Common.{◌≡◌, ℕ, List, sym, subst}
use Rattle.known_accounts.specs.declared.supervised_accounts.AccountPlace.{AccountPlace}
use Rattle.known_accounts.specs.Rows.{KeepsRows}
use Rattle.known_accounts.specs.Supervised.{SupervisedValue, IsPlaceIn, IsPlaceOf}
use Rattle.known_accounts.proofs.Numbered.{stands_kept}

pub place_kept : (s t : SupervisedValue) (account : List ℕ) (place : AccountPlace) → t.text ≡ s.text → KeepsRows s.rows t.rows
    → IsPlaceOf account place s → IsPlaceOf account place t
place_kept s t account place text kept there = record {
  row = stands_kept s.rows t.rows account place.row kept there.row;
  setup = subst (IsPlaceIn account place.setup) (sym text) there.setup;
}
