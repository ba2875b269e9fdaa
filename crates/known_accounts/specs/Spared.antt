-- Memory for rows that come later.
use Rattle.std.specs.Prelude.{◌≡◌, ◌≤◌, ℕ, List, [], length}
use Rattle.std.specs.List.{All}
use Rattle.indexmap.specs.IndexMap.{IndexMap, spare}
use Rattle.arc_data.specs.declared.event.Past.{Past}
use Rattle.known_accounts.specs.declared.row.Row.{Row}

-- the windows are empty, and for each there is a place in the map
pub record IsSpared {S : Type 0} (windows : List (List Past)) (rows : IndexMap (List ℕ) Row S) : Type 0 where
  pub empty : All (λ w. w ≡ []) windows
  pub places : length windows ≤ spare rows
