-- What a desk's fields keep.
use Rattle.std.specs.Prelude.{◌≡◌, ◌≤◌, ℕ, List, true, Option}
use Rattle.arc_text.specs.LineCutting.{LineCutterValue}
use Rattle.session_rules.specs.Inputs.{input_limit}
use Rattle.desk_session.specs.Events.{is_named, line_limit}

-- the cutter is one for lines of a desk, whom it acts for has a name, and the count is within the limit
pub record IsHeld (cutter : LineCutterValue) (operator : Option (List ℕ)) (count : ℕ) : Type 0 where
  pub limit : cutter.limit ≡ line_limit
  pub named : is_named operator ≡ true
  pub most : count ≤ input_limit
