-- What ends a line.
use Rattle.std.specs.Prelude.{ℕ, Bool, ◌==◌}

abbrev pub is_line_feed : ℕ → Bool
is_line_feed b = b == 10
