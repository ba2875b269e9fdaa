-- The first number of a range that passes a test.
use Rattle.std.specs.Prelude.{ℕ, zero, suc, ◌+◌, Bool, Option, Some, None, if◌then◌else◌}

-- the first number that passes the test among so many from the start on
unfoldable pub first_from : (ℕ → Bool) → ℕ → ℕ → Option ℕ
first_from test start zero = None
first_from test start (suc more) = if test start then Some start else first_from test (start + 1) more
