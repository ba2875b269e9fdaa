-- Seconds of the machine's clock.
use Rattle.std.specs.Prelude.{ℕ, ◌/◌}
use Rattle.std.specs.Duration.{as_nanos}
use Rattle.std.specs.declared.time.Duration.{Duration}

-- the whole seconds of a time
abbrev pub seconds_of : Duration → ℕ
seconds_of time = as_nanos time / 1_000_000_000
