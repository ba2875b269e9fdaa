-- Moments: numbers of seconds since the beginning of 1970, in GMT.
use Rattle.std.specs.Prelude.{ℕ, ◌<◌}

-- the first second of the year 10000
abbrev pub moments_end : ℕ
moments_end = 253_402_300_800

-- the second lies before the year 10000
abbrev pub IsMoment : ℕ → Type 0
IsMoment t = t < moments_end
