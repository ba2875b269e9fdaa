-- Local time at a fixed offset of so many minutes before or after GMT. Divisions round down, so that what remains is
-- never negative, also before 1970.
use Rattle.std.specs.Prelude.{ℕ, ◌/◌, ℤ, pos, ◌+ℤ◌, ◌*ℤ◌, unsigned_abs}
use Rattle.std.specs.Int.{int_div_euclid, int_rem_euclid}

-- the seconds that the local clock is past the beginning of 1970
abbrev pub local_seconds : ℕ → ℤ → ℤ
local_seconds t offset = pos t +ℤ (offset *ℤ pos 60)

-- the whole days among them: 0 is 1 January 1970, and earlier days are negative
abbrev pub local_day : ℕ → ℤ → ℤ
local_day t offset = int_div_euclid (local_seconds t offset) (pos 86_400)

-- the whole minutes since local midnight
abbrev pub local_minute : ℕ → ℤ → ℕ
local_minute t offset = unsigned_abs (int_rem_euclid (local_seconds t offset) (pos 86_400)) / 60

-- the day of the week, from 0 for Monday: 1 January 1970 was a Thursday
abbrev pub local_weekday : ℕ → ℤ → ℕ
local_weekday t offset = unsigned_abs (int_rem_euclid (local_day t offset +ℤ pos 3) (pos 7))
