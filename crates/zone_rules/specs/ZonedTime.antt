-- Local time in a zone. It is that of the whole minute of GMT at or before the moment, so that hours change at whole minutes
-- whatever the rule says. Divisions round down, so that what remains is never negative, also before 1970.
use Rattle.std.specs.Prelude.{ℕ, ◌*◌, ◌/◌, ℤ, pos, ◌+ℤ◌, min, unsigned_abs}
use Rattle.std.specs.Int.{int_div_euclid, int_rem_euclid}
use Rattle.zone_rules.specs.Zones.{Zone}
use Rattle.zone_rules.specs.Daylight.{ahead_at}

-- The last second at which a rule is asked, 26 hours before the year 10000: it is the last one of which jiff has an
-- instant, and what holds there holds to the end of 9999.
abbrev pub last_asked : ℕ
last_asked = 253_402_207_200

-- the seconds that local time is ahead of GMT in the minute that the moment lies in
abbrev pub offset_at : Zone → ℕ → ℤ
offset_at zone t = ahead_at zone (min (t / 60 * 60) last_asked)

-- the seconds that the local clock is past the beginning of 1970 as this minute begins
abbrev pub zoned_seconds : Zone → ℕ → ℤ
zoned_seconds zone t = pos (t / 60 * 60) +ℤ offset_at zone t

-- the whole days among them: 0 is 1 January 1970, and earlier days are negative
abbrev pub zoned_day : Zone → ℕ → ℤ
zoned_day zone t = int_div_euclid (zoned_seconds zone t) (pos 86_400)

-- the whole minutes since local midnight
abbrev pub zoned_minute : Zone → ℕ → ℕ
zoned_minute zone t = unsigned_abs (int_rem_euclid (zoned_seconds zone t) (pos 86_400)) / 60

-- the day of the week, from 0 for Monday: 1 January 1970 was a Thursday
abbrev pub zoned_weekday : Zone → ℕ → ℕ
zoned_weekday zone t = unsigned_abs (int_rem_euclid (zoned_day zone t +ℤ pos 3) (pos 7))
