-- By how many minutes local time is ahead of GMT, and for how long that stays.
use Rattle.std.specs.Prelude.{◌≡◌, ◌<◌, ◌≤◌, ◌*◌, ℕ, ℤ, pos}
use Rattle.std.specs.Int.{int_div_euclid}
use Rattle.zone_rules.specs.Zones.{Zone}
use Rattle.zone_rules.specs.ZonedTime.{offset_at}

-- the whole minutes that local time is ahead of GMT in this minute since 1970
abbrev pub minutes_ahead : Zone → ℕ → ℤ
minutes_ahead zone minute = int_div_euclid (offset_at zone (minute * 60)) (pos 60)

-- from this minute to one before that one local time stays as far ahead of GMT
abbrev pub StaysAhead : Zone → ℕ → ℕ → Type 0
StaysAhead zone minute change = (u : ℕ) → minute ≤ u → u < change → minutes_ahead zone u ≡ minutes_ahead zone minute
