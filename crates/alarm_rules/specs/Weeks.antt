-- Weekly opening hours by the local time of a zone. A moment is a number of seconds since the beginning of 1970 in GMT.
use Rattle.std.specs.Prelude.{◌≡◌, ◌<◌, ◌≤◌, ◌+◌, ◌-◌, ◌*◌, ◌/◌, ◌==◌, ◌&&◌, ℕ, Bool, true, not, nat_le, nat_lt, List, Option, option_map}
use Rattle.std.specs.List.{list_any}
use Rattle.arc_data.specs.declared.window.Window.{Window}
use Rattle.zone_rules.specs.Zones.{Zone}
use Rattle.zone_rules.specs.ZonedTime.{zoned_weekday, zoned_minute}
use Rattle.alarm_rules.specs.FirstFrom.{first_from}

-- the windows of a week, by the local time of a zone
pub record Week : Type 0 where
  pub zone : Zone
  pub windows : List Window

-- the window holds this minute of this weekday: it begins no later, and ends after it
abbrev pub holds : ℕ → ℕ → Window → Bool
holds weekday minute w = (w.weekday == weekday) && nat_le w.from minute && nat_lt minute w.to

-- some window holds the local weekday and minute of the moment
abbrev pub in_hours : Week → ℕ → Bool
in_hours week t = list_any (holds (zoned_weekday week.zone t) (zoned_minute week.zone t)) week.windows

-- a closing moment: it is not in hours, while the second before it is
abbrev pub is_closing : Week → ℕ → Bool
is_closing week t = nat_lt 0 t && in_hours week (t - 1) && not (in_hours week t)

-- The first closing moment after another moment, minute by minute: of the 86,400 whole minutes that follow, which are 60 days,
-- the first at which the hours close. Where a clock is put forward over the end of a window, the hours close as it is; where
-- it is put back, they may close twice.
abbrev pub next_close : Week → ℕ → Option ℕ
next_close week after =
    option_map (λ minute. minute * 60) (first_from (λ minute. is_closing week (minute * 60)) (after / 60 + 1) 86_400)

-- t is the first closing moment after another moment, and comes within 60 days
pub record IsNextClose (week : Week) (after t : ℕ) : Type 0 where
  pub closing : is_closing week t ≡ true
  pub later : after < t
  pub near : t ≤ after + 5_184_000
  pub first : (u : ℕ) → after < u → is_closing week u ≡ true → t ≤ u
