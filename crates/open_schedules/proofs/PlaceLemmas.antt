-- From local time to the minutes of the local week.
use Rattle.std.proofs.Common.{◌≡◌, ◌+◌, ◌/◌, ◌%◌, ℕ, ℤ, pos, ◌+ℤ◌, ap, ◌∙◌, arith, unsigned_abs}
use Rattle.std.specs.Int.{int_div_euclid, int_rem_euclid}
use Rattle.jiff_core.specs.Calendar.{IsWithin}
use Rattle.jiff_core.proofs.SignedLemmas.{signed_arith, int_div_euclid-parts, int_rem_euclid-parts, unsigned_abs-parts, one_part}
use Rattle.zone_rules.specs.Zones.{Zone}
use Rattle.zone_rules.specs.ZonedTime.{zoned_minute, zoned_weekday}
use Rattle.civil_time.specs.ZonedMinutes.{minutes_ahead}
use Rattle.civil_time.proofs.ZoneLemmas.{zoned_day-minutes, zoned_minute-minutes}
use Rattle.open_schedules.specs.Minutes.{week_minute}

-- the day of the week and the minute of the day are those of the minute of the local week
place : (m : ℕ) (ahead : ℤ) → IsWithin 1560 ahead
    → (unsigned_abs (int_rem_euclid (int_div_euclid (pos m +ℤ ahead) (pos 1440) +ℤ pos 3) (pos 7)) ≡ week_minute ahead m / 1440)
    × (unsigned_abs (int_rem_euclid (pos m +ℤ ahead) (pos 1440)) ≡ week_minute ahead m % 1440)
place m ahead near =
    let low = near.0 in
    let high = near.1 in
    let minutes = pos m +ℤ ahead in
    let day = int_div_euclid minutes (pos 1440) +ℤ pos 3 in
    let in_days = int_div_euclid-parts minutes 1440 (omega arith) in
    let in_weeks = int_div_euclid-parts day 7 (omega arith) in
    let rest = int_rem_euclid-parts minutes 1440 (omega arith) in
    let of_day = unsigned_abs-parts (int_rem_euclid minutes (pos 1440)) in
    let of_week = int_rem_euclid-parts day 7 (omega arith) in
    let weekday = unsigned_abs-parts (int_rem_euclid day (pos 7)) in
    let shift = unsigned_abs-parts (ahead +ℤ pos 4320) in
    let positive = one_part (ahead +ℤ pos 4320) in
    (omega (arith, signed_arith), omega (arith, signed_arith))

pub zoned-place : (zone : Zone) (t : ℕ) → IsWithin 1560 (minutes_ahead zone (t / 60))
    → (zoned_weekday zone t ≡ week_minute (minutes_ahead zone (t / 60)) (t / 60) / 1440)
    × (zoned_minute zone t ≡ week_minute (minutes_ahead zone (t / 60)) (t / 60) % 1440)
zoned-place zone t near =
    let at = place (t / 60) (minutes_ahead zone (t / 60)) near in
    (ap (λ day. unsigned_abs (int_rem_euclid (day +ℤ pos 3) (pos 7))) (zoned_day-minutes zone t) ∙ at.0, zoned_minute-minutes zone t ∙ at.1)
